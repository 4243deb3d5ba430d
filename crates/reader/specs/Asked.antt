-- A question about a place, as it lies in words.
use Rattle.std.specs.Prelude.{◌≡◌, ℕ, ◌+◌, ◌*◌, ◌≤◌, List, length, take, drop, slice_index}
use Rattle.std.specs.Int.{w64, cast_unsigned}
use Rattle.plane.specs.declared.types.Place.{Place}
use Rattle.plane.specs.Limits.{SmallPlace}
use Rattle.solid.specs.Shapes.{Shape, Fits}
use Rattle.solid.specs.Steps.{words}
use Rattle.grammar.specs.Meaning.{Question, where_is}

-- the k-th six words say where the shape's steps are, and which place it is; both are in range
pub record Lies (steps asked : List ℕ) (k : ℕ) (q : Question) : Type 0 where
  pub shape : Shape
  pub place : Place
  pub is : q ≡ where_is shape place
  pub fits : Fits shape
  pub small : SmallPlace place
  pub from : ℕ
  pub count : ℕ
  pub inside : 6 * k + 6 ≤ length asked
  pub from_is : slice_index asked (6 * k) ≡ from
  pub count_is : slice_index asked (6 * k + 1) ≡ count
  pub x_is : slice_index asked (6 * k + 2) ≡ cast_unsigned w64 place.x
  pub y_is : slice_index asked (6 * k + 3) ≡ cast_unsigned w64 place.y
  pub z_is : slice_index asked (6 * k + 4) ≡ cast_unsigned w64 place.z
  pub w_is : slice_index asked (6 * k + 5) ≡ place.w
  pub steps_inside : from + count ≤ length steps
  pub steps_are : take count (drop from steps) ≡ words shape
  pub long : count ≡ length (words shape)
