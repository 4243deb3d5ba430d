-- What is asked of two parts at a place.
use Rattle.std.specs.Prelude.{ℕ, ◌+◌, ◌≤◌, Bool, true, false, cond, not, ◌&&◌, List, ◌++◌, length}
use Rattle.plane.specs.declared.types.Plane.{Plane}
use Rattle.plane.specs.declared.types.Place.{Place}
use Rattle.solid.specs.declared.types.Told.{Told}
use Rattle.solid.specs.declared.types.Told.TheVariants.{In, Out, On}
use Rattle.solid.specs.Shapes.{Shape, Has, planes, solid}
use Rattle.search.specs.Search.{lent_words}
use Rattle.search.specs.Levels.{Level}
use Rattle.solid.specs.Stacks.{shape_of}
use Rattle.solid.specs.Steps.{Coded}
use Rattle.solid.specs.Examples.{told}

-- whether it is told that a place is in the solid
abbrev pub is_in : Told → Bool
is_in In = true
is_in Out = false
is_in On = false

abbrev pub inside : Shape → Place → Bool
inside s q = is_in (told s q)

-- what is said of both parts, joined
abbrev pub joined_in : (Bool → Bool → Bool) → Shape → Shape → Place → Bool
joined_in f s t q = f (inside s q) (inside t q)

-- in one of two and not in the other; in both
abbrev pub in_one : Shape → Shape → Place → Bool
in_one s t q = cond (inside s q) (not (inside t q)) (inside t q)

abbrev pub in_two : Shape → Shape → Place → Bool
in_two s t q = inside s q && inside t q

-- the planes of two parts and of the workshop
abbrev pub planes_of_two : Shape → Shape → List Plane
planes_of_two s t = planes (solid s) ++ planes t

-- the steps of two parts
pub record Parts : Type 0 where
  pub first : List ℕ
  pub second : List ℕ

-- steps of a shape whose planes are all level
pub record LevelSteps (ws : List ℕ) : Type 0 where
  pub coded : Coded ws
  pub level : (p : Plane) → Has (planes (shape_of ws)) p → Level p

-- how many planes and words are lent
pub record Room : Type 0 where
  pub planes : ℕ
  pub lent : ℕ
  pub work : ℕ

-- so much lent memory is enough for these parts
pub record RoomFor (p : Parts) (r : Room) : Type 0 where
  pub planes : 6 + length p.first + length p.second ≤ r.planes
  pub lent : lent_words r.planes ≤ r.lent
  pub first : length p.first ≤ r.work
  pub second : length p.second ≤ r.work
