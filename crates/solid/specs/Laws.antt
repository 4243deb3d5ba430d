-- What holds of shapes and models as such. Each is a statement; functions of this crate have them in their contracts.
use Rattle.std.specs.Prelude.{◌≡◌, ℕ, ◌*◌, ◌<◌, false, ◌&&◌, ◌||◌, [], unsigned_abs, nat_eq, nat_lt}
use Rattle.plane.specs.declared.types.Plane.{Plane}
use Rattle.plane.specs.declared.types.Place.{Place}
use Rattle.plane.specs.declared.types.Shift.{Shift}
use Rattle.plane.specs.Limits.{reach}
use Rattle.plane.specs.Planes.{scaled}
use Rattle.plane.specs.Moves.{moved_plane, moved_place, mirrored_plane, mirrored_place, swapped_plane, swapped_place, rolled_plane, rolled_place}
use Rattle.solid.specs.Shapes.{Shape, holds, planes, workshop, with_planes, Clear}
use Rattle.solid.specs.Examples.{on_some}
use Rattle.solid.specs.Models.{Model, Right}

-- only a shape with nothing in it has a right model without pieces
abbrev pub NothingThere : Type 0
NothingThere = (s : Shape) (m : Model) → Right s m → m.pieces ≡ [] → (q : Place) → Clear s q → holds s q ≡ false

-- a shape changed holds a place changed exactly if it held the place
abbrev pub Carried : (Plane → Plane) → (Place → Place) → Type 0
Carried f g = (s : Shape) (q : Place) → holds (with_planes f s) (g q) ≡ holds s q

-- moving, mirroring, exchanging x and y, and turning do with places what they say
pub record MovesRight : Type 0 where
  pub moved : (t : Shift) → Carried (moved_plane t) (moved_place t)
  pub mirrored : Carried mirrored_plane mirrored_place
  pub swapped : Carried swapped_plane swapped_place
  pub rolled : Carried rolled_plane rolled_place

-- a place in other terms is the same place
abbrev pub OnePlace : Type 0
OnePlace = (s : Shape) (q : Place) (k : ℕ) → 0 < k → holds s (scaled k q) ≡ holds s q

-- the workshop ends at its reach in all six directions: a place is in it exactly if no coordinate is as far as that, and on
-- one of its planes exactly if a coordinate is just as far
pub record WorkshopEnds : Type 0 where
  pub inside : (q : Place) → holds workshop q ≡ ((nat_lt (unsigned_abs q.x) (reach * q.w) && nat_lt (unsigned_abs q.y) (reach * q.w)) && nat_lt (unsigned_abs q.z) (reach * q.w))
  pub on_end : (q : Place) → on_some (planes workshop) q ≡ ((nat_eq (unsigned_abs q.x) (reach * q.w) || nat_eq (unsigned_abs q.y) (reach * q.w)) || nat_eq (unsigned_abs q.z) (reach * q.w))
