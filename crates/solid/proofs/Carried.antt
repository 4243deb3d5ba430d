-- Shapes and places changed together: the value of the shape at the place stays.
use Rattle.std.proofs.Common.{ℤ, pos, ap, ◌∙◌}
use lib.Signed.{lt_z}
use Rattle.plane.specs.declared.types.Plane.{Plane}
use Rattle.plane.specs.declared.types.Place.{Place}
use Rattle.plane.specs.Planes.{below, scaled}
use Rattle.plane.specs.Moves.{Together, moved_plane, moved_place, mirrored_plane, mirrored_place, swapped_plane, swapped_place, rolled_plane, rolled_place}
use Rattle.solid.specs.Shapes.{holds}
use Rattle.solid.specs.Laws.{Carried, MovesRight, OnePlace}
use Rattle.plane.proofs.Invariance.{moved_together, mirrored_together, swapped_together, rolled_together, scaled_side}
use Rattle.solid.proofs.Values.{by_same, by_with}

-- if each height stays
pub carried : (f : Plane → Plane) (g : Place → Place) → Together f g → Carried f g
unfolding holds below
carried f g t s q =
    by_with (λ p. below p (g q)) f s ∙ by_same (λ p. below (f p) (g q)) (λ p. below p q) s (λ p h. ap (λ (k : ℤ). lt_z k (pos 0)) (t p q))

pub moves_right : MovesRight
moves_right = record {
  moved = λ t. carried (moved_plane t) (moved_place t) (moved_together t);
  mirrored = carried mirrored_plane mirrored_place mirrored_together;
  swapped = carried swapped_plane swapped_place swapped_together;
  rolled = carried rolled_plane rolled_place rolled_together;
}

-- a place in other terms
pub one_place : OnePlace
unfolding holds
one_place s q k l = by_same (λ p. below p (scaled k q)) (λ p. below p q) s (λ p h. (scaled_side p k q l).in_below)
