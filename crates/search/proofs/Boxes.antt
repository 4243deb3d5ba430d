-- Shapes whose planes are all level.
--     Levels, level_half, level_both                 put together from level half-spaces
--     box_level                                      boxes, and so the workshop
use Rattle.std.proofs.Common.{[], ℤ, refl, subst, inl, inr}
use Rattle.plane.specs.declared.types.Plane.{Plane}
use Rattle.solid.specs.Shapes.{Shape, half, both, planes, box, Has}
use Rattle.solid.proofs.Members.{has_none, has_either, has_part}
use Rattle.search.specs.Levels.{Level}

abbrev pub Levels : Shape → Type 0
Levels s = (p : Plane) → Has (planes s) p → Level p

pub level_half : (p : Plane) → Level p → Levels (half p)
unfolding planes
level_half p l r h = elim (has_either p r [] h) [ inl e ↦ subst (λ (m : Plane). Level m) e l | inr k ↦ absurd (has_none r k) ]

pub level_both : (s t : Shape) → Levels s → Levels t → Levels (both s t)
unfolding planes
level_both s t a b p h = elim (has_part p (planes s) (planes t) h) [ inl k ↦ a p k | inr k ↦ b p k ]

pub box_level : (x0 x1 y0 y1 z0 z1 : ℤ) → Levels (box x0 x1 y0 y1 z0 z1)
unfolding box
box_level x0 x1 y0 y1 z0 z1 =
    level_both _ _
    (level_both _ _ (level_both _ _ (level_half _ refl) (level_half _ refl)) (level_both _ _ (level_half _ refl) (level_half _ refl)))
    (level_both _ _ (level_half _ refl) (level_half _ refl))
