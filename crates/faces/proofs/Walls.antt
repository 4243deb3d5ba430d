-- The planes of a box within the workshop.
--     by-solid                                      the value of the solid
--     listed                                        planes that look each way
--     has_solid, solid_has                          its planes: which they are, and that what is left of the box ends at some of them
use Rattle.std.proofs.Common.{◌≡◌, Bool, ◌&&◌, ◌⊎◌, List, ◌++◌, map, ℤ, pos, ◌≤ℤ◌, sym, refl, subst, inl, inr, arith}
use Rattle.std.specs.Int.{int_min}
use Rattle.std.proofs.lemmas.Int.{ints, clamps, by_lt_z}
use Rattle.plane.specs.declared.types.Plane.{Plane}
use Rattle.plane.specs.Limits.{reach}
use Rattle.solid.specs.Shapes.{by, box, solid, workshop, planes, Has}
use Rattle.solid.proofs.Members.{has_part, has_left, has_right, has_map, map_has}
use Rattle.faces.specs.declared.types.Bounds.{Bounds}
use Rattle.faces.specs.Blocks.{as_shape, cut}
use Rattle.faces.proofs.Ways.{Way, east, west, north, south, up, down, ways, toward, top, top-cut}
use Rattle.faces.proofs.Sixfold.{all_ways, all_ways_both}

pub by-solid : (f : Plane → Bool) (b : Bounds) → by f (solid (as_shape b)) ≡ all_ways (λ e. f (toward e (pos reach)) && f (toward e (top b e)))
unfolding by solid workshop box
by-solid f b = all_ways_both (λ e. f (toward e (pos reach))) (λ e. f (toward e (top b e)))

-- the planes of a box, with the ways they look
abbrev pub listed : (Way → ℤ) → List Plane
listed t = map (λ e. toward e (t e)) ways

solid-planes : (b : Bounds) → planes (solid (as_shape b)) ≡ listed (λ e. pos reach) ++ listed (top b)
unfolding planes solid workshop box
solid-planes b = refl

-- each looks some way, and leaves room for what of the block lies in the workshop
pub record Wall (b : Bounds) (r : Plane) : Type 0 where
  pub way : Way
  pub end : ℤ
  pub room : top (cut b) way ≤ℤ end
  pub is : toward way end ≡ r

min_left : (a b t : ℤ) → t ≡ int_min a b → t ≤ℤ a
min_left a b t e = omega (arith, ints, clamps)

min_right : (a b t : ℤ) → t ≡ int_min a b → t ≤ℤ b
min_right a b t e = omega (arith, ints, clamps)

pub has_solid : (b : Bounds) (r : Plane) → Has (planes (solid (as_shape b))) r → Wall b r
has_solid b r h = elim (has_part r (listed (λ e. pos reach)) (listed (top b)) (subst (λ (l : List Plane). Has l r) (solid-planes b) h)) [
  | inl k ↦ let m = map_has (λ e. toward e (pos reach)) r ways k in record { way = m.0; end = pos reach; room = min_right (top b m.0) (pos reach) _ (top-cut b m.0); is = m.2 }
  | inr k ↦ let m = map_has (λ e. toward e (top b e)) r ways k in record { way = m.0; end = top b m.0; room = min_left (top b m.0) (pos reach) _ (top-cut b m.0); is = m.2 }
]

-- every way is one of the six
has_way : (e : Way) → Has ways e
has_way east = (0, (omega arith, refl))
has_way west = (1, (omega arith, refl))
has_way north = (2, (omega arith, refl))
has_way south = (3, (omega arith, refl))
has_way up = (4, (omega arith, refl))
has_way down = (5, (omega arith, refl))

min_either : (a b t : ℤ) → t ≡ int_min a b → (t ≡ b) ⊎ (t ≡ a)
min_either a b t e = by_lt_z b a (λ h. inl (omega (arith, ints, clamps))) (λ h. inr (omega (arith, ints, clamps)))

-- the planes of what of the block lies in the workshop are among them
pub solid_has : (b : Bounds) (e : Way) → Has (planes (solid (as_shape b))) (toward e (top (cut b) e))
solid_has b e = subst (λ (l : List Plane). Has l (toward e (top (cut b) e))) (sym (solid-planes b))
    (elim (min_either (top b e) (pos reach) (top (cut b) e) (top-cut b e)) [
      | inl h ↦ has_left _ (listed (λ f. pos reach)) (listed (top b)) (subst (λ (t : ℤ). Has (listed (λ f. pos reach)) (toward e t)) (sym h) (has_map (λ f. toward f (pos reach)) e ways (has_way e)))
      | inr h ↦ has_right _ (listed (λ f. pos reach)) (listed (top b)) (subst (λ (t : ℤ). Has (listed (top b)) (toward e t)) (sym h) (has_map (λ f. toward f (top b f)) e ways (has_way e)))
    ])
