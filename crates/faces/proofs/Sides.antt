-- On, below, just below and just above a plane across a way, by how far the place is that way.
--     below-far, on-far                             at any place
--     below_at, on_at                               at a place that is exactly a ahead
--     below_same, below_opp, ..                     at a place on the plane that looks a way: planes across that way, the opposite way, ways across
use Rattle.std.proofs.Common.{◌≡◌, ◌<◌, Bool, true, false, cond, ℤ, pos, negsuc, ◌*ℤ◌, neg_ℤ, sym, refl, ap, ◌∙◌, ap₂, arith}
use lib.Signed.{lt_z, le_z}
use Rattle.std.proofs.lemmas.Int.{ints}
use Rattle.arith.proofs.Ring.{neg_*l}
use Rattle.plane.specs.declared.types.Plane.{Plane}
use Rattle.plane.specs.declared.types.Place.{Place}
use Rattle.plane.specs.Planes.{same_z, below, on, along}
use Rattle.plane.proofs.Heights.{on-height, height_not_below}
use Rattle.solid.specs.Shapes.{just_below, just_above}
use Rattle.plane.proofs.Tests.{same_says}
use Rattle.faces.proofs.Integers.{lt_difference, same_difference, le_or, lt_or, lt_scaled, same_scaled}
use Rattle.faces.proofs.Ways.{Way, opp, toward, normal, far, height-far, far-opp}
use Rattle.faces.proofs.Sixfold.{all_ways_each}

-- ---- at any place
module _ (e : Way) (d : ℤ) (q : Place) where
  pub below-far : below (toward e d) q ≡ lt_z (far e q) (d *ℤ pos q.w)
  unfolding below
  below-far = ap (λ (h : ℤ). lt_z h (pos 0)) (height-far e d q) ∙ lt_difference (far e q) (d *ℤ pos q.w)

  pub on-far : on (toward e d) q ≡ same_z (far e q) (d *ℤ pos q.w)
  unfolding on
  on-far = ap (λ (h : ℤ). same_z h (pos 0)) (height-far e d q) ∙ same_difference (far e q) (d *ℤ pos q.w)

-- ---- at a place that is exactly a that way
module _ (q : Place) (real : 0 < q.w) (e : Way) (a : ℤ) (exact : far e q ≡ a *ℤ pos q.w) where
  pub below_at : (d : ℤ) → below (toward e d) q ≡ lt_z a d
  below_at d = below-far e d q ∙ ap (λ (h : ℤ). lt_z h (d *ℤ pos q.w)) exact ∙ lt_scaled q.w real a d

  pub on_at : (d : ℤ) → on (toward e d) q ≡ same_z a d
  on_at d = on-far e d q ∙ ap (λ (h : ℤ). same_z h (d *ℤ pos q.w)) exact ∙ same_scaled q.w real a d

  -- met from a side: a plane through the place counts as below or not by what t says
  met : (t : Bool) (d : ℤ) → cond (on (toward e d) q) t (below (toward e d) q) ≡ cond (same_z a d) t (lt_z a d)
  met t d = ap₂ (λ x y. cond x t y) (on_at d) (below_at d)

  pub opp_exact : far (opp e) q ≡ neg_ℤ a *ℤ pos q.w
  opp_exact = far-opp e q ∙ ap neg_ℤ exact ∙ sym (neg_*l a (pos q.w))

never_both : (b o : Bool) → (o ≡ true → b ≡ false) → cond o false b ≡ b
never_both b true f = sym (f refl)
never_both b false f = refl

on_not_below : (p : Plane) (q : Place) → on p q ≡ true → below p q ≡ false
on_not_below p q h = let z = on-height p q h in height_not_below p q (omega (arith, ints))

along_self : (e : Way) → along (normal e) (normal e) ≡ pos 1
unfolding along same_z
along_self e = same_says _ _ (all_ways_each (λ f. same_z (along (normal f) (normal f)) (pos 1)) refl e)

along-opp : (e : Way) → along (normal e) (normal (opp e)) ≡ negsuc 0
unfolding along same_z
along-opp e = same_says _ _ (all_ways_each (λ f. same_z (along (normal f) (normal (opp f))) (negsuc 0)) refl e)

-- ---- just below and just above a place on the plane that looks a way
module _ (e : Way) (d : ℤ) (q : Place) (real : 0 < q.w) (exact : far e q ≡ d *ℤ pos q.w) where
  pub below_same : (t : ℤ) → just_below (toward e d) q (toward e t) ≡ le_z d t
  unfolding just_below along
  below_same t = ap (λ (k : ℤ). cond (on (toward e t) q) (lt_z (pos 0) k) (below (toward e t) q)) (along_self e) ∙ met q real e d exact true t ∙ le_or d t

  pub above_same : (t : ℤ) → just_above (toward e d) q (toward e t) ≡ lt_z d t
  unfolding just_above along
  above_same t = ap (λ (k : ℤ). cond (on (toward e t) q) (lt_z k (pos 0)) (below (toward e t) q)) (along_self e) ∙ met q real e d exact false t ∙ lt_or d t

  pub below_opp : (t : ℤ) → just_below (toward e d) q (toward (opp e) t) ≡ lt_z (neg_ℤ d) t
  unfolding just_below along
  below_opp t =
      ap (λ (k : ℤ). cond (on (toward (opp e) t) q) (lt_z (pos 0) k) (below (toward (opp e) t) q)) (along-opp e)
      ∙ met q real (opp e) (neg_ℤ d) (opp_exact q real e d exact) false t ∙ lt_or (neg_ℤ d) t

  pub above_opp : (t : ℤ) → just_above (toward e d) q (toward (opp e) t) ≡ le_z (neg_ℤ d) t
  unfolding just_above along
  above_opp t =
      ap (λ (k : ℤ). cond (on (toward (opp e) t) q) (lt_z k (pos 0)) (below (toward (opp e) t) q)) (along-opp e)
      ∙ met q real (opp e) (neg_ℤ d) (opp_exact q real e d exact) true t ∙ le_or (neg_ℤ d) t

  -- a plane across: just below and just above are one
  pub below_across : (f : Way) (t : ℤ) → along (normal e) (normal f) ≡ pos 0 → just_below (toward e d) q (toward f t) ≡ below (toward f t) q
  unfolding just_below along
  below_across f t z =
      ap (λ (k : ℤ). cond (on (toward f t) q) (lt_z (pos 0) k) (below (toward f t) q)) z
      ∙ never_both (below (toward f t) q) (on (toward f t) q) (on_not_below (toward f t) q)

  pub above_across : (f : Way) (t : ℤ) → along (normal e) (normal f) ≡ pos 0 → just_above (toward e d) q (toward f t) ≡ below (toward f t) q
  unfolding just_above along
  above_across f t z =
      ap (λ (k : ℤ). cond (on (toward f t) q) (lt_z k (pos 0)) (below (toward f t) q)) z
      ∙ never_both (below (toward f t) q) (on (toward f t) q) (on_not_below (toward f t) q)
