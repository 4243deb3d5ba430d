-- The place (x / w, y / w, z / w): what the code puts together, by the sign of w.
use Rattle.std.proofs.Common.{◌≡◌, ℕ, zero, suc, ℤ, pos, negsuc, neg_ℤ, nat_abs, ◌<ℤ◌, Some, None, ap, ◌∙◌, arith}
use Rattle.std.proofs.lemmas.Int.{ints}
use Rattle.plane.specs.declared.types.Plane.{Plane}
use Rattle.plane.specs.declared.types.Place.{Place}
use Rattle.plane.specs.Cramer.{over}

made_place : {s t u : ℤ} {k : ℕ} (q : Place) → s ≡ q.x → t ≡ q.y → u ≡ q.z → k ≡ q.w → record { x = s; y = t; z = u; w = k } ≡ q
made_place {s} {t} {u} {k} q x y z w =
    ap (λ (n : ℤ). record { x = n; y = t; z = u; w = k }) x
    ∙ ap (λ (n : ℤ). record { x = q.x; y = n; z = u; w = k }) y
    ∙ ap (λ (n : ℤ). record { x = q.x; y = q.y; z = n; w = k }) z
    ∙ ap (λ (n : ℕ). record { x = q.x; y = q.y; z = q.z; w = n }) w

pub over_zero : (x y z w : ℤ) → w ≡ pos 0 → None ≡ over x y z w
unfolding over
over_zero x y z w e = rw e

pub over_pos : {s t u : ℤ} {k : ℕ} (x y z w : ℤ) → s ≡ x → t ≡ y → u ≡ z → pos k ≡ w → pos 0 <ℤ w → Some (record { x = s; y = t; z = u; w = k }) ≡ over x y z w
unfolding over
over_pos x y z (pos zero) a b c d h = absurd (omega (arith, ints))
over_pos x y z (pos (suc n)) a b c d h = ap Some (made_place (record { x = x; y = y; z = z; w = suc n }) a b c (ap nat_abs d))
over_pos x y z (negsuc n) a b c d h = absurd (omega (arith, ints))

pub over_neg : {s t u : ℤ} {k : ℕ} (x y z w : ℤ) → s ≡ neg_ℤ x → t ≡ neg_ℤ y → u ≡ neg_ℤ z → pos k ≡ neg_ℤ w → w <ℤ pos 0 → Some (record { x = s; y = t; z = u; w = k }) ≡ over x y z w
unfolding over
over_neg x y z (pos n) a b c d h = absurd (omega (arith, ints))
over_neg x y z (negsuc n) a b c d h = ap Some (made_place (record { x = neg_ℤ x; y = neg_ℤ y; z = neg_ℤ z; w = suc n }) a b c (ap nat_abs d))

pub same_over : {s t u v x y z w : ℤ} → s ≡ x → t ≡ y → u ≡ z → v ≡ w → over s t u v ≡ over x y z w
same_over {s} {t} {u} {v} {x} {y} {z} a b c d =
    ap (λ (n : ℤ). over n t u v) a ∙ ap (λ (n : ℤ). over x n u v) b ∙ ap (λ (n : ℤ). over x y n v) c ∙ ap (λ (n : ℤ). over x y z n) d

pub same_rows : (f : Plane → Plane → Plane → ℤ) {s t u p q r : Plane} → s ≡ p → t ≡ q → u ≡ r → f s t u ≡ f p q r
same_rows f {s} {t} {u} {p} {q} a b c = ap (λ (n : Plane). f n t u) a ∙ ap (λ (n : Plane). f p n u) b ∙ ap (λ (n : Plane). f p q n) c
