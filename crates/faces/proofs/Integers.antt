-- Tests of integers.
--     lt_difference, same_difference                of a difference and 0
--     le_or, lt_or                                  one test by another
--     lt_min, le_min                                of the lesser of two
--     lt_scaled, same_scaled                        with a positive factor
use Rattle.std.proofs.Common.{◌≡◌, ℕ, ◌<◌, true, false, cond, not, ◌&&◌, ℤ, pos, ◌-ℤ◌, ◌*ℤ◌, ◌<ℤ◌, sym, ap, ◌∙◌, ap₂, arith}
use lib.Signed.{lt_z, le_z}
use Rattle.std.specs.Int.{int_min}
use Rattle.std.proofs.lemmas.Int.{ints, clamps, by_lt_z}
use Rattle.arith.proofs.Order.{mul_lt, mul_le}
use Rattle.plane.specs.Planes.{same_z}
use Rattle.plane.proofs.Tests.{lt_yes, lt_no}

pub lt_difference : (a b : ℤ) → lt_z (a -ℤ b) (pos 0) ≡ lt_z a b
lt_difference a b = grind (arith, ints)

pub same_difference : (a b : ℤ) → same_z (a -ℤ b) (pos 0) ≡ same_z a b
unfolding same_z
same_difference a b = grind (arith, ints)

-- a test passes if what it tests is so, and else fails
pub le_or : (a b : ℤ) → cond (same_z a b) true (lt_z a b) ≡ le_z a b
unfolding same_z
le_or a b = grind (arith, ints)

pub lt_or : (a b : ℤ) → cond (same_z a b) false (lt_z a b) ≡ lt_z a b
unfolding same_z
lt_or a b = grind (arith, ints)

pub lt_min : (a b c : ℤ) → (lt_z a c && lt_z a b) ≡ lt_z a (int_min b c)
lt_min a b c = grind (arith, ints, clamps)

pub le_min : (a b c : ℤ) → (le_z a c && le_z a b) ≡ le_z a (int_min b c)
le_min a b c = grind (arith, ints, clamps)

le_not : (a b : ℤ) → le_z a b ≡ not (lt_z b a)
le_not a b = grind (arith, ints)

-- a positive factor changes none
module _ (w : ℕ) (real : 0 < w) where
  w_positive : pos 0 <ℤ pos w
  w_positive = omega (arith, ints)

  pub lt_scaled : (a b : ℤ) → lt_z (a *ℤ pos w) (b *ℤ pos w) ≡ lt_z a b
  lt_scaled a b =
      by_lt_z a b
      (λ h. lt_yes (a *ℤ pos w) (b *ℤ pos w) (mul_lt a b (pos w) h w_positive) ∙ sym (lt_yes a b h))
      (λ h. lt_no (a *ℤ pos w) (b *ℤ pos w) (mul_le b a (pos w) h (omega (arith, ints))) ∙ sym (lt_no a b h))

  le_scaled : (a b : ℤ) → le_z (a *ℤ pos w) (b *ℤ pos w) ≡ le_z a b
  le_scaled a b = le_not (a *ℤ pos w) (b *ℤ pos w) ∙ ap not (lt_scaled b a) ∙ sym (le_not a b)

  pub same_scaled : (a b : ℤ) → same_z (a *ℤ pos w) (b *ℤ pos w) ≡ same_z a b
  unfolding same_z
  same_scaled a b = ap₂ ◌&&◌ (le_scaled a b) (le_scaled b a)
