-- A number's sign and size, from the word that writes it.
use Rattle.std.proofs.Common.{◌≡◌, ℕ, Bool, true, false, eqb, List, [], ◌∷◌, take, ℤ, pos, negsuc, nat_abs, refl, ap, ◌∙◌, subst, sym}
use Rattle.std.specs.Cmp.Lexicographic.{pointwise}
use Rattle.std.proofs.lemmas.Bool.{both_ways, and_parts, eqb-true}
use Rattle.grammar.specs.Grammar.{decimal, signed}
use Rattle.grammar.specs.Faults.{amount}
use Rattle.grammar.specs.Values.{size}
use Rattle.grammar.proofs.Fine.{signed-amount}
use Rattle.grammar.proofs.Numbers.{no_minus}

abbrev pub has_minus : List ℕ → Bool
has_minus w = pointwise eqb (take 1 w) (45 ∷ [])

pub amount_is : (w : List ℕ) (z : ℤ) → w ≡ signed z → amount w ≡ nat_abs z
amount_is w z e = ap amount e ∙ signed-amount z

decimal_plain : (n : ℕ) (w : List ℕ) → decimal n ≡ w → has_minus w ≡ true → ⊥
decimal_plain n [] e h = both_ways false refl h
decimal_plain n (b ∷ w) e h = let m : b ≡ 45 = eqb-true b 45 (and_parts (eqb b 45) _ h).0 in no_minus n w (e ∙ ap (λ (x : ℕ). x ∷ w) m)

pub minus_below : (w : List ℕ) (z : ℤ) → w ≡ signed z → has_minus w ≡ true → (n : ℕ) × (z ≡ negsuc n)
minus_below w (pos n) e h = absurd (decimal_plain n w (sym e) h)
minus_below w (negsuc n) e h = (n, refl)

pub plain_above : (w : List ℕ) (z : ℤ) → w ≡ signed z → has_minus w ≡ false → (n : ℕ) × (z ≡ pos n)
plain_above w (pos n) e h = (n, refl)
plain_above w (negsuc n) e h = absurd (both_ways true (subst (λ (v : List ℕ). has_minus v ≡ false) e h) refl)

pub size_is : (z : ℤ) → size z ≡ nat_abs z
size_is (pos n) = refl
size_is (negsuc n) = refl
