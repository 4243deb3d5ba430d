-- The digits of a plane's number are its slopes and its offset.
--     numbered, step-word                            a plane, and a step, in range come back from their number
--     step_half                                      what a word of 3 and more means
use Rattle.std.proofs.Common.{◌≡◌, ℕ, ◌+◌, ◌-◌, ◌*◌, ◌/◌, ◌%◌, ◌<◌, ℤ, refl, ap, ◌∙◌, mod-eq_of_lt, mul_comm, add_comm, arith}
use lib.Arith.{digits_div, digits_mod}
use Rattle.std.proofs.lemmas.Int.{ints}
use Rattle.std.proofs.lemmas.Bool.Decides.{nat_tests}
use Rattle.arith.specs.Bounds.{Short}
use Rattle.plane.specs.declared.types.Plane.{Plane}
use Rattle.plane.specs.Limits.{slope_limit, offset_limit, FitsPlane}
use Rattle.solid.specs.declared.types.Step.{Step}
use Rattle.solid.specs.declared.types.Step.TheVariants.{Half, Both, Either, Without}
use Rattle.solid.specs.Steps.{span, raised, lowered, plane_number, numbered_plane, word, step, FitsStep}

-- the last digit, and the digits before it
last : (m r q : ℕ) → r < m → (r + m * q) % m ≡ r
last m r q h = ap (λ n. n % m) (add_comm r (m * q) ∙ ap (λ k. k + r) (mul_comm m q)) ∙ digits_mod q h

front : (m r q : ℕ) → r < m → (r + m * q) / m ≡ q
front m r q h = ap (λ n. n / m) (add_comm r (m * q) ∙ ap (λ k. k + r) (mul_comm m q)) ∙ digits_div q h

pub raised_small : (n : ℕ) (z : ℤ) → Short z n → raised n z < span n
raised_small n z s = let h = s.size in omega (arith, ints)

pub lowered-raised : (n : ℕ) (z : ℤ) → Short z n → lowered n (raised n z) ≡ z
lowered-raised n z s = let h = s.size in omega (arith, ints)

-- a digit of a number n that begins after the digits before it
at : (k : ℕ) (z : ℤ) (n : ℕ) → Short z k → n ≡ raised k z → lowered k n ≡ z
at k z n s e = ap (λ (i : ℕ). lowered k i) e ∙ lowered-raised k z s

pub numbered : (p : Plane) → FitsPlane p → numbered_plane (plane_number p) ≡ p
unfolding numbered_plane plane_number
numbered p f =
    let m = span slope_limit in
    let a = raised slope_limit p.a in
    let b = raised slope_limit p.b in
    let c = raised slope_limit p.c in
    let d = raised offset_limit p.d in
    let sa = raised_small slope_limit p.a f.a in
    let sb = raised_small slope_limit p.b f.b in
    let sc = raised_small slope_limit p.c f.c in
    let sd = raised_small offset_limit p.d f.d in
    let n₁ = front m a (b + m * (c + m * d)) sa in
    let n₂ = ap (λ k. k / m) n₁ ∙ front m b (c + m * d) sb in
    let n₃ = ap (λ k. k / m) n₂ ∙ front m c d sc in
    let ea = at slope_limit p.a _ f.a (last m a (b + m * (c + m * d)) sa) in
    let eb = at slope_limit p.b _ f.b (ap (λ k. k % m) n₁ ∙ last m b (c + m * d) sb) in
    let ec = at slope_limit p.c _ f.c (ap (λ k. k % m) n₂ ∙ last m c d sc) in
    let ed = at offset_limit p.d _ f.d (ap (λ k. k % span offset_limit) n₃ ∙ mod-eq_of_lt sd) in
    λ i. record { a = ea i; b = eb i; c = ec i; d = ed i }

pub step_half : (n : ℕ) → step (3 + n) ≡ Half (numbered_plane n)
unfolding step
step_half n = let e : 3 + n - 3 ≡ n = omega arith in grind (arith, nat_tests)

pub step-word : (x : Step) → FitsStep x → step (word x) ≡ x
unfolding step word
step-word (Half p) f = step_half (plane_number p) ∙ ap Half (numbered p f)
step-word Both f = refl
step-word Either f = refl
step-word Without f = refl
