-- Sums of products in signed 64 bits: a term of the code stands for an integer of bounded size, and the bound computes.
--     Is t z n      t, which may pass to bits and back, is z, and z is from -n to n
-- A term is built up as the code builds it, from `is_num` (a number that is read) by `is_mul`, `is_add`, `is_sub` and `is_neg`, with `is_back`
-- where the code keeps a result in 64 bits; `is_fits` says that it fits, and `.same` that it is the integer. Each `tt` is a comparison of
-- numerals. So for `p * x + q * y`, where P and Q are p's and q's bounds:
--     is_fits (is_add (is_back (is_mul (is_num P tt) (is_num X tt)) tt) (is_back (is_mul (is_num Q tt) (is_num Y tt)) tt)) tt
use Rattle.std.proofs.Common.{◌≡◌, ℕ, ◌+◌, ◌*◌, ◌^◌, ◌<◌, ◌≤◌, T, ltb, leb, ℤ, pos, negsuc, ◌+ℤ◌, ◌-ℤ◌, ◌*ℤ◌, neg_ℤ, nat_abs, sym, refl, ap, ◌∙◌, subst, mul-le-mul, arith, ltb→lt, leb→le, to_z-of_z, w64, SFits, to_z, of_z}
use borrow.Author.Differences.{ints}
use mir.Facts.{to_z_pos}
use Rattle.arith.specs.Bounds.{Short}

pub record Is (t z : ℤ) (n : ℕ) : Type 0 where
  pub same : t ≡ z
  pub short : Short z n

size_mul : (a b : ℤ) → nat_abs (a *ℤ b) ≡ nat_abs a * nat_abs b
size_mul (pos a) (pos b) = refl
size_mul (pos a) (negsuc b) = omega (arith, ints)
size_mul (negsuc a) (pos b) = omega (arith, ints)
size_mul (negsuc a) (negsuc b) = refl

pub short_fits : {z : ℤ} {n : ℕ} → Short z n → T (ltb n (2 ^ 63)) → SFits w64 z
short_fits {z} {n} s t = let h : n < 2 ^ 63 = ltb→lt n (2 ^ 63) t in let k : nat_abs z ≤ n = s.size in omega (arith, ints)

pub is_self : {z : ℤ} {n : ℕ} → Short z n → Is z z n
is_self s = record { same = refl; short = s }

pub is_pos : {k n : ℕ} → k ≤ n → Is (pos k) (pos k) n
is_pos h = record { same = refl; short = record { size = h } }

pub is_back : {t z : ℤ} {n : ℕ} → Is t z n → T (ltb n (2 ^ 63)) → Is (to_z w64 (of_z w64 t)) z n
is_back {t} {z} {n} i h = record { same = to_z-of_z (subst (λ (u : ℤ). SFits w64 u) (sym i.same) (short_fits i.short h)) ∙ i.same; short = i.short }

pub is_mul : {s t x y : ℤ} {m n : ℕ} → Is s x m → Is t y n → Is (s *ℤ t) (x *ℤ y) (m * n)
is_mul {t = t} {x = x} {y = y} {m = m} {n = n} i j = record { same = ap (λ (u : ℤ). u *ℤ t) i.same ∙ ap (λ (u : ℤ). x *ℤ u) j.same; short = record { size = subst (λ (k : ℕ). k ≤ m * n) (sym (size_mul x y)) (mul-le-mul i.short.size j.short.size) } }

pub is_add : {s t x y : ℤ} {m n : ℕ} → Is s x m → Is t y n → Is (s +ℤ t) (x +ℤ y) (m + n)
is_add {t = t} {x = x} {y = y} {m = m} {n = n} i j =
    record { same = ap (λ (u : ℤ). u +ℤ t) i.same ∙ ap (λ (u : ℤ). x +ℤ u) j.same; short = record { size = let a : nat_abs x ≤ m = i.short.size in let b : nat_abs y ≤ n = j.short.size in omega (arith, ints) } }

pub is_sub : {s t x y : ℤ} {m n : ℕ} → Is s x m → Is t y n → Is (s -ℤ t) (x -ℤ y) (m + n)
is_sub {t = t} {x = x} {y = y} {m = m} {n = n} i j =
    record { same = ap (λ (u : ℤ). u -ℤ t) i.same ∙ ap (λ (u : ℤ). x -ℤ u) j.same; short = record { size = let a : nat_abs x ≤ m = i.short.size in let b : nat_abs y ≤ n = j.short.size in omega (arith, ints) } }

pub short_neg : {z : ℤ} {n : ℕ} → Short z n → Short (neg_ℤ z) n
short_neg {z} {n} s = let a : nat_abs z ≤ n = s.size in record { size = omega (arith, ints) }

-- a number with its sign turned, as the code makes it
pub is_neg : {t z : ℤ} {n : ℕ} → Is t z n → Is (pos 0 -ℤ t) (neg_ℤ z) n
is_neg {t} {z} i = let e : t ≡ z = i.same in record { same = omega (arith, ints); short = short_neg i.short }

-- a larger bound
pub short_more : {z : ℤ} {n : ℕ} (m : ℕ) → Short z n → T (leb n m) → Short z m
short_more {z} {n} m s t = let a : nat_abs z ≤ n = s.size in let b : n ≤ m = leb→le n m t in record { size = omega arith }

pub is_fits : {t z : ℤ} {n : ℕ} → Is t z n → T (ltb n (2 ^ 63)) → SFits w64 t
is_fits {t} {z} {n} i h = subst (λ (u : ℤ). SFits w64 u) (sym i.same) (short_fits i.short h)

-- an unsigned number, cast
pub is_low : {k n : ℕ} → k ≤ n → T (ltb n (2 ^ 63)) → Is (to_z w64 k) (pos k) n
is_low {k} {n} h t = let l : n < 2 ^ 63 = ltb→lt n (2 ^ 63) t in record { same = to_z_pos w64 (omega arith); short = record { size = h } }

-- the value that is returned
pub is_value : {t z : ℤ} {n : ℕ} → Is t z n → t ≡ z
is_value i = i.same

pub ruleset sized = (is_fits, is_value, is_add, is_sub, is_mul, is_back, is_low, is_self)

-- a signed variable, as an operation reads it
pub is_num : {z : ℤ} {n : ℕ} → Short z n → T (ltb n (2 ^ 63)) → Is (to_z w64 (of_z w64 z)) z n
is_num s h = is_back (is_self s) h

-- the bound of what is returned
pub is_short : {t z : ℤ} {n : ℕ} → Is t z n → Short t n
is_short {n = n} i = subst (λ (u : ℤ). Short u n) (sym i.same) i.short

-- what a call returned, known to be z
pub is_call : {t z : ℤ} {n : ℕ} → t ≡ z → Short t n → Is t z n
is_call {n = n} e s = record { same = e; short = subst (λ (u : ℤ). Short u n) e s }

-- a value that is known to be such a term
pub is_via : {t s z : ℤ} {n : ℕ} → t ≡ s → Is s z n → Is t z n
is_via e i = record { same = e ∙ i.same; short = i.short }
