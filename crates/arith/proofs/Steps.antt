-- Sums of products over signed 64-bit numbers, step by step as the code makes them: each step fits, and the last is the integer.
--     Minor      s t - u v
--     Dot        s t + u v + x y
use Rattle.std.proofs.Common.{ℕ, ◌+◌, ◌*◌, ◌^◌, ◌<◌, ◌≤◌, T, ltb, ℤ, ◌+ℤ◌, ◌-ℤ◌, ◌*ℤ◌, arith, ltb→lt, lt→ltb, w64, SFits, to_z, of_z}
use Rattle.arith.proofs.Sized.{Is, is_mul, is_add, is_sub, is_back, is_fits}

-- a number stored and read again
abbrev pub back : ℤ → ℤ
back z = to_z w64 (of_z w64 z)

less : {k n : ℕ} → T (ltb n (2 ^ 63)) → k ≤ n → T (ltb k (2 ^ 63))
less {k} {n} t h = let l : n < 2 ^ 63 = ltb→lt n (2 ^ 63) t in lt→ltb k (2 ^ 63) (omega arith)

pub record Minor (s t u v z : ℤ) (n : ℕ) : Type 0 where
  pub first : SFits w64 (s *ℤ t)
  pub second : SFits w64 (u *ℤ v)
  pub both : SFits w64 (back (s *ℤ t) -ℤ back (u *ℤ v))
  pub value : Is (back (back (s *ℤ t) -ℤ back (u *ℤ v))) z n

pub minor : {s t u v a b c d : ℤ} {k l m n : ℕ} → Is s a k → Is t b l → Is u c m → Is v d n → T (ltb (k * l + m * n) (2 ^ 63)) → Minor s t u v (a *ℤ b -ℤ c *ℤ d) (k * l + m * n)
minor {k = k} {l} {m} {n} a b c d h =
    let f = is_mul a b in
    let g = is_mul c d in
    let x : T (ltb (k * l) (2 ^ 63)) = less h (omega arith) in
    let y : T (ltb (m * n) (2 ^ 63)) = less h (omega arith) in
    let e = is_sub (is_back f x) (is_back g y) in
    record { first = is_fits f x; second = is_fits g y; both = is_fits e h; value = is_back e h }

pub record Dot (s t u v x y z : ℤ) (n : ℕ) : Type 0 where
  pub first : SFits w64 (s *ℤ t)
  pub second : SFits w64 (u *ℤ v)
  pub two : SFits w64 (back (s *ℤ t) +ℤ back (u *ℤ v))
  pub third : SFits w64 (x *ℤ y)
  pub three : SFits w64 (back (back (s *ℤ t) +ℤ back (u *ℤ v)) +ℤ back (x *ℤ y))
  pub value : Is (back (back (back (s *ℤ t) +ℤ back (u *ℤ v)) +ℤ back (x *ℤ y))) z n

pub dot : {s t u v x y a b c d e f : ℤ} {i j k l m n : ℕ} → Is s a i → Is t b j → Is u c k → Is v d l → Is x e m → Is y f n →
    T (ltb ((i * j + k * l) + m * n) (2 ^ 63)) → Dot s t u v x y ((a *ℤ b +ℤ c *ℤ d) +ℤ e *ℤ f) ((i * j + k * l) + m * n)
dot {i = i} {j} {k} {l} {m} {n} a b c d e f h =
    let p = is_mul a b in
    let q = is_mul c d in
    let r = is_mul e f in
    let x : T (ltb (i * j) (2 ^ 63)) = less h (omega arith) in
    let y : T (ltb (k * l) (2 ^ 63)) = less h (omega arith) in
    let z : T (ltb (m * n) (2 ^ 63)) = less h (omega arith) in
    let w : T (ltb (i * j + k * l) (2 ^ 63)) = less h (omega arith) in
    let s = is_add (is_back p x) (is_back q y) in
    let t = is_add (is_back s w) (is_back r z) in
    record { first = is_fits p x; second = is_fits q y; two = is_fits s w; third = is_fits r z; three = is_fits t h; value = is_back t h }
