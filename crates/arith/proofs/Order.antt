-- The order of the integers, with products: what `omega (arith, ints)` does not read.
use Rattle.std.proofs.Common.{◌≡◌, zero, suc, ◌<◌, ℤ, pos, negsuc, ◌+ℤ◌, ◌-ℤ◌, ◌*ℤ◌, neg_ℤ, ◌≤ℤ◌, ◌<ℤ◌, refl, ap, ◌∙◌, subst, mul-pos, arith}
use lib.IntN.{*ℤ_comm, *ℤ-zero, zero-*ℤ}
use lib.Signed.{<ℤ_irrefl}
use Rattle.std.proofs.lemmas.Int.{ints, by_lt_z}
use Rattle.arith.proofs.Ring.{distr, neg_*l, neg_*r}

pub data Tri (a b : ℤ) : Type 0 where
  below : a <ℤ b → Tri a b
  same : a ≡ b → Tri a b
  above : b <ℤ a → Tri a b

pub tri : (a b : ℤ) → Tri a b
tri a b = by_lt_z a b below (λ (h : b ≤ℤ a). by_lt_z b a above (λ (k : a ≤ℤ b). same (omega (arith, ints))))

pub mul_nonneg : (a b : ℤ) → pos 0 ≤ℤ a → pos 0 ≤ℤ b → pos 0 ≤ℤ (a *ℤ b)
mul_nonneg (pos a) (pos b) h k = omega (arith, ints)
mul_nonneg (pos a) (negsuc b) h k = absurd k.le
mul_nonneg (negsuc a) b h k = absurd h.le

pub mul_positive : (a b : ℤ) → pos 0 <ℤ a → pos 0 <ℤ b → pos 0 <ℤ (a *ℤ b)
mul_positive (pos a) (pos b) h k =
    let p : 0 < a = omega (arith, ints) in
    let q : 0 < b = omega (arith, ints) in
    omega (arith, ints, mul-pos p q)
mul_positive (pos a) (negsuc b) h k = absurd k.lt
mul_positive (negsuc a) b h k = absurd h.lt

pub neg_sign : (a : ℤ) → a <ℤ pos 0 → pos 0 <ℤ neg_ℤ a
neg_sign a h = omega (arith, ints)

pub mul_neg_pos : (a b : ℤ) → a <ℤ pos 0 → pos 0 <ℤ b → (a *ℤ b) <ℤ pos 0
mul_neg_pos a b h k =
    let m = subst (λ x. pos 0 <ℤ x) (neg_*l a b) (mul_positive (neg_ℤ a) b (neg_sign a h) k) in
    omega (arith, ints)

pub mul_neg_neg : (a b : ℤ) → a <ℤ pos 0 → b <ℤ pos 0 → pos 0 <ℤ (a *ℤ b)
mul_neg_neg a b h k =
    let m = subst (λ x. pos 0 <ℤ x) (neg_*l a (neg_ℤ b) ∙ ap neg_ℤ (neg_*r a b)) (mul_positive (neg_ℤ a) (neg_ℤ b) (neg_sign a h) (neg_sign b k)) in
    omega (arith, ints)

pub mul_pos_neg : (a b : ℤ) → pos 0 <ℤ a → b <ℤ pos 0 → (a *ℤ b) <ℤ pos 0
mul_pos_neg a b h k = rw (*ℤ_comm a b) (mul_neg_pos b a k h)

pub mul_nonneg_nonpos : (a b : ℤ) → pos 0 ≤ℤ a → b ≤ℤ pos 0 → (a *ℤ b) ≤ℤ pos 0
mul_nonneg_nonpos a b h k =
    let m = subst (λ x. pos 0 ≤ℤ x) (neg_*r a b) (mul_nonneg a (neg_ℤ b) h (omega (arith, ints))) in
    omega (arith, ints)

-- a strict order is kept by a positive factor
pub mul_lt : (a b c : ℤ) → a <ℤ b → pos 0 <ℤ c → (a *ℤ c) <ℤ (b *ℤ c)
mul_lt a b c h k =
    let m = mul_positive (b -ℤ a) c (omega (arith, ints)) k in
    let e = distr b (neg_ℤ a) c ∙ ap (λ x. b *ℤ c +ℤ x) (neg_*l a c) in
    let n = subst (λ x. pos 0 <ℤ x) e m in
    omega (arith, ints)

pub mul_le : (a b c : ℤ) → a ≤ℤ b → pos 0 ≤ℤ c → (a *ℤ c) ≤ℤ (b *ℤ c)
mul_le a b c h k =
    let m = mul_nonneg (b -ℤ a) c (omega (arith, ints)) k in
    let e = distr b (neg_ℤ a) c ∙ ap (λ x. b *ℤ c +ℤ x) (neg_*l a c) in
    let n = subst (λ x. pos 0 ≤ℤ x) e m in
    omega (arith, ints)

-- cancellation
pub cancel_nonpos : (c a : ℤ) → pos 0 <ℤ c → (c *ℤ a) ≤ℤ pos 0 → a ≤ℤ pos 0
cancel_nonpos c a h k = by_lt_z (pos 0) a (λ p. absurd (let m = mul_positive c a h p in omega (arith, ints))) (λ p. p)

pub cancel_nonneg : (c a : ℤ) → pos 0 <ℤ c → pos 0 ≤ℤ (c *ℤ a) → pos 0 ≤ℤ a
cancel_nonneg c a h k = by_lt_z a (pos 0) (λ p. absurd (let m = mul_pos_neg c a h p in omega (arith, ints))) (λ p. p)

pub cancel_pos : (c a : ℤ) → pos 0 <ℤ c → pos 0 <ℤ (c *ℤ a) → pos 0 <ℤ a
cancel_pos c a h k = by_lt_z (pos 0) a (λ p. p) (λ p. absurd (let m = mul_nonneg_nonpos c a (omega (arith, ints)) p in omega (arith, ints)))

pub cancel_neg : (c a : ℤ) → pos 0 <ℤ c → (c *ℤ a) <ℤ pos 0 → a <ℤ pos 0
cancel_neg c a h k = by_lt_z a (pos 0) (λ p. p) (λ p. absurd (let m = mul_nonneg c a (omega (arith, ints)) p in omega (arith, ints)))

pub cancel_zero_pos : (c a : ℤ) → pos 0 <ℤ c → c *ℤ a ≡ pos 0 → a ≡ pos 0
cancel_zero_pos c a h e =
    let p = cancel_nonpos c a h (omega (arith, ints)) in
    let q = cancel_nonneg c a h (omega (arith, ints)) in
    omega (arith, ints)

pub cancel_zero : (c a : ℤ) → ¬ (c ≡ pos 0) → c *ℤ a ≡ pos 0 → a ≡ pos 0
cancel_zero c a n e = elim (tri c (pos 0)) [
  | below h ↦ cancel_zero_pos (neg_ℤ c) a (neg_sign c h) (neg_*l c a ∙ ap neg_ℤ e)
  | same h ↦ absurd (n h)
  | above h ↦ cancel_zero_pos c a h e
]

-- a common factor of an order
pub cancel_le : (c a b : ℤ) → pos 0 <ℤ c → (c *ℤ a) ≤ℤ (c *ℤ b) → a ≤ℤ b
cancel_le c a b h k = by_lt_z b a (λ p. absurd (let m = mul_lt b a c p h in omega (arith, ints, *ℤ_comm b c, *ℤ_comm a c))) (λ p. p)

pub square_nonneg : (a : ℤ) → pos 0 ≤ℤ (a *ℤ a)
square_nonneg (pos a) = omega (arith, ints)
square_nonneg (negsuc a) = omega (arith, ints)

pub square_zero : (a : ℤ) → a *ℤ a ≡ pos 0 → a ≡ pos 0
square_zero a e = elim (tri a (pos 0)) [
  | below h ↦ absurd (<ℤ_irrefl (subst (λ x. pos 0 <ℤ x) e (mul_neg_neg a a h h)))
  | same h ↦ h
  | above h ↦ absurd (<ℤ_irrefl (subst (λ x. pos 0 <ℤ x) e (mul_positive a a h h)))
]

sum_zero : (x y z : ℤ) → pos 0 ≤ℤ x → pos 0 ≤ℤ y → pos 0 ≤ℤ z → (x +ℤ y) +ℤ z ≡ pos 0 → (x ≡ pos 0) × (y ≡ pos 0) × (z ≡ pos 0)
sum_zero x y z h k l e = (omega (arith, ints), omega (arith, ints), omega (arith, ints))

sum_nonneg : (x y z : ℤ) → pos 0 ≤ℤ x → pos 0 ≤ℤ y → pos 0 ≤ℤ z → pos 0 ≤ℤ ((x +ℤ y) +ℤ z)
sum_nonneg x y z h k l = omega (arith, ints)

positive : (x : ℤ) → pos 0 ≤ℤ x → (x ≡ pos 0 → ⊥) → pos 0 <ℤ x
positive x h n = by_lt_z (pos 0) x (λ p. p) (λ (p : x ≤ℤ pos 0). absurd (n (omega (arith, ints))))

-- the square of a length: 0 only if all three are
pub squares_zero : (a b c : ℤ) → (a *ℤ a +ℤ b *ℤ b) +ℤ c *ℤ c ≡ pos 0 → (a ≡ pos 0) × (b ≡ pos 0) × (c ≡ pos 0)
squares_zero a b c e =
    let z = sum_zero (a *ℤ a) (b *ℤ b) (c *ℤ c) (square_nonneg a) (square_nonneg b) (square_nonneg c) e in
    (square_zero a z.0, square_zero b z.1, square_zero c z.2)

pub squares_positive : (a b c : ℤ) → ((a ≡ pos 0) × (b ≡ pos 0) × (c ≡ pos 0) → ⊥) → pos 0 <ℤ ((a *ℤ a +ℤ b *ℤ b) +ℤ c *ℤ c)
squares_positive a b c n =
    positive ((a *ℤ a +ℤ b *ℤ b) +ℤ c *ℤ c) (sum_nonneg (a *ℤ a) (b *ℤ b) (c *ℤ c) (square_nonneg a) (square_nonneg b) (square_nonneg c))
    (λ e. n (squares_zero a b c e))

-- ---- signs
pub data Sign : Type 0 where
  minus : Sign
  none : Sign
  plus : Sign

abbrev pub sgn : ℤ → Sign
sgn (pos zero) = none
sgn (pos (suc n)) = plus
sgn (negsuc n) = minus

abbrev pub opposite : Sign → Sign
opposite minus = plus
opposite none = none
opposite plus = minus

abbrev pub times : Sign → Sign → Sign
times minus s = opposite s
times none s = none
times plus s = s

-- what a sign says
abbrev pub Says : Sign → ℤ → Type 0
Says minus z = z <ℤ pos 0
Says none z = z ≡ pos 0
Says plus z = pos 0 <ℤ z

pub sgn_says : (z : ℤ) → Says (sgn z) z
sgn_says (pos zero) = refl
sgn_says (pos (suc n)) = omega (arith, ints)
sgn_says (negsuc n) = omega (arith, ints)

pub says_sgn : (s : Sign) (z : ℤ) → Says s z → sgn z ≡ s
says_sgn minus (pos n) h = absurd (omega (arith, ints))
says_sgn minus (negsuc n) h = refl
says_sgn none z h = ap sgn h
says_sgn plus (pos zero) h = absurd (omega (arith, ints))
says_sgn plus (pos (suc n)) h = refl
says_sgn plus (negsuc n) h = absurd (omega (arith, ints))

pub says_times : (s t : Sign) (a b : ℤ) → Says s a → Says t b → Says (times s t) (a *ℤ b)
says_times minus minus a b h k = mul_neg_neg a b h k
says_times minus none a b h k = ap (λ x. a *ℤ x) k ∙ *ℤ-zero a
says_times minus plus a b h k = mul_neg_pos a b h k
says_times none t a b h k = ap (λ x. x *ℤ b) h ∙ zero-*ℤ b
says_times plus minus a b h k = mul_pos_neg a b h k
says_times plus none a b h k = ap (λ x. a *ℤ x) k ∙ *ℤ-zero a
says_times plus plus a b h k = mul_positive a b h k

pub sgn_mul : (a b : ℤ) → sgn (a *ℤ b) ≡ times (sgn a) (sgn b)
sgn_mul a b = says_sgn (times (sgn a) (sgn b)) (a *ℤ b) (says_times (sgn a) (sgn b) a b (sgn_says a) (sgn_says b))

pub sgn_neg : (a : ℤ) → sgn (neg_ℤ a) ≡ opposite (sgn a)
sgn_neg (pos zero) = refl
sgn_neg (pos (suc n)) = refl
sgn_neg (negsuc n) = refl

-- a positive factor does not show in the sign
pub sgn_scaled : (c a : ℤ) → pos 0 <ℤ c → sgn (c *ℤ a) ≡ sgn a
sgn_scaled c a h = sgn_mul c a ∙ ap (λ s. times s (sgn a)) (says_sgn plus c h)
