-- Polynomial identities over the integers, and what follows from them: `solve n (λ x y .. . CLAIM) refl` proves the claim for all values of
-- its n variables. The claim is written over expressions, with `:+`, `:-`, `:*`, `neg_e` and `con`; both sides are brought to a normal form, a
-- sorted sum of monomials, which computes. Uses.antt has these, checked, and larger ones:
--
--   an identity:              solve 2 (λ x y. (x :+ y) :* (x :- y) := x :* x :- y :* y) refl
--   from equations, each with the factor that it is taken with (`u · h ⇒ ..`, or `h ⟹ ..` for the factor 1):
--                             solve 4 (λ x y z w. z · x := y ⇒ y · z := w ⇒ x :* z := y :* w) refl
--   an order, from orders with factors that are numbers, or (`u ⊙ h ⇒ ..`) that are at least 0 by a hypothesis of their own:
--                             solve 3 (λ a b c. c ⊙ a :≤ b ⇒ c :* a :≤ c :* b) refl
--
-- A large term may be handed over as one value, so that nothing in it is multiplied out. What the goal says is matched by computation: a
-- definition of specs/ that is in it is an `abbrev`, or named on an `unfolding` line. Where the check is refused, the left side of `≡ ok` says
-- what is left of the difference.
use Rattle.std.proofs.Common.{◌≡◌, ℕ, zero, suc, Bool, true, false, List, [], ◌∷◌, ℤ, pos, negsuc, ◌+ℤ◌, ◌-ℤ◌, ◌*ℤ◌, ◌≤ℤ◌, ◌<ℤ◌, sym, refl, ap, ◌∙◌, subst, ap₂, arith}
use Rattle.std.proofs.lemmas.Int.{ints}
use lib.IntN.{+ℤ_idr, +ℤ_invr, *ℤ-zero, *ℤ_comm}
use Rattle.arith.proofs.Ring.{one_*ℤ}
use Rattle.arith.proofs.Order.{mul_nonneg}
use Rattle.arith.proofs.Poly.{Expr, var, con, ◌:*◌, ◌:-◌, eval, Poly, nil, term, eval_p, add_p, neg_p, norm, sound, add_p_sound, neg_p_sound, sub_zero}

infix 4 ◌:=◌ ◌:≤◌ ◌:<◌
infixr 2 ◌·◌⇒◌ ◌⊙◌⇒◌ ◌⟹◌
pub data Claim : Type 0 where
  ◌:=◌ : Expr → Expr → Claim
  ◌:≤◌ : Expr → Expr → Claim
  ◌:<◌ : Expr → Expr → Claim
  -- a hypothesis, with the factor that it is taken with
  ◌·◌⇒◌ : Expr → Claim → Claim → Claim
  -- the same, where the factor is at least zero by a hypothesis of its own
  ◌⊙◌⇒◌ : Expr → Claim → Claim → Claim

-- a hypothesis with the factor 1
abbrev pub ◌⟹◌ : Claim → Claim → Claim
h ⟹ c = con (pos 1) · h ⇒ c

abbrev pub Holds : List ℤ → Claim → Type 0
Holds ρ (a := b) = eval ρ a ≡ eval ρ b
Holds ρ (a :≤ b) = eval ρ a ≤ℤ eval ρ b
Holds ρ (a :< b) = eval ρ a <ℤ eval ρ b
Holds ρ (u · h ⇒ c) = Holds ρ h → Holds ρ c
Holds ρ (u ⊙ h ⇒ c) = pos 0 ≤ℤ eval ρ u → Holds ρ h → Holds ρ c

pub data Verdict : Type 0 where
  ok : Verdict
  -- what is left of the difference
  left : Poly → Verdict
  -- the factor of an inequality is no natural number
  factor : Poly → Verdict
  -- an equation does not follow from an inequality, and no hypothesis has a hypothesis
  form : Verdict

abbrev pub is_zero : Poly → Verdict
is_zero nil = ok
is_zero (term c m p) = left (term c m p)

abbrev pub is_nat : Poly → Verdict
is_nat nil = ok
is_nat (term (pos c) [] nil) = ok
is_nat (term (pos c) [] (term d n p)) = left (term (pos c) [] (term d n p))
is_nat (term (pos c) (i ∷ m) p) = left (term (pos c) (i ∷ m) p)
is_nat (term (negsuc c) m p) = left (term (negsuc c) m p)

abbrev pub both : Verdict → Verdict → Verdict
both ok w = w
both (left p) w = factor p
both (factor p) w = factor p
both form w = form

-- with what the hypotheses so far add up to: zero (true), or at least zero
abbrev pub check : Bool → Poly → Claim → Verdict
check true s (a := b) = is_zero (add_p (norm (a :- b)) (neg_p s))
check false s (a := b) = form
check t s (a :≤ b) = is_nat (add_p (norm (b :- a)) (neg_p s))
check t s (a :< b) = is_nat (add_p (norm (b :- a :- con (pos 1))) (neg_p s))
check t s (u · (a := b) ⇒ c) = check t (add_p s (norm (u :* (a :- b)))) c
check t s (u · (a :≤ b) ⇒ c) = both (is_nat (norm u)) (check false (add_p s (norm (u :* (b :- a)))) c)
check t s (u · (a :< b) ⇒ c) = both (is_nat (norm u)) (check false (add_p s (norm (u :* (b :- a :- con (pos 1))))) c)
check t s (u · (w · h ⇒ g) ⇒ c) = form
check t s (u · (w ⊙ h ⇒ g) ⇒ c) = form
check t s (u ⊙ (a := b) ⇒ c) = form
check t s (u ⊙ (a :≤ b) ⇒ c) = check false (add_p s (norm (u :* (b :- a)))) c
check t s (u ⊙ (a :< b) ⇒ c) = check false (add_p s (norm (u :* (b :- a :- con (pos 1))))) c
check t s (u ⊙ (w · h ⇒ g) ⇒ c) = form
check t s (u ⊙ (w ⊙ h ⇒ g) ⇒ c) = form

abbrev Ok : Verdict → Type 0
Ok ok = Unit {0}
Ok (left p) = ⊥
Ok (factor p) = ⊥
Ok form = ⊥

module _ (ρ : List ℤ) where
  is_zero_sound : (p : Poly) → Ok (is_zero p) → eval_p ρ p ≡ pos 0
  is_zero_sound nil t = refl
  is_zero_sound (term c m p) t = absurd t

  is_nat_sound : (p : Poly) → Ok (is_nat p) → pos 0 ≤ℤ eval_p ρ p
  is_nat_sound nil t = omega (arith, ints)
  is_nat_sound (term (pos c) [] nil) t = subst (λ x. pos 0 ≤ℤ x) (sym (+ℤ_idr (pos c *ℤ pos 1) ∙ *ℤ_comm (pos c) (pos 1) ∙ one_*ℤ (pos c))) (omega (arith, ints))
  is_nat_sound (term (pos c) [] (term d n p)) t = absurd t
  is_nat_sound (term (pos c) (i ∷ m) p) t = absurd t
  is_nat_sound (term (negsuc c) m p) t = absurd t

  abbrev Inv : Bool → Poly → Type 0
  Inv true s = eval_p ρ s ≡ pos 0
  Inv false s = pos 0 ≤ℤ eval_p ρ s

  weaken : (t : Bool) (s : Poly) → Inv t s → pos 0 ≤ℤ eval_p ρ s
  weaken true s i = subst (λ x. pos 0 ≤ℤ x) (sym i) (omega (arith, ints))
  weaken false s i = i

  both_left : (x y : Verdict) → Ok (both x y) → Ok x
  both_left ok y t = tt
  both_left (left p) y t = t
  both_left (factor p) y t = t
  both_left form y t = t

  both_right : (x y : Verdict) → Ok (both x y) → Ok y
  both_right ok y t = t
  both_right (left p) y t = absurd t
  both_right (factor p) y t = absurd t
  both_right form y t = absurd t

  -- the value of what is left
  rest : (e : Expr) (s : Poly) → eval_p ρ (add_p (norm e) (neg_p s)) ≡ eval ρ e -ℤ eval_p ρ s
  rest e s = add_p_sound ρ (norm e) (neg_p s) ∙ ap₂ (λ x y. x +ℤ y) (sound ρ e) (neg_p_sound ρ s)

  more : (s : Poly) (e : Expr) → eval_p ρ (add_p s (norm e)) ≡ eval_p ρ s +ℤ eval ρ e
  more s e = add_p_sound ρ s (norm e) ∙ ap (λ x. eval_p ρ s +ℤ x) (sound ρ e)

  zero_times : (u x y : ℤ) → x ≡ y → u *ℤ (x -ℤ y) ≡ pos 0
  zero_times u x y e = ap (λ z. u *ℤ (z -ℤ y)) e ∙ ap (λ z. u *ℤ z) (+ℤ_invr y) ∙ *ℤ-zero u

  plus_eq : (t : Bool) (s : Poly) (e : Expr) → eval ρ e ≡ pos 0 → Inv t s → Inv t (add_p s (norm e))
  plus_eq true s e h i = more s e ∙ ap₂ (λ x y. x +ℤ y) i h
  plus_eq false s e h i = subst (λ x. pos 0 ≤ℤ x) (sym (more s e ∙ ap (λ y. eval_p ρ s +ℤ y) h ∙ +ℤ_idr (eval_p ρ s))) i

  add_nonneg : (x y : ℤ) → pos 0 ≤ℤ x → pos 0 ≤ℤ y → pos 0 ≤ℤ (x +ℤ y)
  add_nonneg x y h g = omega (arith, ints)

  plus_le : (t : Bool) (s : Poly) (u e : Expr) → pos 0 ≤ℤ eval ρ u → pos 0 ≤ℤ eval ρ e → Inv t s → pos 0 ≤ℤ eval_p ρ (add_p s (norm (u :* e)))
  plus_le t s u e o h i =
      subst (λ x. pos 0 ≤ℤ x) (sym (more s (u :* e))) (add_nonneg (eval_p ρ s) (eval ρ (u :* e)) (weaken t s i) (mul_nonneg (eval ρ u) (eval ρ e) o h))

  nat_factor : (u : Expr) → Ok (is_nat (norm u)) → pos 0 ≤ℤ eval ρ u
  nat_factor u o = subst (λ x. pos 0 ≤ℤ x) (sound ρ u) (is_nat_sound (norm u) o)

  end_le : (x y : ℤ) → pos 0 ≤ℤ x → pos 0 ≤ℤ (y -ℤ x) → pos 0 ≤ℤ y
  end_le x y h g = omega (arith, ints)

  diff_le : (x y : ℤ) → x ≤ℤ y → pos 0 ≤ℤ (y -ℤ x)
  diff_le x y h = omega (arith, ints)

  le_diff : (x y : ℤ) → pos 0 ≤ℤ (y -ℤ x) → x ≤ℤ y
  le_diff x y h = omega (arith, ints)

  diff_lt : (x y : ℤ) → x <ℤ y → pos 0 ≤ℤ (y -ℤ x -ℤ pos 1)
  diff_lt x y h = omega (arith, ints)

  lt_diff : (x y : ℤ) → pos 0 ≤ℤ (y -ℤ x -ℤ pos 1) → x <ℤ y
  lt_diff x y h = omega (arith, ints)

  close_le : (e : Expr) (t : Bool) (s : Poly) → Ok (is_nat (add_p (norm e) (neg_p s))) → Inv t s → pos 0 ≤ℤ eval ρ e
  close_le e t s o i = end_le (eval_p ρ s) (eval ρ e) (weaken t s i) (subst (λ x. pos 0 ≤ℤ x) (rest e s) (is_nat_sound (add_p (norm e) (neg_p s)) o))

  check_sound : (t : Bool) (s : Poly) (c : Claim) → Ok (check t s c) → Inv t s → Holds ρ c
  check_sound true s (a := b) o i =
      sub_zero (eval ρ a) (eval ρ b) (sub_zero (eval ρ (a :- b)) (eval_p ρ s) (sym (rest (a :- b) s) ∙ is_zero_sound (add_p (norm (a :- b)) (neg_p s)) o) ∙ i)
  check_sound false s (a := b) o i = absurd o
  check_sound true s (a :≤ b) o i = le_diff (eval ρ a) (eval ρ b) (close_le (b :- a) true s o i)
  check_sound false s (a :≤ b) o i = le_diff (eval ρ a) (eval ρ b) (close_le (b :- a) false s o i)
  check_sound true s (a :< b) o i = lt_diff (eval ρ a) (eval ρ b) (close_le (b :- a :- con (pos 1)) true s o i)
  check_sound false s (a :< b) o i = lt_diff (eval ρ a) (eval ρ b) (close_le (b :- a :- con (pos 1)) false s o i)
  check_sound t s (u · (a := b) ⇒ c) o i = λ h. check_sound t (add_p s (norm (u :* (a :- b)))) c o (plus_eq t s (u :* (a :- b)) (zero_times (eval ρ u) (eval ρ a) (eval ρ b) h) i)
  check_sound t s (u · (a :≤ b) ⇒ c) o i = λ h. check_sound false (add_p s (norm (u :* (b :- a)))) c (both_right (is_nat (norm u)) (check false (add_p s (norm (u :* (b :- a)))) c) o)
      (plus_le t s u (b :- a) (nat_factor u (both_left (is_nat (norm u)) (check false (add_p s (norm (u :* (b :- a)))) c) o)) (diff_le (eval ρ a) (eval ρ b) h) i)
  check_sound t s (u · (a :< b) ⇒ c) o i = λ h. check_sound false (add_p s (norm (u :* (b :- a :- con (pos 1))))) c (both_right (is_nat (norm u)) (check false (add_p s (norm (u :* (b :- a :- con (pos 1))))) c) o)
      (plus_le t s u (b :- a :- con (pos 1)) (nat_factor u (both_left (is_nat (norm u)) (check false (add_p s (norm (u :* (b :- a :- con (pos 1))))) c) o)) (diff_lt (eval ρ a) (eval ρ b) h) i)
  check_sound t s (u · (w · h ⇒ g) ⇒ c) o i = absurd o
  check_sound t s (u · (w ⊙ h ⇒ g) ⇒ c) o i = absurd o
  check_sound t s (u ⊙ (a := b) ⇒ c) o i = absurd o
  check_sound t s (u ⊙ (a :≤ b) ⇒ c) o i = λ f h. check_sound false (add_p s (norm (u :* (b :- a)))) c o (plus_le t s u (b :- a) f (diff_le (eval ρ a) (eval ρ b) h) i)
  check_sound t s (u ⊙ (a :< b) ⇒ c) o i = λ f h. check_sound false (add_p s (norm (u :* (b :- a :- con (pos 1))))) c o (plus_le t s u (b :- a :- con (pos 1)) f (diff_lt (eval ρ a) (eval ρ b) h) i)
  check_sound t s (u ⊙ (w · h ⇒ g) ⇒ c) o i = absurd o
  check_sound t s (u ⊙ (w ⊙ h ⇒ g) ⇒ c) o i = absurd o

-- ---- the variables by a λ
abbrev pub Vars : ℕ → Type 0
Vars zero = Claim
Vars (suc n) = Expr → Vars n

abbrev pub named : (n : ℕ) → Vars n → Claim
named zero c = c
named (suc n) f = named n (f (var n))

abbrev pub For : ℕ → List ℤ → Claim → Type 0
For zero ρ c = Holds ρ c
For (suc n) ρ c = (x : ℤ) → For n (x ∷ ρ) c

for_all : (n : ℕ) (ρ : List ℤ) (c : Claim) → Ok (check true nil c) → For n ρ c
for_all zero ρ c o = check_sound ρ true nil c o refl
for_all (suc n) ρ c o = λ x. for_all n (x ∷ ρ) c o

pub solve : (n : ℕ) (f : Vars n) → check true nil (named n f) ≡ ok → For n [] (named n f)
solve n f e = for_all n [] (named n f) (subst Ok (sym e) tt)
