-- Polynomial identities over the integers, by reflection. An expression `Expr` is evaluated in a list of values and brought to a sorted sum of monomials.
use Rattle.std.proofs.Common.{◌≡◌, ℕ, zero, suc, T, List, [], ◌∷◌, ℤ, pos, negsuc, ◌+ℤ◌, ◌-ℤ◌, ◌*ℤ◌, neg_ℤ, sym, refl, ap, ◌∙◌, subst, ap₂, eqb→eq}
use Prim.Native.Nat.{compare, Ordering}
use lib.Dec.{compare_is_eq}
use lib.IntN.{+ℤ_assoc, +ℤ_comm, +ℤ_idl, +ℤ_idr, zero-*ℤ, *ℤ-zero, *ℤ_comm, neg_ℤ-+ℤ, neg_ℤ-neg_ℤ}
use Rattle.arith.proofs.Ring.{distr, distl, neg_*l, one_*ℤ, *ℤ_assoc, *ℤ_swap_mid, *ℤ_swap_first, swap_mid, neg_unique}

infixl 6 ◌:+◌ ◌:-◌
infixl 7 ◌:*◌
pub data Expr : Type 0 where
  var : ℕ → Expr
  con : ℤ → Expr
  ◌:+◌ : Expr → Expr → Expr
  ◌:*◌ : Expr → Expr → Expr
  ◌:-◌ : Expr → Expr → Expr
  neg_e : Expr → Expr

abbrev pub at : List ℤ → ℕ → ℤ
at [] i = pos 0
at (x ∷ ρ) zero = x
at (x ∷ ρ) (suc i) = at ρ i

abbrev pub eval : List ℤ → Expr → ℤ
eval ρ (var i) = at ρ i
eval ρ (con c) = c
eval ρ (a :+ b) = eval ρ a +ℤ eval ρ b
eval ρ (a :* b) = eval ρ a *ℤ eval ρ b
eval ρ (a :- b) = eval ρ a -ℤ eval ρ b
eval ρ (neg_e a) = neg_ℤ (eval ρ a)

-- ---- monomials: the variables' numbers, sorted, each as often as its power
abbrev pub eval_m : List ℤ → List ℕ → ℤ
eval_m ρ [] = pos 1
eval_m ρ (i ∷ m) = at ρ i *ℤ eval_m ρ m

abbrev pub insert : ℕ → List ℕ → List ℕ
insert i [] = i ∷ []
insert i (j ∷ n) = elim (compare i j) [ Ordering.lt ↦ i ∷ j ∷ n | Ordering.eq ↦ i ∷ j ∷ n | Ordering.gt ↦ j ∷ insert i n ]

abbrev pub mul_m : List ℕ → List ℕ → List ℕ
mul_m [] n = n
mul_m (i ∷ m) n = insert i (mul_m m n)

-- the order by powers, so that a common factor keeps it: a list that is over is behind every longer one
abbrev pub cmp_m : List ℕ → List ℕ → Ordering
cmp_m [] [] = Ordering.eq
cmp_m [] (j ∷ n) = Ordering.gt
cmp_m (i ∷ m) [] = Ordering.lt
cmp_m (i ∷ m) (j ∷ n) = elim (compare i j) [ Ordering.lt ↦ Ordering.lt | Ordering.eq ↦ cmp_m m n | Ordering.gt ↦ Ordering.gt ]

insert_sound : (ρ : List ℤ) (i : ℕ) (n : List ℕ) → eval_m ρ (insert i n) ≡ at ρ i *ℤ eval_m ρ n
insert_sound ρ i [] = refl
insert_sound ρ i (j ∷ n) = go (compare i j) (insert_sound ρ i n)
  where
    go : (o : Ordering) → eval_m ρ (insert i n) ≡ at ρ i *ℤ eval_m ρ n → eval_m ρ (elim o [ Ordering.lt ↦ i ∷ j ∷ n | Ordering.eq ↦ i ∷ j ∷ n | Ordering.gt ↦ j ∷ insert i n ]) ≡ at ρ i *ℤ (at ρ j *ℤ eval_m ρ n)
    go Ordering.lt ih = refl
    go Ordering.eq ih = refl
    go Ordering.gt ih = ap (λ x. at ρ j *ℤ x) ih ∙ *ℤ_swap_first (at ρ j) (at ρ i) (eval_m ρ n)

mul_m_sound : (ρ : List ℤ) (m n : List ℕ) → eval_m ρ (mul_m m n) ≡ eval_m ρ m *ℤ eval_m ρ n
mul_m_sound ρ [] n = sym (one_*ℤ (eval_m ρ n))
mul_m_sound ρ (i ∷ m) n = insert_sound ρ i (mul_m m n) ∙ ap (λ x. at ρ i *ℤ x) (mul_m_sound ρ m n) ∙ sym (*ℤ_assoc (at ρ i) (eval_m ρ m) (eval_m ρ n))

cmp_m_sound : (m n : List ℕ) → T (compare_is_eq (cmp_m m n)) → m ≡ n
cmp_m_sound [] [] t = refl
cmp_m_sound [] (j ∷ n) t = absurd t
cmp_m_sound (i ∷ m) [] t = absurd t
cmp_m_sound (i ∷ m) (j ∷ n) t = go (compare i j) refl (cmp_m_sound m n) t
  where
    go : (o : Ordering) → compare i j ≡ o → (T (compare_is_eq (cmp_m m n)) → m ≡ n) → T (compare_is_eq (elim o [ Ordering.lt ↦ Ordering.lt | Ordering.eq ↦ cmp_m m n | Ordering.gt ↦ Ordering.gt ])) → (i ∷ m) ≡ (j ∷ n)
    go Ordering.lt e ih t = absurd t
    go Ordering.eq e ih t = ap₂ (λ x y. x ∷ y) (eqb→eq i j (subst (λ o. T (compare_is_eq o)) (sym e) tt)) (ih t)
    go Ordering.gt e ih t = absurd t

-- ---- polynomials: monomials with coefficients, sorted
pub data Poly : Type 0 where
  nil : Poly
  term : ℤ → List ℕ → Poly → Poly

abbrev pub eval_p : List ℤ → Poly → ℤ
eval_p ρ nil = pos 0
eval_p ρ (term c m p) = c *ℤ eval_m ρ m +ℤ eval_p ρ p

-- a term, left out where its coefficient is zero
abbrev pub cons : ℤ → List ℕ → Poly → Poly
cons (pos zero) m p = p
cons (pos (suc n)) m p = term (pos (suc n)) m p
cons (negsuc n) m p = term (negsuc n) m p

abbrev pub add_t : ℤ → List ℕ → (Poly → Poly) → Poly → Poly
add_t c m f nil = term c m (f nil)
add_t c m f (term d n q) = elim (cmp_m m n) [ Ordering.lt ↦ term c m (f (term d n q)) | Ordering.eq ↦ cons (c +ℤ d) m (f q) | Ordering.gt ↦ term d n (add_t c m f q) ]

abbrev pub add_p : Poly → Poly → Poly
add_p nil q = q
add_p (term c m p) q = add_t c m (add_p p) q

abbrev pub mul_t : ℤ → List ℕ → Poly → Poly
mul_t c m nil = nil
mul_t c m (term d n q) = term (c *ℤ d) (mul_m m n) (mul_t c m q)

-- sums of 1, 2, 4 .. rows, so that long sums meet long sums: a row is added as in a binary counter
abbrev pub carry : Poly → List Poly → List Poly
carry p [] = p ∷ []
carry p (nil ∷ r) = p ∷ r
carry p (term c m q ∷ r) = nil ∷ carry (add_p p (term c m q)) r

abbrev pub total : List Poly → Poly
total [] = nil
total (p ∷ r) = add_p p (total r)

abbrev pub rows : Poly → Poly → List Poly → List Poly
rows nil q r = r
rows (term c m p) q r = rows p q (carry (mul_t c m q) r)

abbrev pub mul_p : Poly → Poly → Poly
mul_p p q = total (rows p q [])

abbrev pub neg_p : Poly → Poly
neg_p nil = nil
neg_p (term c m p) = term (neg_ℤ c) m (neg_p p)

abbrev pub norm : Expr → Poly
norm (var i) = term (pos 1) (i ∷ []) nil
norm (con c) = cons c [] nil
norm (a :+ b) = add_p (norm a) (norm b)
norm (a :* b) = mul_p (norm a) (norm b)
norm (a :- b) = add_p (norm a) (neg_p (norm b))
norm (neg_e a) = neg_p (norm a)

-- ---- soundness
cons_sound : (ρ : List ℤ) (c : ℤ) (m : List ℕ) (p : Poly) → eval_p ρ (cons c m p) ≡ c *ℤ eval_m ρ m +ℤ eval_p ρ p
cons_sound ρ (pos zero) m p = sym (ap (λ x. x +ℤ eval_p ρ p) (zero-*ℤ (eval_m ρ m)) ∙ +ℤ_idl (eval_p ρ p))
cons_sound ρ (pos (suc n)) m p = refl
cons_sound ρ (negsuc n) m p = refl

module _ (ρ : List ℤ) where
  add_t_sound : (c : ℤ) (m : List ℕ) (f : Poly → Poly) (P : ℤ) → ((q : Poly) → eval_p ρ (f q) ≡ P +ℤ eval_p ρ q) → (q : Poly) → eval_p ρ (add_t c m f q) ≡ (c *ℤ eval_m ρ m +ℤ P) +ℤ eval_p ρ q
  add_t_sound c m f P h nil = ap (λ x. c *ℤ eval_m ρ m +ℤ x) (h nil) ∙ sym (+ℤ_assoc (c *ℤ eval_m ρ m) P (pos 0))
  add_t_sound c m f P h (term d n q) = go (cmp_m m n) refl (add_t_sound c m f P h q)
    where
      M : ℤ
      M = eval_m ρ m

      N : ℤ
      N = eval_m ρ n

      Q : ℤ
      Q = eval_p ρ q

      go : (o : Ordering) → cmp_m m n ≡ o → eval_p ρ (add_t c m f q) ≡ (c *ℤ M +ℤ P) +ℤ Q → eval_p ρ (elim o [ Ordering.lt ↦ term c m (f (term d n q)) | Ordering.eq ↦ cons (c +ℤ d) m (f q) | Ordering.gt ↦ term d n (add_t c m f q) ]) ≡ (c *ℤ M +ℤ P) +ℤ (d *ℤ N +ℤ Q)
      go Ordering.lt e ih = ap (λ x. c *ℤ M +ℤ x) (h (term d n q)) ∙ sym (+ℤ_assoc (c *ℤ M) P (d *ℤ N +ℤ Q))
      go Ordering.eq e ih =
          cons_sound ρ (c +ℤ d) m (f q) ∙ ap₂ (λ x y. x +ℤ y) (distr c d M) (h q) ∙ swap_mid (c *ℤ M) (d *ℤ M) P Q
          ∙ ap (λ x. (c *ℤ M +ℤ P) +ℤ (d *ℤ eval_m ρ x +ℤ Q)) (cmp_m_sound m n (subst (λ o. T (compare_is_eq o)) (sym e) tt))
      go Ordering.gt e ih =
          ap (λ x. d *ℤ N +ℤ x) ih ∙ sym (+ℤ_assoc (d *ℤ N) (c *ℤ M +ℤ P) Q) ∙ ap (λ x. x +ℤ Q) (+ℤ_comm (d *ℤ N) (c *ℤ M +ℤ P)) ∙ +ℤ_assoc (c *ℤ M +ℤ P) (d *ℤ N) Q

  pub add_p_sound : (p q : Poly) → eval_p ρ (add_p p q) ≡ eval_p ρ p +ℤ eval_p ρ q
  add_p_sound nil q = sym (+ℤ_idl (eval_p ρ q))
  add_p_sound (term c m p) q = add_t_sound c m (add_p p) (eval_p ρ p) (add_p_sound p) q

  mul_t_sound : (c : ℤ) (m : List ℕ) (q : Poly) → eval_p ρ (mul_t c m q) ≡ (c *ℤ eval_m ρ m) *ℤ eval_p ρ q
  mul_t_sound c m nil = sym (*ℤ-zero (c *ℤ eval_m ρ m))
  mul_t_sound c m (term d n q) =
      ap₂ (λ x y. x +ℤ y) (ap (λ x. (c *ℤ d) *ℤ x) (mul_m_sound ρ m n) ∙ *ℤ_swap_mid c d (eval_m ρ m) (eval_m ρ n)) (mul_t_sound c m q)
      ∙ sym (distl (c *ℤ eval_m ρ m) (d *ℤ eval_m ρ n) (eval_p ρ q))

  eval_l : List Poly → ℤ
  eval_l [] = pos 0
  eval_l (p ∷ r) = eval_p ρ p +ℤ eval_l r

  carry_sound : (p : Poly) (r : List Poly) → eval_l (carry p r) ≡ eval_p ρ p +ℤ eval_l r
  unfolding eval_l
  carry_sound p [] = refl
  carry_sound p (nil ∷ r) = ap (λ x. eval_p ρ p +ℤ x) (sym (+ℤ_idl (eval_l r)))
  carry_sound p (term c m q ∷ r) =
      +ℤ_idl (eval_l (carry (add_p p (term c m q)) r)) ∙ carry_sound (add_p p (term c m q)) r ∙ ap (λ x. x +ℤ eval_l r) (add_p_sound p (term c m q)) ∙ +ℤ_assoc (eval_p ρ p) (eval_p ρ (term c m q)) (eval_l r)

  total_sound : (r : List Poly) → eval_p ρ (total r) ≡ eval_l r
  unfolding eval_l
  total_sound [] = refl
  total_sound (p ∷ r) = add_p_sound p (total r) ∙ ap (λ x. eval_p ρ p +ℤ x) (total_sound r)

  rows_sound : (p q : Poly) (r : List Poly) → eval_l (rows p q r) ≡ eval_p ρ p *ℤ eval_p ρ q +ℤ eval_l r
  rows_sound nil q r = sym (ap (λ x. x +ℤ eval_l r) (zero-*ℤ (eval_p ρ q)) ∙ +ℤ_idl (eval_l r))
  rows_sound (term c m p) q r =
      rows_sound p q (carry (mul_t c m q) r) ∙ ap (λ x. eval_p ρ p *ℤ eval_p ρ q +ℤ x) (carry_sound (mul_t c m q) r ∙ ap (λ x. x +ℤ eval_l r) (mul_t_sound c m q))
      ∙ sym (+ℤ_assoc (eval_p ρ p *ℤ eval_p ρ q) ((c *ℤ eval_m ρ m) *ℤ eval_p ρ q) (eval_l r))
      ∙ ap (λ x. x +ℤ eval_l r) (+ℤ_comm (eval_p ρ p *ℤ eval_p ρ q) ((c *ℤ eval_m ρ m) *ℤ eval_p ρ q) ∙ sym (distr (c *ℤ eval_m ρ m) (eval_p ρ p) (eval_p ρ q)))

  pub mul_p_sound : (p q : Poly) → eval_p ρ (mul_p p q) ≡ eval_p ρ p *ℤ eval_p ρ q
  unfolding eval_l
  mul_p_sound p q = total_sound (rows p q []) ∙ rows_sound p q [] ∙ +ℤ_idr (eval_p ρ p *ℤ eval_p ρ q)

  pub neg_p_sound : (p : Poly) → eval_p ρ (neg_p p) ≡ neg_ℤ (eval_p ρ p)
  neg_p_sound nil = refl
  neg_p_sound (term c m p) = ap₂ (λ x y. x +ℤ y) (neg_*l c (eval_m ρ m)) (neg_p_sound p) ∙ sym (neg_ℤ-+ℤ (c *ℤ eval_m ρ m) (eval_p ρ p))

  pub sound : (e : Expr) → eval_p ρ (norm e) ≡ eval ρ e
  sound (var i) = +ℤ_idr (pos 1 *ℤ (at ρ i *ℤ pos 1)) ∙ one_*ℤ (at ρ i *ℤ pos 1) ∙ *ℤ_comm (at ρ i) (pos 1) ∙ one_*ℤ (at ρ i)
  sound (con c) = cons_sound ρ c [] nil ∙ +ℤ_idr (c *ℤ pos 1) ∙ *ℤ_comm c (pos 1) ∙ one_*ℤ c
  sound (a :+ b) = add_p_sound (norm a) (norm b) ∙ ap₂ (λ x y. x +ℤ y) (sound a) (sound b)
  sound (a :* b) = mul_p_sound (norm a) (norm b) ∙ ap₂ (λ x y. x *ℤ y) (sound a) (sound b)
  sound (a :- b) = add_p_sound (norm a) (neg_p (norm b)) ∙ ap₂ (λ x y. x +ℤ y) (sound a) (neg_p_sound (norm b) ∙ ap neg_ℤ (sound b))
  sound (neg_e a) = neg_p_sound (norm a) ∙ ap neg_ℤ (sound a)

pub sub_zero : (a b : ℤ) → a -ℤ b ≡ pos 0 → a ≡ b
sub_zero a b e = neg_unique a (neg_ℤ b) e ∙ neg_ℤ-neg_ℤ b

-- an identity holds at all values where the difference of its sides has no term left
pub ring : (ρ : List ℤ) (a b : Expr) → norm (a :- b) ≡ nil → eval ρ a ≡ eval ρ b
ring ρ a b e = sub_zero (eval ρ a) (eval ρ b) (sym (sound ρ (a :- b)) ∙ ap (eval_p ρ) e)
