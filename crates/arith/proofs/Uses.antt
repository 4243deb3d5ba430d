-- Worked uses of `solve`.
use Rattle.std.proofs.Common.{◌≡◌, ℤ, pos, ◌+ℤ◌, ◌-ℤ◌, ◌*ℤ◌, ◌≤ℤ◌, ◌<ℤ◌, refl}
use Rattle.arith.proofs.Order.{mul_nonneg}
use Rattle.arith.proofs.Poly.{Expr, con, ◌:+◌, ◌:*◌, ◌:-◌}
use Rattle.arith.proofs.Solve.{solve, ◌:=◌, ◌:≤◌, ◌:<◌, ◌·◌⇒◌, ◌⊙◌⇒◌, ◌⟹◌}

-- an identity
squares : (x y : ℤ) → (x +ℤ y) *ℤ (x -ℤ y) ≡ x *ℤ x -ℤ y *ℤ y
squares = solve 2 (λ x y. (x :+ y) :* (x :- y) := x :* x :- y :* y) refl

-- from two equations, each with its factor
both_sides : (x y z w : ℤ) → x ≡ y → z ≡ w → x *ℤ z ≡ y *ℤ w
both_sides = solve 4 (λ x y z w. z · x := y ⇒ y · z := w ⇒ x :* z := y :* w) refl

-- an order, with a factor that is at least 0
scaled : (a b c : ℤ) → pos 0 ≤ℤ c → a ≤ℤ b → (c *ℤ a) ≤ℤ (c *ℤ b)
scaled = solve 3 (λ a b c. c ⊙ a :≤ b ⇒ c :* a :≤ c :* b) refl

-- a sign, from the sign of a product that is handed over
sign : (a b c d : ℤ) → pos 0 ≤ℤ a → pos 0 ≤ℤ b → pos 0 <ℤ c → d ≡ a *ℤ b +ℤ c → pos 0 <ℤ d
sign a b c d ha hb hc = solve 4 (λ a b c d. con (pos 0) :≤ a :* b ⟹ con (pos 0) :< c ⟹ d := a :* b :+ c ⟹ con (pos 0) :< d) refl a b c d (mul_nonneg a b ha hb) hc

-- Cramer's rule, with twelve variables: the determinants of the columns solve the first equation
abbrev det3 : ℤ → ℤ → ℤ → ℤ → ℤ → ℤ → ℤ → ℤ → ℤ → ℤ
det3 a b c d e f g h i = a *ℤ (e *ℤ i -ℤ f *ℤ h) -ℤ b *ℤ (d *ℤ i -ℤ f *ℤ g) +ℤ c *ℤ (d *ℤ h -ℤ e *ℤ g)

abbrev Det3 : Expr → Expr → Expr → Expr → Expr → Expr → Expr → Expr → Expr → Expr
Det3 a b c d e f g h i = a :* (e :* i :- f :* h) :- b :* (d :* i :- f :* g) :+ c :* (d :* h :- e :* g)

cramer : (a1 b1 c1 d1 a2 b2 c2 d2 a3 b3 c3 d3 : ℤ) →
    a1 *ℤ det3 d1 b1 c1 d2 b2 c2 d3 b3 c3 +ℤ b1 *ℤ det3 a1 d1 c1 a2 d2 c2 a3 d3 c3 +ℤ c1 *ℤ det3 a1 b1 d1 a2 b2 d2 a3 b3 d3
    -ℤ d1 *ℤ det3 a1 b1 c1 a2 b2 c2 a3 b3 c3 ≡ pos 0
cramer = solve 12 (λ a1 b1 c1 d1 a2 b2 c2 d2 a3 b3 c3 d3.
    a1 :* Det3 d1 b1 c1 d2 b2 c2 d3 b3 c3 :+ b1 :* Det3 a1 d1 c1 a2 d2 c2 a3 d3 c3 :+ c1 :* Det3 a1 b1 d1 a2 b2 d2 a3 b3 d3
    :- d1 :* Det3 a1 b1 c1 a2 b2 c2 a3 b3 c3 := con (pos 0)) refl
