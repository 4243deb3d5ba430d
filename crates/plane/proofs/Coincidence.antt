-- When two planes are one. With n and m the directions of p and r: r times n·n is p times n·m exactly if p and r are one.
--     alike, opposite      if they are in that ratio, the sign of n·m says which way they look
--     apart                else a place on p is off r: the foot of p, or the foot moved by n (n·m) - m (n·n), which goes along p
use Rattle.std.proofs.Common.{◌≡◌, true, ℤ, pos, negsuc, ◌+ℤ◌, ◌-ℤ◌, ◌*ℤ◌, ◌<ℤ◌, sym, refl, ap, ◌∙◌, inl, inr, arith}
use lib.IntN.{zero-*ℤ}
use Rattle.std.proofs.lemmas.Int.{ints}
use Rattle.std.proofs.lemmas.Bool.{cases_Bool}
use Rattle.arith.proofs.Order.{minus, plus, sgn, times, sgn_mul, sgn_scaled, says_sgn, cancel_zero_pos, squares_zero, squares_positive}
use Rattle.arith.proofs.Poly.{Expr, con, ◌:+◌, ◌:-◌, ◌:*◌}
use Rattle.arith.proofs.Solve.{solve, ◌:=◌, ◌·◌⇒◌, ◌⟹◌}
use Rattle.plane.specs.declared.types.Plane.{Plane}
use Rattle.plane.specs.declared.types.Place.{Place}
use Rattle.plane.specs.Limits.{Sloped}
use Rattle.plane.specs.Planes.{height, on, turned, along, OneAlike, OneOpposite, Apart}
use Rattle.plane.specs.Ratios.{multiplied, InRatio}
use Rattle.plane.proofs.Formulas.{Height, Dot}
use Rattle.plane.proofs.Heights.{same_side, on-height, height-on}
use Rattle.plane.proofs.Invariance.{sign_turned}
use Rattle.plane.proofs.Places.{place, height-place, size_real}
use Rattle.plane.proofs.Ranges.{made}

pub height-multiplied : (k : ℤ) (p : Plane) (q : Place) → height (multiplied k p) q ≡ k *ℤ height p q
unfolding height multiplied
height-multiplied k p q = solve 9 (λ k a b c d x y z w. Height (k :* a) (k :* b) (k :* c) (k :* d) x y z w := k :* Height a b c d x y z w) refl
    k p.a p.b p.c p.d q.x q.y q.z (pos q.w)

pub length_positive : (p : Plane) → Sloped p → pos 0 <ℤ along p p
unfolding along
length_positive p s = squares_positive p.a p.b p.c s

-- ---- in ratio
module _ (p r : Plane) (s : Sloped p) (e : InRatio p r) where
  sign_in_ratio : (q : Place) → sgn (height r q) ≡ times (sgn (along p r)) (sgn (height p q))
  sign_in_ratio q =
      let h = sym (height-multiplied (along p p) r q) ∙ ap (λ (m : Plane). height m q) e ∙ height-multiplied (along p r) p q in
      sym (sgn_scaled (along p p) (height r q) (length_positive p s)) ∙ ap sgn h ∙ sgn_mul (along p r) (height p q)

  pub alike : pos 0 <ℤ along p r → OneAlike p r
  alike k q w = (same_side r q p q (sign_in_ratio q ∙ ap (λ t. times t (sgn (height p q))) (says_sgn plus (along p r) k))).in_side

  pub opposite : along p r <ℤ pos 0 → OneOpposite p r
  opposite k q w =
      (same_side r q (turned p) q
      (sign_in_ratio q ∙ ap (λ t. times t (sgn (height p q))) (says_sgn minus (along p r) k) ∙ sym (sign_turned p q))).in_side

  -- the ratio is not 0
  vanishes : (x y : ℤ) → along p p *ℤ x ≡ along p r *ℤ y → along p r ≡ pos 0 → x ≡ pos 0
  vanishes x y h z = cancel_zero_pos (along p p) x (length_positive p s) (h ∙ ap (λ k. k *ℤ y) z ∙ zero-*ℤ y)

  pub along_nonzero : Sloped r → along p r ≡ pos 0 → ⊥
  unfolding multiplied
  along_nonzero t z =
      t (
        vanishes r.a p.a (ap (λ (m : Plane). m.a) e) z,
        vanishes r.b p.b (ap (λ (m : Plane). m.b) e) z,
        vanishes r.c p.c (ap (λ (m : Plane). m.c) e) z,
      )

-- ---- apart
foot : Plane → Place
foot p = place (p.a *ℤ p.d) (p.b *ℤ p.d) (p.c *ℤ p.d) (along p p)

foot_on : (p : Plane) → Sloped p → on p (foot p) ≡ true
unfolding foot along
foot_on p s = height-on p (foot p) (height-place p _ _ _ _ (length_positive p s) ∙
    solve 4 (λ a b c d. Height a b c d (a :* d) (b :* d) (c :* d) (Dot a b c a b c) := con (pos 0)) refl p.a p.b p.c p.d)

-- by how much r, times n·n, differs from p, times n·m
off : Plane → Plane → ℤ → ℤ → ℤ
off p r i j = (along p r *ℤ i) -ℤ (along p p *ℤ j)

abbrev Off : Expr → Expr → Expr → Expr → Expr → Expr → Expr → Expr → Expr
Off a b c e f g i j = Dot a b c e f g :* i :- Dot a b c a b c :* j

-- the foot, moved by that
beside : Plane → Plane → Place
beside p r = place (p.a *ℤ p.d +ℤ off p r p.a r.a) (p.b *ℤ p.d +ℤ off p r p.b r.b) (p.c *ℤ p.d +ℤ off p r p.c r.c) (along p p)

beside_on : (p r : Plane) → Sloped p → on p (beside p r) ≡ true
unfolding beside off along
beside_on p r s = height-on p (beside p r) (height-place p _ _ _ _ (length_positive p s) ∙
    solve 7 (λ a b c d e f g. Height a b c d (a :* d :+ Off a b c e f g a e) (b :* d :+ Off a b c e f g b f) (c :* d :+ Off a b c e f g c g) (Dot a b c a b c) := con (pos 0)) refl
    p.a p.b p.c p.d r.a r.b r.c)

-- if neither place is off r, the planes are in ratio
foot_says : (p r : Plane) → Sloped p → height r (foot p) ≡ pos 0 → off p r p.d r.d ≡ pos 0
unfolding foot off along
foot_says p r s h =
    solve 8 (λ a b c d e f g h. Height e f g h (a :* d) (b :* d) (c :* d) (Dot a b c a b c) := con (pos 0) ⟹ Off a b c e f g d h := con (pos 0)) refl
    p.a p.b p.c p.d r.a r.b r.c r.d (sym (height-place r _ _ _ _ (length_positive p s)) ∙ h)

abbrev square : ℤ → ℤ
square x = x *ℤ x

beside_says : (p r : Plane) → Sloped p → off p r p.d r.d ≡ pos 0 → height r (beside p r) ≡ pos 0 →
    (square (off p r p.a r.a) +ℤ square (off p r p.b r.b)) +ℤ square (off p r p.c r.c) ≡ pos 0
unfolding beside off along
beside_says p r s o h =
    solve 8 (λ a b c d e f g h. let x = Off a b c e f g a e in let y = Off a b c e f g b f in let z = Off a b c e f g c g in let s = Dot a b c a b c in
    s · Off a b c e f g d h := con (pos 0) ⇒ con (negsuc 0) :* s · Height e f g h (a :* d :+ x) (b :* d :+ y) (c :* d :+ z) s := con (pos 0) ⇒ Dot x y z x y z := con (pos 0)) refl
    p.a p.b p.c p.d r.a r.b r.c r.d o (sym (height-place r _ _ _ _ (length_positive p s)) ∙ h)

apart_none : (p r : Plane) (i j : ℤ) → off p r i j ≡ pos 0 → along p p *ℤ j ≡ along p r *ℤ i
unfolding off
apart_none p r i j e = sub_same (along p r *ℤ i) (along p p *ℤ j) e
  where
    sub_same : (x y : ℤ) → x -ℤ y ≡ pos 0 → y ≡ x
    sub_same x y e = omega (arith, ints)

in_ratio : (p r : Plane) → Sloped p → on r (foot p) ≡ true → on r (beside p r) ≡ true → InRatio p r
unfolding multiplied
in_ratio p r s h k =
    let d = foot_says p r s (on-height r (foot p) h) in
    let n = squares_zero _ _ _ (beside_says p r s d (on-height r (beside p r) k)) in
    made (multiplied (along p r) p) (apart_none p r _ _ n.0) (apart_none p r _ _ n.1) (apart_none p r _ _ n.2) (apart_none p r _ _ d)

pub apart : (p r : Plane) → Sloped p → (InRatio p r → ⊥) → Apart p r
unfolding foot beside
apart p r s n =
    elim (cases_Bool (on r (foot p))) [
      | inr t ↦ record { place = foot p; real = size_real (along p p) (length_positive p s); on_one = foot_on p s; off_other = t }
      | inl h ↦ elim (cases_Bool (on r (beside p r))) [
        | inr t ↦ record { place = beside p r; real = size_real (along p p) (length_positive p s); on_one = beside_on p r s; off_other = t }
        | inl k ↦ absurd (n (in_ratio p r s h k))
      ]
    ]
