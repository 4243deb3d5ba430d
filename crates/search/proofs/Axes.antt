-- Level planes by their axis.
--     number_some, number_slope, number_is,
--     number_none                                    the number of a plane along an axis
--     slope_size, number_short, then_short           how large slopes and numbers are
--     turned_level                                   a level plane turned round is level
--     axis_of, Only, number_only                     each level plane has an axis, and no slope along the others
--     rise, height_along                             how far a place is past a number, and the plane's height by that
--     on-rise, rise-on                               on the plane: at its number
--     along_only, only_turned, way, ways,
--     same_way-along                                 level planes of one axis lie the same way, or turned
use Rattle.std.proofs.Common.{◌≡◌, ℕ, zero, suc, ◌+◌, ◌≤◌, Bool, true, false, ◌&&◌, ◌⊎◌, ℤ, pos, negsuc, ◌-ℤ◌, ◌*ℤ◌, neg_ℤ, nat_abs, ◌<ℤ◌, IfSome, Some, None, sym, refl, ap, ◌∙◌, subst, ap₂, inl, inr, arith}
use lib.IntN.{*ℤ-zero}
use lib.Signed.{lt_z}
use Rattle.std.proofs.lemmas.Int.{ints}
use Rattle.std.proofs.lemmas.Bool.{and_parts, and_from}
use Rattle.std.specs.Bool.{then_some}
use Rattle.arith.specs.Bounds.{Short}
use Rattle.arith.proofs.Order.{tri, below, same, above, cancel_zero}
use Rattle.arith.proofs.Poly.{con, neg_e, ◌:-◌, ◌:*◌}
use Rattle.arith.proofs.Sized.{is_self, is_mul}
use Rattle.arith.proofs.Solve.{solve, ◌:=◌, ◌:<◌, ◌·◌⇒◌, ◌⟹◌}
use Rattle.plane.specs.declared.types.Plane.{Plane}
use Rattle.plane.specs.declared.types.Place.{Place}
use Rattle.plane.specs.Limits.{FitsPlane, offset_limit}
use Rattle.plane.specs.Planes.{same_z, height, on, turned, along, same_way}
use Rattle.plane.proofs.Formulas.{Height, Dot}
use Rattle.plane.proofs.Heights.{on-height, height-on}
use Rattle.plane.proofs.Tests.{lt_yes, lt_says, same_yes}
use Rattle.search.specs.declared.levels.Axis.{Axis}
use Rattle.search.specs.declared.levels.Axis.TheVariants.{X, Y, Z}
use Rattle.search.specs.Levels.{Level, slope_along, coordinate, number_by, number_along}

-- ---- the number along an axis
by_some : (s d : ℤ) → (s ≡ pos 0 → ⊥) → number_by s d ≡ Some (s *ℤ d)
by_some (pos zero) d n = absurd (n refl)
by_some (pos (suc k)) d n = refl
by_some (negsuc k) d n = refl

by_slope : (s d v : ℤ) → number_by s d ≡ Some v → s ≡ pos 0 → ⊥
by_slope s d v e z =
    let k : None ≡ Some v = sym (ap (λ (t : ℤ). number_by t d) z) ∙ e in
    let o : ◌≡◌ {A = ℕ} 0 1 = cc in
    omega arith

by_number : (s d v : ℤ) → number_by s d ≡ Some v → v ≡ s *ℤ d
by_number s d v e = let k = by_some s d (by_slope s d v e) in cc

by_none : (s d : ℤ) → number_by s d ≡ None → s ≡ pos 0
by_none (pos zero) d e = refl
by_none (pos (suc k)) d e = let o : ◌≡◌ {A = ℕ} 0 1 = cc in absurd (omega arith)
by_none (negsuc k) d e = let o : ◌≡◌ {A = ℕ} 0 1 = cc in absurd (omega arith)

module _ (x : Axis) (p : Plane) where
  pub number_some : (slope_along x p ≡ pos 0 → ⊥) → number_along x p ≡ Some (slope_along x p *ℤ p.d)
  number_some n = by_some (slope_along x p) p.d n

  pub number_slope : (v : ℤ) → number_along x p ≡ Some v → slope_along x p ≡ pos 0 → ⊥
  number_slope v e = by_slope (slope_along x p) p.d v e

  pub number_is : (v : ℤ) → number_along x p ≡ Some v → v ≡ slope_along x p *ℤ p.d
  number_is v e = by_number (slope_along x p) p.d v e

  pub number_none : number_along x p ≡ None → slope_along x p ≡ pos 0
  number_none e = by_none (slope_along x p) p.d e

-- ---- sizes
pub slope_size : (x : Axis) (p : Plane) → Level p → nat_abs (slope_along x p) ≤ 1
slope_size X p l = omega arith
slope_size Y p l = omega arith
slope_size Z p l = omega arith

pub number_short : (x : Axis) (p : Plane) (v : ℤ) → FitsPlane p × Level p → number_along x p ≡ Some v → Short v offset_limit
number_short x p v f e =
    let s : Short (slope_along x p) 1 = record { size = slope_size x p f.1 } in
    subst (λ (u : ℤ). Short u offset_limit) (sym (number_is x p v e)) (is_mul (is_self s) (is_self f.0.d)).short

pub then_short : (b : Bool) (v : ℤ) (n : ℕ) → Short v n → IfSome (then_some b v) (λ u. Short u n)
then_short true v n s = s
then_short false v n s = tt

-- ---- the axis of a plane
zero_or : (z : ℤ) → (z ≡ pos 0) ⊎ (z ≡ pos 0 → ⊥)
zero_or z = elim (tri z (pos 0)) [
  | below h ↦ inr (λ e. omega (arith, ints))
  | same e ↦ inl e
  | above h ↦ inr (λ e. omega (arith, ints))
]

pub axis_of : (p : Plane) → Level p → (x : Axis) × (v : ℤ) × (number_along x p ≡ Some v)
axis_of p l = elim (zero_or p.a) [
  | inr n ↦ (X, _, number_some X p n)
  | inl a ↦ elim (zero_or p.b) [
    | inr n ↦ (Y, _, number_some Y p n)
    | inl b ↦ (Z, _, number_some Z p (λ c. omega (arith, ints)))
  ]
]

-- the other slopes are 0
abbrev pub Only : Axis → Plane → Type 0
Only X p = (p.b ≡ pos 0) × (p.c ≡ pos 0)
Only Y p = (p.a ≡ pos 0) × (p.c ≡ pos 0)
Only Z p = (p.a ≡ pos 0) × (p.b ≡ pos 0)

size_some : (z : ℤ) → (z ≡ pos 0 → ⊥) → 1 ≤ nat_abs z
size_some (pos zero) n = absurd (n refl)
size_some (pos (suc k)) n = omega arith
size_some (negsuc k) n = omega arith

slope_only : (x : Axis) (p : Plane) → Level p → (slope_along x p ≡ pos 0 → ⊥) → Only x p
slope_only X p l n = let h = size_some p.a n in (omega (arith, ints), omega (arith, ints))
slope_only Y p l n = let h = size_some p.b n in (omega (arith, ints), omega (arith, ints))
slope_only Z p l n = let h = size_some p.c n in (omega (arith, ints), omega (arith, ints))

pub number_only : (x : Axis) (p : Plane) (v : ℤ) → Level p → number_along x p ≡ Some v → Only x p
number_only x p v l e = slope_only x p l (number_slope x p v e)

-- ---- heights
unit_square : (s : ℤ) → nat_abs s ≤ 1 → (s ≡ pos 0 → ⊥) → s *ℤ s ≡ pos 1
unit_square (pos zero) h n = absurd (n refl)
unit_square (pos (suc zero)) h n = refl
unit_square (pos (suc (suc k))) h n = absurd (omega arith)
unit_square (negsuc zero) h n = refl
unit_square (negsuc (suc k)) h n = absurd (omega arith)

-- how far a place is past a number of the axis, in units of its w
abbrev pub rise : Axis → Place → ℤ → ℤ
rise x q v = coordinate x q -ℤ (v *ℤ pos q.w)

by_rise : (x : Axis) (p : Plane) (q : Place) → Only x p → slope_along x p *ℤ slope_along x p ≡ pos 1 → height p q ≡ slope_along x p *ℤ rise x q (slope_along x p *ℤ p.d)
unfolding height
by_rise X p q o u =
    solve 8 (λ a b c d x y z w. y · b := con (pos 0) ⇒ z · c := con (pos 0) ⇒ d :* w · a :* a := con (pos 1) ⇒ Height a b c d x y z w := a :* (x :- (a :* d) :* w)) refl
    p.a p.b p.c p.d q.x q.y q.z (pos q.w) o.0 o.1 u
by_rise Y p q o u =
    solve 8 (λ a b c d x y z w. x · a := con (pos 0) ⇒ z · c := con (pos 0) ⇒ d :* w · b :* b := con (pos 1) ⇒ Height a b c d x y z w := b :* (y :- (b :* d) :* w)) refl
    p.a p.b p.c p.d q.x q.y q.z (pos q.w) o.0 o.1 u
by_rise Z p q o u =
    solve 8 (λ a b c d x y z w. x · a := con (pos 0) ⇒ y · b := con (pos 0) ⇒ d :* w · c :* c := con (pos 1) ⇒ Height a b c d x y z w := c :* (z :- (c :* d) :* w)) refl
    p.a p.b p.c p.d q.x q.y q.z (pos q.w) o.0 o.1 u

module _ (x : Axis) (p : Plane) (v : ℤ) (l : Level p) (e : number_along x p ≡ Some v) where
  pub height_along : (q : Place) → height p q ≡ slope_along x p *ℤ rise x q v
  height_along q =
      by_rise x p q (number_only x p v l e) (unit_square (slope_along x p) (slope_size x p l) (number_slope x p v e))
      ∙ ap (λ (u : ℤ). slope_along x p *ℤ rise x q u) (sym (number_is x p v e))

  pub on-rise : (q : Place) → on p q ≡ true → rise x q v ≡ pos 0
  on-rise q h = cancel_zero (slope_along x p) (rise x q v) (number_slope x p v e) (sym (height_along q) ∙ on-height p q h)

  pub rise-on : (q : Place) → rise x q v ≡ pos 0 → on p q ≡ true
  rise-on q h = height-on p q (height_along q ∙ ap (λ (z : ℤ). slope_along x p *ℤ z) h ∙ *ℤ-zero (slope_along x p))

-- ---- level planes of one axis lie the same way, or one of them turned
pub along_only : (x : Axis) (p r : Plane) → Only x r → along p r ≡ slope_along x p *ℤ slope_along x r
unfolding along
along_only X p r o =
    solve 6 (λ a b c i j k. b · j := con (pos 0) ⇒ c · k := con (pos 0) ⇒ Dot a b c i j k := a :* i) refl p.a p.b p.c r.a r.b r.c o.0 o.1
along_only Y p r o =
    solve 6 (λ a b c i j k. a · i := con (pos 0) ⇒ c · k := con (pos 0) ⇒ Dot a b c i j k := b :* j) refl p.a p.b p.c r.a r.b r.c o.0 o.1
along_only Z p r o =
    solve 6 (λ a b c i j k. a · i := con (pos 0) ⇒ b · j := con (pos 0) ⇒ Dot a b c i j k := c :* k) refl p.a p.b p.c r.a r.b r.c o.0 o.1

-- two slopes that are 0 in both planes, or in neither that counts
first_none : (a b i j : ℤ) → a ≡ pos 0 → i ≡ pos 0 → same_z (a *ℤ j) (b *ℤ i) ≡ true
first_none a b i j h k = same_yes _ _ (solve 4 (λ a b i j. j · a := con (pos 0) ⇒ neg_e b · i := con (pos 0) ⇒ a :* j := b :* i) refl a b i j h k)

second_none : (a b i j : ℤ) → b ≡ pos 0 → j ≡ pos 0 → same_z (a *ℤ j) (b *ℤ i) ≡ true
second_none a b i j h k = same_yes _ _ (solve 4 (λ a b i j. neg_e i · b := con (pos 0) ⇒ a · j := con (pos 0) ⇒ a :* j := b :* i) refl a b i j h k)

pub way : (x : Axis) (p r : Plane) → Only x p → Only x r → pos 0 <ℤ (slope_along x p *ℤ slope_along x r) → same_way p r ≡ true
unfolding same_way
way x p r m o h =
    let k : lt_z (pos 0) (along p r) ≡ true = lt_yes (pos 0) (along p r) (subst (λ (z : ℤ). pos 0 <ℤ z) (sym (along_only x p r o)) h) in
    and_from _ _ (lines x m o) k
  where
    lines : (x : Axis) → Only x p → Only x r → (same_z (p.a *ℤ r.b) (p.b *ℤ r.a) && (same_z (p.a *ℤ r.c) (p.c *ℤ r.a) && same_z (p.b *ℤ r.c) (p.c *ℤ r.b))) ≡ true
    lines X m o = and_from _ _ (second_none _ _ _ _ m.0 o.0) (and_from _ _ (second_none _ _ _ _ m.1 o.1) (first_none _ _ _ _ m.0 o.0))
    lines Y m o = and_from _ _ (first_none _ _ _ _ m.0 o.0) (and_from _ _ (first_none _ _ _ _ m.0 o.0) (second_none _ _ _ _ m.1 o.1))
    lines Z m o = and_from _ _ (first_none _ _ _ _ m.0 o.0) (and_from _ _ (first_none _ _ _ _ m.0 o.0) (first_none _ _ _ _ m.1 o.1))

pub same_way-along : (p r : Plane) → same_way p r ≡ true → pos 0 <ℤ along p r
unfolding same_way
same_way-along p r e = lt_says (pos 0) (along p r) (and_parts _ _ e).1

slope_turned : (x : Axis) (p : Plane) → slope_along x (turned p) ≡ neg_ℤ (slope_along x p)
unfolding turned
slope_turned X p = refl
slope_turned Y p = refl
slope_turned Z p = refl

size_neg : (z : ℤ) → nat_abs (neg_ℤ z) ≡ nat_abs z
size_neg (pos zero) = refl
size_neg (pos (suc n)) = refl
size_neg (negsuc n) = refl

pub turned_level : (p : Plane) → Level p → Level (turned p)
unfolding turned
turned_level p l = ap₂ ◌+◌ (ap₂ ◌+◌ (size_neg p.a) (size_neg p.b)) (size_neg p.c) ∙ l

pub only_turned : (x : Axis) (p : Plane) → Only x p → Only x (turned p)
unfolding turned
only_turned X p o = (ap neg_ℤ o.0, ap neg_ℤ o.1)
only_turned Y p o = (ap neg_ℤ o.0, ap neg_ℤ o.1)
only_turned Z p o = (ap neg_ℤ o.0, ap neg_ℤ o.1)

pub ways : (x : Axis) (p r : Plane) (u v : ℤ) → Level p → Level r → number_along x p ≡ Some u → number_along x r ≡ Some v → (same_way p r ≡ true) ⊎ (same_way p (turned r) ≡ true)
ways x p r u v k l e f =
    let m = number_only x p u k e in
    let o = number_only x r v l f in
    let s = slope_along x p in
    let t = slope_along x r in
    elim (tri (s *ℤ t) (pos 0)) [
      | below h ↦ inr (way x p (turned r) m (only_turned x r o) (subst (λ (z : ℤ). pos 0 <ℤ (s *ℤ z)) (sym (slope_turned x r)) (opposite s t h)))
      | same h ↦ absurd (number_slope x r v f (cancel_zero s t (number_slope x p u e) h))
      | above h ↦ inl (way x p r m o h)
    ]
  where
    opposite : (s t : ℤ) → (s *ℤ t) <ℤ pos 0 → pos 0 <ℤ (s *ℤ neg_ℤ t)
    opposite s t h = solve 2 (λ s t. s :* t :< con (pos 0) ⟹ con (pos 0) :< s :* neg_e t) refl s t h
