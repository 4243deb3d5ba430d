-- Where three planes meet: with m 1 or -1, the place (m x, m y, m z, m w) of Cramer's numerators and the determinant is on all three, and no other is.
use Rattle.std.proofs.Common.{◌≡◌, zero, suc, ◌<◌, ◌≤◌, ℤ, pos, negsuc, ◌*ℤ◌, neg_ℤ, nat_abs, sym, refl, ap, ◌∙◌, subst, le_trans, arith, lit≤}
use Rattle.std.proofs.lemmas.Int.{ints}
use Rattle.arith.specs.Bounds.{Short}
use Rattle.arith.proofs.Ring.{one_*ℤ, minus_one_*}
use Rattle.arith.proofs.Sized.{short_neg, short_more}
use Rattle.arith.proofs.Poly.{con, neg_e, ◌:-◌, ◌:*◌}
use Rattle.arith.proofs.Solve.{solve, ◌:=◌, ◌·◌⇒◌}
use Rattle.plane.specs.declared.types.Plane.{Plane}
use Rattle.plane.specs.declared.types.Place.{Place}
use Rattle.plane.specs.Limits.{FitsPlane, SmallPlace, determinant_limit, corner_limit, coordinate_limit}
use Rattle.plane.specs.Planes.{height, SamePlace}
use Rattle.plane.specs.Moves.{rolled_plane, rolled_place}
use Rattle.plane.specs.Meets.{determinant, Meet, Met}
use Rattle.plane.specs.Cramer.{offset_first, numerator_x, numerator_y, numerator_z, over}
use Rattle.plane.proofs.Formulas.{Height, Determinant}
use Rattle.plane.proofs.Heights.{on-height, height-on}
use Rattle.plane.proofs.Invariance.{rolled_together}
use Rattle.plane.proofs.Determinants.{turn_rows, turn_columns, determinant_small, x_short, y_short, z_short}

-- ---- on all three
pub record At (p q r : Plane) (s : Place) (m : ℤ) : Type 0 where
  pub at_x : s.x ≡ m *ℤ numerator_x p q r
  pub at_y : s.y ≡ m *ℤ numerator_y p q r
  pub at_z : s.z ≡ m *ℤ numerator_z p q r
  pub at_w : pos s.w ≡ m *ℤ determinant p q r

at_turned : {p q r : Plane} {s : Place} {m : ℤ} → At p q r s m → At q r p s m
unfolding numerator_x numerator_y numerator_z
at_turned {p} {q} {r} {s} {m} a = record {
  at_x = a.at_x ∙ ap (λ (n : ℤ). m *ℤ n) (sym (turn_rows (offset_first p) (offset_first q) (offset_first r)));
  at_y = a.at_y ∙ ap (λ (n : ℤ). m *ℤ n) (sym (turn_rows _ _ _));
  at_z = a.at_z ∙ ap (λ (n : ℤ). m *ℤ n) (sym (turn_rows _ _ _));
  at_w = a.at_w ∙ ap (λ (n : ℤ). m *ℤ n) (sym (turn_rows p q r));
}

on_first : (p q r : Plane) (s : Place) (m : ℤ) → At p q r s m → height p s ≡ pos 0
unfolding height determinant numerator_x numerator_y numerator_z offset_first rolled_plane
on_first p q r s m a =
    solve 17 (λ a b c d e f g h i j k l m x y z w.
    a · x := m :* Determinant d b c h f g l j k ⇒
    b · y := m :* Determinant d c a h g e l k i ⇒
    c · z := m :* Determinant d a b h e f l i j ⇒
    neg_e d · w := m :* Determinant a b c e f g i j k ⇒
    Height a b c d x y z w := con (pos 0)) refl
    p.a p.b p.c p.d q.a q.b q.c q.d r.a r.b r.c r.d m s.x s.y s.z (pos s.w) a.at_x a.at_y a.at_z a.at_w

-- ---- no other place
record Shared (p q r : Plane) (t : Place) : Type 0 where
  first : height p t ≡ pos 0
  second : height q t ≡ pos 0
  third : height r t ≡ pos 0

shared_rolled : {p q r : Plane} {t : Place} → Shared p q r t → Shared (rolled_plane p) (rolled_plane q) (rolled_plane r) (rolled_place t)
shared_rolled {p} {q} {r} {t} h = record {
  first = rolled_together p t ∙ h.first;
  second = rolled_together q t ∙ h.second;
  third = rolled_together r t ∙ h.third;
}

same_at_x : (p q r : Plane) (s t : Place) (m : ℤ) → s.x ≡ m *ℤ numerator_x p q r → pos s.w ≡ m *ℤ determinant p q r → Shared p q r t → s.x *ℤ pos t.w ≡ t.x *ℤ pos s.w
unfolding height determinant numerator_x offset_first
same_at_x p q r s t m u v h =
    solve 19 (λ a b c d e f g h i j k l m x w tx ty tz tw.
    tw · x := m :* Determinant d b c h f g l j k ⇒
    neg_e tx · w := m :* Determinant a b c e f g i j k ⇒
    neg_e m :* (f :* k :- g :* j) · Height a b c d tx ty tz tw := con (pos 0) ⇒
    neg_e m :* (j :* c :- k :* b) · Height e f g h tx ty tz tw := con (pos 0) ⇒
    neg_e m :* (b :* g :- c :* f) · Height i j k l tx ty tz tw := con (pos 0) ⇒
    x :* tw := tx :* w) refl
    p.a p.b p.c p.d q.a q.b q.c q.d r.a r.b r.c r.d m s.x (pos s.w) t.x t.y t.z (pos t.w) u v h.first h.second h.third

same_at_z : (p q r : Plane) (s t : Place) (m : ℤ) → s.z ≡ m *ℤ numerator_z p q r → pos s.w ≡ m *ℤ determinant p q r → Shared p q r t → s.z *ℤ pos t.w ≡ t.z *ℤ pos s.w
unfolding numerator_z rolled_place
same_at_z p q r s t m u v h =
    same_at_x (rolled_plane p) (rolled_plane q) (rolled_plane r) (rolled_place s) (rolled_place t) m u
    (v ∙ ap (λ (n : ℤ). m *ℤ n) (sym (turn_columns p q r))) (shared_rolled h)

same_at_y : (p q r : Plane) (s t : Place) (m : ℤ) → s.y ≡ m *ℤ numerator_y p q r → pos s.w ≡ m *ℤ determinant p q r → Shared p q r t → s.y *ℤ pos t.w ≡ t.y *ℤ pos s.w
unfolding numerator_y rolled_place
same_at_y p q r s t m u v h =
    same_at_z (rolled_plane p) (rolled_plane q) (rolled_plane r) (rolled_place s) (rolled_place t) m u
    (v ∙ ap (λ (n : ℤ). m *ℤ n) (sym (turn_columns p q r))) (shared_rolled h)

-- ---- together
same_place : (p q r : Plane) (s : Place) (m : ℤ) → At p q r s m → (t : Place) → Shared p q r t → SamePlace s t
same_place p q r s m a t h = record {
  x = same_at_x p q r s t m a.at_x a.at_w h;
  y = same_at_y p q r s t m a.at_y a.at_w h;
  z = same_at_z p q r s t m a.at_z a.at_w h;
}

module _ (p q r : Plane) (f : FitsPlane p) (g : FitsPlane q) (h : FitsPlane r) where
  small : (w : ℤ) → determinant p q r ≡ w → nat_abs w ≤ determinant_limit
  small w e = subst (λ (z : ℤ). nat_abs z ≤ determinant_limit) e (determinant_small f g h).size

  meet_at : (s : Place) (m : ℤ) → At p q r s m → 0 < s.w → s.w ≤ determinant_limit → Short s.x corner_limit → Short s.y corner_limit → Short s.z corner_limit → Meet p q r s
  meet_at s m a l w x y z = record {
    real = l;
    on_first = height-on p s (on_first p q r s m a);
    on_second = height-on q s (on_first q r p s m (at_turned a));
    on_third = height-on r s (on_first r p q s m (at_turned (at_turned a)));
    only = λ t k i j o. same_place p q r s m a t (record { first = on-height p t i; second = on-height q t j; third = on-height r t o });
    w_small = w;
    x_small = x;
    y_small = y;
    z_small = z;
  }

  pub met : (w : ℤ) → determinant p q r ≡ w → Met p q r (over (numerator_x p q r) (numerator_y p q r) (numerator_z p q r) w)
  unfolding over
  met (pos zero) e = e
  met (pos (suc n)) e = (
    meet_at _ (pos 1) (record { at_x = sym (one_*ℤ _); at_y = sym (one_*ℤ _); at_z = sym (one_*ℤ _); at_w = sym (one_*ℤ _ ∙ e) })
        (omega arith) (small _ e) (x_short f g h) (y_short f g h) (z_short f g h),
    λ z. let k : ◌≡◌ (pos (suc n)) (pos 0) = sym e ∙ z in absurd (omega (arith, ints)),
  )
  met (negsuc n) e = (
    meet_at _ (negsuc 0) (record {
      at_x = sym (minus_one_* (numerator_x p q r));
      at_y = sym (minus_one_* (numerator_y p q r));
      at_z = sym (minus_one_* (numerator_z p q r));
      at_w = sym (minus_one_* (determinant p q r) ∙ ap neg_ℤ e);
    })
        (omega arith) (small _ e) (short_neg (x_short f g h)) (short_neg (y_short f g h)) (short_neg (z_short f g h)),
    λ z. let k : ◌≡◌ (negsuc n) (pos 0) = sym e ∙ z in absurd (omega (arith, ints)),
  )

-- the side of such a place can be told
pub meet_small : {p q r : Plane} {s : Place} → Meet p q r s → SmallPlace s
meet_small m = record {
  x = short_more coordinate_limit m.x_small tt;
  y = short_more coordinate_limit m.y_small tt;
  z = short_more coordinate_limit m.z_small tt;
  w = le_trans m.w_small (lit≤ tt);
  real = m.real;
}
