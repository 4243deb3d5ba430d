-- What leaves a place on its side, and what takes it to the other.
--     height-turned, turned-below, turned_on, turned-side      the plane turned round
--     height-scaled, scaled_side, one_place_side               the place in other terms
--     moved_together, mirrored_together, ..                    planes and places moved together
--     together_side                                            what such a pair of moves keeps
use Rattle.std.proofs.Common.{◌≡◌, ℕ, ◌<◌, not, ◌||◌, pos, ◌*ℤ◌, neg_ℤ, ◌<ℤ◌, sym, refl, ap, ◌∙◌, arith}
use lib.IntN.{*ℤ_comm}
use Rattle.std.proofs.lemmas.Int.{ints}
use Rattle.arith.proofs.Order.{Sign, minus, none, plus, sgn, opposite, sgn_neg, sgn_scaled}
use Rattle.arith.proofs.Poly.{neg_e, ◌:+◌, ◌:*◌}
use Rattle.arith.proofs.Solve.{solve, ◌:=◌, ◌·◌⇒◌}
use Rattle.plane.specs.declared.types.Plane.{Plane}
use Rattle.plane.specs.declared.types.Place.{Place}
use Rattle.plane.specs.declared.types.Shift.{Shift}
use Rattle.plane.specs.Planes.{height, below, on, side, turned, scaled, SamePlace}
use Rattle.plane.specs.Moves.{Together, moved_plane, moved_place, mirrored_plane, mirrored_place, swapped_plane, swapped_place, rolled_plane, rolled_place}
use Rattle.plane.proofs.Formulas.{Height}
use Rattle.plane.proofs.Heights.{SameSide, same_side, is_minus, is_none, side_at, sign_at, side-sgn, below_is, on_is, side_is}

-- ---- the plane turned round
pub height-turned : (p : Plane) (q : Place) → height (turned p) q ≡ neg_ℤ (height p q)
unfolding height turned
height-turned p q = solve 8 (λ a b c d x y z w. Height (neg_e a) (neg_e b) (neg_e c) (neg_e d) x y z w := neg_e (Height a b c d x y z w)) refl
    p.a p.b p.c p.d q.x q.y q.z (pos q.w)

pub sign_turned : (p : Plane) (q : Place) → sgn (height (turned p) q) ≡ opposite (sgn (height p q))
sign_turned p q = ap sgn (height-turned p q) ∙ sgn_neg (height p q)

pub turned-below : (p : Plane) (q : Place) → below (turned p) q ≡ not (below p q || on p q)
turned-below p q = simp (below_is, on_is, sign_turned) (go (sgn (height p q)))
  where
    go : (s : Sign) → is_minus (opposite s) ≡ not (is_minus s || is_none s)
    go minus = refl
    go none = refl
    go plus = refl

pub turned_on : (p : Plane) (q : Place) → on (turned p) q ≡ on p q
turned_on p q = simp (on_is, sign_turned) (go (sgn (height p q)))
  where
    go : (s : Sign) → is_none (opposite s) ≡ is_none s
    go minus = refl
    go none = refl
    go plus = refl

pub turned-side : (p : Plane) (q : Place) → side (turned p) q ≡ side_at (opposite (sign_at (side p q)))
turned-side p q = side_is (turned p) q ∙ ap side_at (sign_turned p q ∙ ap opposite (side-sgn p q))

-- ---- the place in other terms
pub height-scaled : (p : Plane) (k : ℕ) (q : Place) → height p (scaled k q) ≡ height p q *ℤ pos k
unfolding height scaled
height-scaled p k q = solve 9 (λ a b c d x y z w k. Height a b c d (x :* k) (y :* k) (z :* k) (w :* k) := Height a b c d x y z w :* k) refl
    p.a p.b p.c p.d q.x q.y q.z (pos q.w) (pos k)

pub scaled_side : (p : Plane) (k : ℕ) (q : Place) → 0 < k → SameSide p (scaled k q) p q
scaled_side p k q h =
    let l : pos 0 <ℤ pos k = omega (arith, ints) in
    same_side p (scaled k q) p q (ap sgn (height-scaled p k q ∙ *ℤ_comm (height p q) (pos k)) ∙ sgn_scaled (pos k) (height p q) l)

-- ---- one place in two forms
pub one_place_side : (p : Plane) (q r : Place) → SamePlace q r → 0 < q.w → 0 < r.w → SameSide p q p r
unfolding height
one_place_side p q r e h k =
    let l : pos 0 <ℤ pos q.w = omega (arith, ints) in
    let m : pos 0 <ℤ pos r.w = omega (arith, ints) in
    let s : pos r.w *ℤ height p q ≡ pos q.w *ℤ height p r =
    solve 12 (λ a b c d x y z w i j k l.
    a · x :* l := i :* w ⇒ b · y :* l := j :* w ⇒ c · z :* l := k :* w ⇒
    l :* Height a b c d x y z w := w :* Height a b c d i j k l) refl
    p.a p.b p.c p.d q.x q.y q.z (pos q.w) r.x r.y r.z (pos r.w) e.x e.y e.z in
    same_side p q p r (sym (sgn_scaled (pos r.w) (height p q) m) ∙ ap sgn s ∙ sgn_scaled (pos q.w) (height p r) l)

-- ---- planes and places moved together
pub moved_together : (t : Shift) → Together (moved_plane t) (moved_place t)
unfolding height moved_plane moved_place
moved_together t p q =
    solve 11 (λ a b c d x y z w i j k. Height a b c (d :+ ((a :* i :+ b :* j) :+ c :* k)) (x :+ i :* w) (y :+ j :* w) (z :+ k :* w) w := Height a b c d x y z w) refl
    p.a p.b p.c p.d q.x q.y q.z (pos q.w) t.x t.y t.z

pub mirrored_together : Together mirrored_plane mirrored_place
unfolding height mirrored_plane mirrored_place
mirrored_together p q = solve 8 (λ a b c d x y z w. Height (neg_e a) b c d (neg_e x) y z w := Height a b c d x y z w) refl
    p.a p.b p.c p.d q.x q.y q.z (pos q.w)

pub swapped_together : Together swapped_plane swapped_place
unfolding height swapped_plane swapped_place
swapped_together p q = solve 8 (λ a b c d x y z w. Height b a c d y x z w := Height a b c d x y z w) refl
    p.a p.b p.c p.d q.x q.y q.z (pos q.w)

pub rolled_together : Together rolled_plane rolled_place
unfolding height rolled_plane rolled_place
rolled_together p q = solve 8 (λ a b c d x y z w. Height c a b d z x y w := Height a b c d x y z w) refl
    p.a p.b p.c p.d q.x q.y q.z (pos q.w)

pub together_side : (f : Plane → Plane) (g : Place → Place) → Together f g → (p : Plane) (q : Place) → SameSide (f p) (g q) p q
together_side f g e p q = same_side (f p) (g q) p q (ap sgn (e p q))
