-- The workshop's planes. They are in range; a place is on one if a coordinate is at the end of its reach, and below all if
-- none is at it or past it; and both are found by one test of each plane.
use Rattle.std.proofs.Common.{◌≡◌, ℕ, ◌+◌, ◌*◌, ◌≤◌, Bool, true, false, ◌&&◌, ◌||◌, eqb, ltb, List, [], ◌∷◌, ℤ, pos, negsuc, ◌-ℤ◌, ◌*ℤ◌, nat_abs, refl, sym, ap, ap₂, ◌∙◌, subst, arith, lit≤}
use lib.Signed.{lt_z}
use Rattle.std.proofs.Math.Bool.{and_assoc, and-true}
use Rattle.std.proofs.lemmas.Int.{ints}
use Rattle.std.proofs.lemmas.Bool.Decides.{nat_tests}
use Rattle.std.specs.List.{list_any, list_all}
use Rattle.arith.proofs.Poly.{con, ◌:+◌, ◌:*◌, ◌:-◌}
use Rattle.arith.proofs.Solve.{solve, ◌:=◌}
use Rattle.plane.specs.declared.types.Plane.{Plane}
use Rattle.plane.specs.declared.types.Place.{Place}
use Rattle.plane.specs.Limits.{FitsPlane, offset_limit, reach}
use Rattle.plane.specs.Planes.{same_z, height, below, on}
use Rattle.solid.specs.Shapes.{by, holds, planes, plane, box, workshop, Has}
use Rattle.solid.specs.Examples.{on_some}
use Rattle.solid.specs.Laws.{WorkshopEnds}
use Rattle.solid.proofs.Members.{each_of}

-- a plane along an axis is in range if its offset is
pub along_axis-fits : (p : Plane) → nat_abs p.a + (nat_abs p.b + nat_abs p.c) ≡ 1 → nat_abs p.d ≤ offset_limit → FitsPlane p
along_axis-fits p e d = record {
  a = record { size = omega arith };
  b = record { size = omega arith };
  c = record { size = omega arith };
  d = record { size = d };
  sloped = λ h.
      let a : nat_abs p.a ≡ 0 = ap nat_abs h.0 in
      let b : nat_abs p.b ≡ 0 = ap nat_abs h.1 in
      let c : nat_abs p.c ≡ 0 = ap nat_abs h.2 in
      omega arith;
}

pub walls_fit : (p : Plane) → Has (planes workshop) p → FitsPlane p
unfolding planes workshop box
walls_fit =
    let w = λ (p : Plane) (e : nat_abs p.a + (nat_abs p.b + nat_abs p.c) ≡ 1) (o : p.d ≡ pos reach). along_axis-fits p e (subst (λ (d : ℤ). nat_abs d ≤ offset_limit) (sym o) (lit≤ tt)) in
    each_of FitsPlane (planes workshop) (w _ refl refl, (w _ refl refl, (w _ refl refl, (w _ refl refl, (w _ refl refl, (w _ refl refl, tt))))))

pub on_some-any : (q : Place) (ps : List Plane) → list_any (λ p. on p q) ps ≡ on_some ps q
unfolding on_some
on_some-any q [] = refl
on_some-any q (p ∷ ps) = ap (λ b. on p q || b) (on_some-any q ps)

pub workshop-all : (q : Place) → list_all (λ p. below p q) (planes workshop) ≡ holds workshop q
unfolding holds by planes workshop box
workshop-all q = simp (and_assoc, and-true)

-- with the heights over the two planes across an axis
axis_on : (x : ℤ) (e : ℕ) (h k : ℤ) → h ≡ (pos 1 *ℤ x) -ℤ pos e → k ≡ (negsuc 0 *ℤ x) -ℤ pos e → (same_z h (pos 0) || same_z k (pos 0)) ≡ eqb (nat_abs x) e
unfolding same_z
axis_on x e h k a b = grind (arith, ints, nat_tests)

axis_in : (x : ℤ) (e : ℕ) (h k : ℤ) → h ≡ (pos 1 *ℤ x) -ℤ pos e → k ≡ (negsuc 0 *ℤ x) -ℤ pos e → (lt_z h (pos 0) && lt_z k (pos 0)) ≡ ltb (nat_abs x) e
axis_in x e h k a b = grind (arith, ints, nat_tests)

abbrev wall : ℤ → ℤ → ℤ → Plane
wall a b c = plane a b c (pos reach)

wall_x : (q : Place) (a : ℤ) → height (wall a (pos 0) (pos 0)) q ≡ (a *ℤ q.x) -ℤ pos (reach * q.w)
unfolding height
wall_x q a = solve 5 (λ s x y z w. (((s :* x) :+ (con (pos 0) :* y)) :+ (con (pos 0) :* z)) :- (con (pos reach) :* w) := (s :* x) :- (con (pos reach) :* w)) refl a q.x q.y q.z (pos q.w)

wall_y : (q : Place) (a : ℤ) → height (wall (pos 0) a (pos 0)) q ≡ (a *ℤ q.y) -ℤ pos (reach * q.w)
unfolding height
wall_y q a = solve 5 (λ s x y z w. (((con (pos 0) :* x) :+ (s :* y)) :+ (con (pos 0) :* z)) :- (con (pos reach) :* w) := (s :* y) :- (con (pos reach) :* w)) refl a q.x q.y q.z (pos q.w)

wall_z : (q : Place) (a : ℤ) → height (wall (pos 0) (pos 0) a) q ≡ (a *ℤ q.z) -ℤ pos (reach * q.w)
unfolding height
wall_z q a = solve 5 (λ s x y z w. (((con (pos 0) :* x) :+ (con (pos 0) :* y)) :+ (s :* z)) :- (con (pos reach) :* w) := (s :* z) :- (con (pos reach) :* w)) refl a q.x q.y q.z (pos q.w)

-- six tests, from pairs
or_pairs : (a b c d e f : Bool) → (((a || b) || (c || d)) || (e || f)) ≡ (a || (b || (c || (d || (e || (f || false))))))
or_pairs true b c d e f = refl
or_pairs false true c d e f = refl
or_pairs false false true d e f = refl
or_pairs false false false true e f = refl
or_pairs false false false false true f = refl
or_pairs false false false false false true = refl
or_pairs false false false false false false = refl

-- the two planes across each axis
abbrev across_x : ℤ → Plane
across_x a = wall a (pos 0) (pos 0)

abbrev across_y : ℤ → Plane
across_y a = wall (pos 0) a (pos 0)

abbrev across_z : ℤ → Plane
across_z a = wall (pos 0) (pos 0) a

module _ (q : Place) where
  abbrev pub end : ℕ
  end = reach * q.w

  pair_on : (f : ℤ → Plane) (x : ℤ) → ((a : ℤ) → height (f a) q ≡ (a *ℤ x) -ℤ pos end) → (on (f (pos 1)) q || on (f (negsuc 0)) q) ≡ eqb (nat_abs x) end
  unfolding on
  pair_on f x h = axis_on x end (height (f (pos 1)) q) (height (f (negsuc 0)) q) (h (pos 1)) (h (negsuc 0))

  pair_in : (f : ℤ → Plane) (x : ℤ) → ((a : ℤ) → height (f a) q ≡ (a *ℤ x) -ℤ pos end) → (below (f (pos 1)) q && below (f (negsuc 0)) q) ≡ ltb (nat_abs x) end
  unfolding below
  pair_in f x h = axis_in x end (height (f (pos 1)) q) (height (f (negsuc 0)) q) (h (pos 1)) (h (negsuc 0))

  module _ (x y z : ℕ) (ex : x ≡ nat_abs q.x) (ey : y ≡ nat_abs q.y) (ez : z ≡ nat_abs q.z) where
    pub on_walls : ((eqb x end || eqb y end) || eqb z end) ≡ on_some (planes workshop) q
    unfolding on_some planes workshop box
    on_walls =
        let t = λ (f : ℤ → Plane) (a : ℤ). on (f a) q in
        let at = λ (n m : ℕ) (e : n ≡ m). ap (λ (k : ℕ). eqb k end) e in
        ap₂ ◌||◌ (ap₂ ◌||◌ (at x _ ex ∙ sym (pair_on across_x q.x (wall_x q))) (at y _ ey ∙ sym (pair_on across_y q.y (wall_y q)))) (at z _ ez ∙ sym (pair_on across_z q.z (wall_z q)))
        ∙ or_pairs (t across_x (pos 1)) (t across_x (negsuc 0)) (t across_y (pos 1)) (t across_y (negsuc 0)) (t across_z (pos 1)) (t across_z (negsuc 0))

    pub in_walls : ((ltb x end && ltb y end) && ltb z end) ≡ holds workshop q
    unfolding holds by workshop box
    in_walls =
        let at = λ (n m : ℕ) (e : n ≡ m). ap (λ (k : ℕ). ltb k end) e in
        ap₂ ◌&&◌ (ap₂ ◌&&◌ (at x _ ex ∙ sym (pair_in across_x q.x (wall_x q))) (at y _ ey ∙ sym (pair_in across_y q.y (wall_y q)))) (at z _ ez ∙ sym (pair_in across_z q.z (wall_z q)))

-- three tests one after the other
pub or_three : (a b c : Bool) → (a || (b || (c || false))) ≡ ((a || b) || c)
or_three true b c = refl
or_three false true c = refl
or_three false false true = refl
or_three false false false = refl

pub and_three : (a b c : Bool) → (a && (b && (c && true))) ≡ ((a && b) && c)
and_three true true true = refl
and_three true true false = refl
and_three true false c = refl
and_three false b c = refl

pub workshop_ends : WorkshopEnds
workshop_ends = record { inside = λ q. sym (in_walls q _ _ _ refl refl refl); on_end = λ q. sym (on_walls q _ _ _ refl refl refl) }
