-- The places that stand for all others: those off the planes, or those of a base that are off the planes that cross it.
--     off_fair, fair_off, but_fair, fair_but         Off and OffBut, as said of each axis
--     stands_fair, stand_in                          a place that stands is such a place, and each such place has one that stands for it
--     found_at                                       what is found among those that stand, said of all
use Rattle.std.proofs.Common.{◌≡◌, ℕ, ◌<◌, Bool, true, ◌⊎◌, List, [], ℤ, pos, ◌-ℤ◌, ◌*ℤ◌, ◌<ℤ◌, Some, None, Option, sym, refl, ap, ◌∙◌, subst, inl, inr, arith}
use lib.IntN.{zero-*ℤ}
use lib.Signed.{<ℤ_irrefl}
use Rattle.std.proofs.lemmas.Int.{ints}
use Rattle.std.proofs.lemmas.Bool.{cases_Bool, both_ways}
use Rattle.arith.proofs.Order.{times, sgn, sgn_mul, sgn_scaled}
use Rattle.arith.proofs.Poly.{con, ◌:-◌, ◌:*◌}
use Rattle.arith.proofs.Solve.{solve, ◌:=◌, ◌⟹◌}
use Rattle.plane.specs.declared.types.Plane.{Plane}
use Rattle.plane.specs.declared.types.Place.{Place}
use Rattle.plane.specs.Planes.{on, along, turned, same_way}
use Rattle.plane.proofs.Heights.{same_side}
use Rattle.solid.specs.Shapes.{Has}
use Rattle.solid.proofs.Members.{has_none, has_here, has_either}
use Rattle.search.specs.declared.levels.Axis.{Axis}
use Rattle.search.specs.declared.levels.Axis.TheVariants.{X, Y, Z}
use Rattle.search.specs.Search.{Agree, Off, OffBut, OffAt, BySides, BySidesOn, BySidesAt, Found}
use Rattle.search.specs.Levels.{Level, BaseLevel, AllLevel, slope_along, coordinate, number_along, base_along, middles, spots_by, spots, halved, Standing}
use Rattle.search.proofs.Axes.{axis_of, rise, height_along, on-rise, rise-on, number_none, Only, number_only, only_turned, along_only, ways, same_way-along}
use Rattle.search.proofs.Middles.{Between, Chosen, odd, choose}

-- at the base's number, or at none of the planes' if the base is of another axis
abbrev FairBy : Option ℤ → Axis → List Plane → Place → Type 0
FairBy None x ps q = Between x ps q
FairBy (Some t) x ps q = rise x q t ≡ pos 0

abbrev Fair : Option Plane → List Plane → Place → Type 0
Fair o ps q = (x : Axis) → FairBy (base_along x o) x ps q

-- ---- off the planes
module _ (ps : List Plane) (a : AllLevel ps) (q : Place) where
  off_fair : Off ps q → Fair None ps q
  off_fair o x p v h e r = both_ways (on p q) (o.off p h) (rise-on x p v (a p h).1 e q r)

  fair_off : 0 < q.w → Fair None ps q → Off ps q
  fair_off w f = record {
    real = w;
    off = λ p h. let r = axis_of p (a p h).1 in elim (cases_Bool (on p q)) [
      | inl t ↦ absurd (f r.0 p r.1 h r.2 (on-rise r.0 p r.1 (a p h).1 r.2 q t))
      | inr t ↦ t
    ];
  }

-- ---- on a base
-- a base with no slope along an axis lies another way than a plane of that axis
crosses : (x : Axis) (b r : Plane) → number_along x b ≡ None → Only x r → same_way b r ≡ true → ⊥
crosses x b r e o w =
    let z : along b r ≡ pos 0 = along_only x b r o ∙ ap (λ (s : ℤ). s *ℤ slope_along x r) (number_none x b e) ∙ zero-*ℤ (slope_along x r) in
    <ℤ_irrefl (subst (λ (n : ℤ). pos 0 <ℤ n) z (same_way-along b r w))

module _ (ps : List Plane) (a : AllLevel ps) (b : Plane) (l : Level b) (q : Place) where
  but_fair : OffBut ps b q → Fair (Some b) ps q
  but_fair o x = go (number_along x b) refl
    where
      go : (n : Option ℤ) → number_along x b ≡ n → FairBy n x ps q
      go None e = λ p v h f r.
          let m = number_only x p v (a p h).1 f in
          elim (o.off_others p h (rise-on x p v (a p h).1 f q r)) [
            | inl w ↦ crosses x b p e m w
            | inr w ↦ crosses x b (turned p) e (only_turned x p m) w
          ]
      go (Some t) e = on-rise x b t l e q o.on_it

  base_rise : Fair (Some b) ps q → (x : Axis) (t : ℤ) → number_along x b ≡ Some t → rise x q t ≡ pos 0
  base_rise f x t e = subst (λ (n : Option ℤ). FairBy n x ps q) e (f x)

  fair_but : 0 < q.w → Fair (Some b) ps q → OffBut ps b q
  fair_but w f = record {
    real = w;
    on_it = let r = axis_of b l in rise-on r.0 b r.1 l r.2 q (base_rise f r.0 r.1 r.2);
    off_others = λ p h t. let r = axis_of p (a p h).1 in others r.0 p r.1 h r.2 (on-rise r.0 p r.1 (a p h).1 r.2 q t) (number_along r.0 b) refl;
  }
    where
      others : (x : Axis) (p : Plane) (v : ℤ) → Has ps p → number_along x p ≡ Some v → rise x q v ≡ pos 0 → (n : Option ℤ) → number_along x b ≡ n → (same_way b p ≡ true) ⊎ (same_way b (turned p) ≡ true)
      others x p v h e r None i = absurd (subst (λ (n : Option ℤ). FairBy n x ps q) i (f x) p v h e r)
      others x p v h e r (Some t) i = ways x b p t v l (a p h).1 i e

-- ---- places that stand
listed_along : (o : Option Plane) (ps : List Plane) (q : Place) → Standing o ps q → (x : Axis) → Has (spots o ps x) (coordinate x q)
listed_along o ps q s X = s.x
listed_along o ps q s Y = s.y
listed_along o ps q s Z = s.z

pub stands_fair : (o : Option Plane) (ps : List Plane) (q : Place) → Standing o ps q → Fair o ps q
stands_fair o ps q s x = go (base_along x o) (listed_along o ps q s x)
  where
    doubled : (v : ℤ) → rise x q v ≡ coordinate x q -ℤ (v *ℤ pos 2)
    doubled v = ap (λ (n : ℕ). coordinate x q -ℤ (v *ℤ pos n)) s.w

    level : (c t : ℤ) → pos 2 *ℤ t ≡ c → c -ℤ (t *ℤ pos 2) ≡ pos 0
    level c t e = omega (arith, ints)

    go : (n : Option ℤ) → Has (spots_by n (middles x ps)) (coordinate x q) → FairBy n x ps q
    go None h = λ p v k e r. odd x ps (coordinate x q) v h (sym (doubled v) ∙ r)
    go (Some t) h = elim (has_either (pos 2 *ℤ t) (coordinate x q) [] h) [
      | inl e ↦ doubled t ∙ level (coordinate x q) t e
      | inr k ↦ absurd (has_none (coordinate x q) k)
    ]

module _ (o : Option Plane) (ps : List Plane) (a : AllLevel ps) (q : Place) (w : 0 < q.w) (f : Fair o ps q) where
  -- at the base's number: as far from the others as that is
  level_with : (c d t v : ℤ) → c -ℤ (t *ℤ d) ≡ pos 0 → c -ℤ (v *ℤ d) ≡ d *ℤ (t -ℤ v)
  level_with = solve 4 (λ c d t v. c :- t :* d := con (pos 0) ⟹ c :- v :* d := d :* (t :- v)) refl

  twice : (t v : ℤ) → (pos 2 *ℤ t) -ℤ (v *ℤ pos 2) ≡ pos 2 *ℤ (t -ℤ v)
  twice = solve 2 (λ t v. con (pos 2) :* t :- v :* con (pos 2) := con (pos 2) :* (t :- v)) refl

  pick : (x : Axis) → (m : ℤ) × Has (spots o ps x) m × Chosen x ps q m
  pick x = go (base_along x o) (f x)
    where
      go : (n : Option ℤ) → FairBy n x ps q → (m : ℤ) × Has (spots_by n (middles x ps)) m × Chosen x ps q m
      go None g = choose x q w ps a g
      go (Some t) g =
          let k : pos 0 <ℤ pos q.w = omega (arith, ints) in
          let l : pos 0 <ℤ pos 2 = omega (arith, ints) in (
            pos 2 *ℤ t,
            has_here (pos 2 *ℤ t) [],
            λ p v h e.
                ap sgn (twice t v) ∙ sgn_scaled (pos 2) (t -ℤ v) l ∙ sym (sgn_scaled (pos q.w) (t -ℤ v) k) ∙ sym (ap sgn (level_with (coordinate x q) (pos q.w) t v g)),
          )

  stand : Place
  stand = halved (pick X).0 (pick Y).0 (pick Z).0

  stand_along : (x : Axis) → coordinate x stand ≡ (pick x).0
  unfolding stand
  stand_along X = refl
  stand_along Y = refl
  stand_along Z = refl

  stands : Standing o ps stand
  unfolding stand
  stands = record { x = (pick X).1; y = (pick Y).1; z = (pick Z).1; w = refl }

  stand_rise : (x : Axis) (v : ℤ) → rise x stand v ≡ (pick x).0 -ℤ (v *ℤ pos 2)
  unfolding stand
  stand_rise X v = refl
  stand_rise Y v = refl
  stand_rise Z v = refl

  agree : Agree ps q stand
  agree p h =
      let r = axis_of p (a p h).1 in
      let x = r.0 in
      let v = r.1 in
      let s = slope_along x p in
      let i : sgn (rise x q v) ≡ sgn (rise x stand v) = sym ((pick x).2 p v h r.2) ∙ sym (ap sgn (stand_rise x v)) in
      (same_side p q p stand
      (ap sgn (height_along x p v (a p h).1 r.2 q) ∙ sgn_mul s (rise x q v) ∙ ap (times (sgn s)) i ∙ sym (sgn_mul s (rise x stand v)) ∙ sym (ap sgn (height_along x p v (a p h).1 r.2 stand)))).in_side

  pub stand_in : (r : Place) × Standing o ps r × Agree ps q r
  stand_in = (stand, stands, agree)

-- ---- what is found
found_wider : (C D : Place → Type 0) (f : Place → Bool) (o : Option Place) → ((q : Place) → C q → D q) → ((q : Place) → D q → (r : Place) × C r × (f q ≡ f r)) → Found C f o → Found D f o
found_wider C D f None g h n = λ q d. let r = h q d in r.2 ∙ n r.0 r.1
found_wider C D f (Some q) g h s = (g q s.0, s.1, s.2)

stands_real : (o : Option Plane) (ps : List Plane) (q : Place) → Standing o ps q → 0 < q.w
stands_real o ps q s = let e : q.w ≡ 2 = s.w in omega arith

found_all : (ps : List Plane) (f : Place → Bool) (o : Option Place) → AllLevel ps → BySides ps f → Found (Standing None ps) f o → Found (Off ps) f o
found_all ps f o a d =
    found_wider (Standing None ps) (Off ps) f o
    (λ q s. fair_off ps a q (stands_real None ps q s) (stands_fair None ps q s))
    (λ q k.
    let r = stand_in None ps a q k.real (off_fair ps a q k) in
    (r.0, r.1, d q r.0 k.real (stands_real None ps r.0 r.1) r.2))

found_on : (ps : List Plane) (b : Plane) (f : Place → Bool) (o : Option Place) → AllLevel ps → Level b → BySidesOn ps b f → Found (Standing (Some b) ps) f o → Found (OffBut ps b) f o
found_on ps b f o a l d =
    found_wider (Standing (Some b) ps) (OffBut ps b) f o
    off
    (λ q k.
    let r = stand_in (Some b) ps a q k.real (but_fair ps a b l q k) in
    (r.0, r.1, d q r.0 k.real (stands_real (Some b) ps r.0 r.1) k.on_it (off r.0 r.1).on_it r.2))
  where
    off : (q : Place) → Standing (Some b) ps q → OffBut ps b q
    off q s = fair_but ps a b l q (stands_real (Some b) ps q s) (stands_fair (Some b) ps q s)

pub found_at : (b : Option Plane) (ps : List Plane) (f : Place → Bool) (o : Option Place) → BaseLevel b → AllLevel ps → BySidesAt b ps f → Found (Standing b ps) f o → Found (OffAt b ps) f o
found_at None ps f o l a d = found_all ps f o a d
found_at (Some b) ps f o l a d = found_on ps b f o a (l b refl).1 d
