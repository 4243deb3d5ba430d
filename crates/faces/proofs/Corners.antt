-- The four corners of a face are right.
--     Mark, marked                                  which end of a way across an edge's plane is at
--     corner_at, every                              a place at an end of both ways across is a corner, and the others are none
--     right_corners                                 the promise
use Rattle.std.proofs.Common.{◌≡◌, ℕ, ◌<◌, Bool, true, false, not, ◌&&◌, ◌⊎◌, List, length, get_or, ℤ, pos, negsuc, ◌-ℤ◌, ◌*ℤ◌, neg_ℤ, ◌≤ℤ◌, ◌<ℤ◌, sym, refl, ap, ◌∙◌, subst, ap₂, inl, inr, arith}
use lib.ListN.{length-map, get_or-map}
use lib.IntN.{one, *ℤ-one, neg_ℤ-neg_ℤ}
use lib.Signed.{lt_z}
use Rattle.std.proofs.lemmas.Int.{ints}
use Rattle.std.proofs.lemmas.List.{get_or_default}
use Rattle.std.proofs.lemmas.Bool.{and_parts, and_from, not-true, true≢false}
use Rattle.arith.proofs.Poly.{con, neg_e, ◌:*◌}
use Rattle.arith.proofs.Solve.{solve, ◌:=◌, ◌·◌⇒◌}
use Rattle.plane.specs.declared.types.Plane.{Plane}
use Rattle.plane.specs.declared.types.Place.{Place}
use Rattle.plane.specs.Limits.{SmallPlace}
use Rattle.plane.specs.Planes.{same_z, height, on, SamePlace}
use Rattle.plane.specs.Meets.{determinant}
use Rattle.solid.specs.Shapes.{Has, At}
use Rattle.solid.specs.Models.{Face, Corner, RightCorners, none_above, leftward, next}
use Rattle.solid.specs.Examples.{at}
use Rattle.solid.proofs.Members.{map_has, has_map, each_of}
use Rattle.faces.specs.declared.types.Bounds.{Bounds}
use Rattle.faces.proofs.Ways.{Way, east, west, north, south, up, down, opp, first, second, toward, normal, far, top, bot, bot-top, far-opp, height-far, rim, rectangle, seen, Made}
use Rattle.faces.proofs.Sides.{on-far}
use Rattle.plane.proofs.Tests.{same_yes, same_says}
use Rattle.faces.proofs.Sixfold.{all_ways_each}
use Rattle.faces.proofs.Thickness.{Reaches}
use Rattle.faces.proofs.Turns.{turn, turn-seen, spot, turns_positive}

-- ---- a way or the opposite one, and the end of a block that way
abbrev pick : Bool → Way → Way
pick true g = g
pick false g = opp g

abbrev end : Bool → Bounds → Way → ℤ
end true b g = top b g
end false b g = bot b g

-- what holds both ways along two axes
abbrev both_ways : (Way → Way → Bool) → Way → Way → Bool
both_ways h f g = (h f g && h f (opp g)) && (h (opp f) g && h (opp f) (opp g))

picked : (h : Way → Way → Bool) (f g : Way) → both_ways h f g ≡ true → (s t : Bool) → h (pick s f) (pick t g) ≡ true
picked h f g e true true = grind arith
picked h f g e true false = grind arith
picked h f g e false true = grind arith
picked h f g e false false = grind arith

-- the planes that look three ways do not meet in one place alone
abbrev flat : Way → Way → Way → Bool
flat e f g = same_z (determinant (normal e) (normal f) (normal g)) (pos 0)

crossing_all : (e : Way) → both_ways (λ f g. not (flat e f g)) (first e) (second e) ≡ true
unfolding determinant same_z
crossing_all = all_ways_each (λ e. both_ways (λ f g. not (flat e f g)) (first e) (second e)) refl

flat_all : (e : Way) → (both_ways (flat e) (first e) (first e) && both_ways (flat e) (second e) (second e)) ≡ true
unfolding determinant same_z
flat_all = all_ways_each (λ e. both_ways (flat e) (first e) (first e) && both_ways (flat e) (second e) (second e)) refl

-- ---- a corner
same_no : (m n : ℤ) → not (same_z m n) ≡ true → m ≡ n → ⊥
same_no m n h e = true≢false (sym (same_yes m n e) ∙ not-true (same_z m n) h)

not_over : (f d h : ℤ) → h ≡ f -ℤ d → f ≤ℤ d → not (lt_z (pos 0) h) ≡ true
not_over f d h e k = grind (arith, ints)

abbrev Under : ℤ → Way → Place → Type 0
Under d g v = far g v ≤ℤ (d *ℤ pos v.w)

not_above : (g : Way) (d : ℤ) (v : Place) → Under d g v → not (lt_z (pos 0) (height (toward g d) v)) ≡ true
not_above g d v h = not_over (far g v) (d *ℤ pos v.w) (height (toward g d) v) (height-far g d v) h

end_either : (s : Bool) (b : Bounds) (g : Way) → (end s b g ≡ top b g) ⊎ (end s b g ≡ bot b g)
end_either true b g = inl refl
end_either false b g = inr refl

ends_under : (f h t s u : ℤ) → u ≡ neg_ℤ s → h ≡ neg_ℤ f → u <ℤ t → (f ≡ t) ⊎ (f ≡ u) → (f ≤ℤ t) × (h ≤ℤ s)
ends_under f h t s u i j k (inl e) = (omega (arith, ints), omega (arith, ints))
ends_under f h t s u i j k (inr e) = (omega (arith, ints), omega (arith, ints))

module _ (b : Bounds) (v : Place) (whole : v.w ≡ 1) where
  times_one : (n : ℤ) → n ≡ n *ℤ pos v.w
  unfolding one
  times_one n = sym (ap (λ (m : ℕ). n *ℤ pos m) whole ∙ *ℤ-one n)

  on-top : (g : Way) → far g v ≡ top b g → on (toward g (top b g)) v ≡ true
  on-top g h = on-far g (top b g) v ∙ same_yes (far g v) (top b g *ℤ pos v.w) (h ∙ times_one (top b g))

  -- at an end of a way across: on the plane there, and above neither of the two
  touches : (g : Way) (s : Bool) → far g v ≡ end s b g → on (toward (pick s g) (top b (pick s g))) v ≡ true
  touches g true h = on-top g h
  touches g false h = on-top (opp g) (far-opp g v ∙ ap neg_ℤ (h ∙ bot-top b g) ∙ neg_ℤ-neg_ℤ (top b (opp g)))

  under_both : (g : Way) (s : Bool) → Reaches b g → far g v ≡ end s b g → Under (top b g) g v × Under (top b (opp g)) (opp g) v
  under_both g s r h =
      let c : (far g v ≡ top b g) ⊎ (far g v ≡ bot b g) = elim (end_either s b g) [ inl k ↦ inl (h ∙ k) | inr k ↦ inr (h ∙ k) ] in
      let u = ends_under (far g v) (far (opp g) v) (top b g) (top b (opp g)) (bot b g) (bot-top b g) (far-opp g v) r c in
      (subst (λ (n : ℤ). far g v ≤ℤ n) (times_one (top b g)) u.0, subst (λ (n : ℤ). far (opp g) v ≤ℤ n) (times_one (top b (opp g))) u.1)

-- the planes of an edge: those across the first way, and those across the second
abbrev side : Bounds → Way → Bool → Plane
side b g s = toward (pick s g) (top b (pick s g))

rim-first : (b : Bounds) (e : Way) (s : Bool) → Has (rim b e) (side b (first e) s)
rim-first b e true = (0, (omega arith, refl))
rim-first b e false = (1, (omega arith, refl))

rim-second : (b : Bounds) (e : Way) (s : Bool) → Has (rim b e) (side b (second e) s)
rim-second b e true = (2, (omega arith, refl))
rim-second b e false = (3, (omega arith, refl))

-- a place on an edge's plane is at that end
pub record Mark (b : Bounds) (g : Way) (v : Place) (r : Plane) : Type 0 where
  pub which : Bool
  pub is : side b g which ≡ r
  pub far_is : far g v ≡ end which b g *ℤ pos v.w

far_neg : (f h t u w : ℤ) → u ≡ neg_ℤ t → h ≡ neg_ℤ f → h ≡ t *ℤ w → f ≡ u *ℤ w
far_neg = solve 5 (λ f h t u w. neg_e w · u := neg_e t ⇒ con (pos 1) · h := neg_e f ⇒ con (negsuc 0) · h := t :* w ⇒ f := u :* w) refl

mark : (b : Bounds) (g : Way) (s : Bool) (v : Place) → on (side b g s) v ≡ true → Mark b g v (side b g s)
mark b g true v h = record { which = true; is = refl; far_is = same_says (far g v) (top b g *ℤ pos v.w) (sym (on-far g (top b g) v) ∙ h) }
mark b g false v h = record {
  which = false;
  is = refl;
  far_is = far_neg (far g v) (far (opp g) v) (top b (opp g)) (bot b g) (pos v.w) (bot-top b g) (far-opp g v)
      (same_says (far (opp g) v) (top b (opp g) *ℤ pos v.w) (sym (on-far (opp g) (top b (opp g)) v) ∙ h));
}

marked : (b : Bounds) (e : Way) (v : Place) (r : Plane) → Has (rim b e) r → on r v ≡ true → Mark b (first e) v r ⊎ Mark b (second e) v r
marked b e v =
    let f = first e in
    let g = second e in
    each_of (λ r. on r v ≡ true → Mark b f v r ⊎ Mark b g v r) (rim b e)
    (λ o. inl (mark b f true v o), (λ o. inl (mark b f false v o), (λ o. inr (mark b g true v o), (λ o. inr (mark b g false v o), tt))))

-- as far all three ways: one place
unneg : (m n u v : ℤ) → neg_ℤ m *ℤ u ≡ neg_ℤ n *ℤ v → m *ℤ u ≡ n *ℤ v
unneg = solve 4 (λ m n u v. con (negsuc 0) · neg_e m :* u := neg_e n :* v ⇒ m :* u := n :* v) refl

same_seen : (e : Way) (u v : Place) → SamePlace (seen e u) (seen e v) → SamePlace u v
same_seen east u v s = record { x = s.x; y = s.y; z = s.z }
same_seen west u v s = record { x = unneg u.x v.x (pos v.w) (pos u.w) s.x; y = s.z; z = s.y }
same_seen north u v s = record { x = s.z; y = s.x; z = s.y }
same_seen south u v s = record { x = s.y; y = unneg u.y v.y (pos v.w) (pos u.w) s.x; z = s.z }
same_seen up u v s = record { x = s.y; y = s.z; z = s.x }
same_seen down u v s = record { x = s.z; y = s.y; z = unneg u.z v.z (pos v.w) (pos u.w) s.x }

-- a whole place, seen, and one with the same distances in other terms
same_whole : (i j k : ℤ) (q : Place) → q.x ≡ i *ℤ pos q.w → q.y ≡ j *ℤ pos q.w → q.z ≡ k *ℤ pos q.w → SamePlace (at i j k 1) q
unfolding one
same_whole i j k q a b c = record { x = sym (*ℤ-one q.x ∙ a); y = sym (*ℤ-one q.y ∙ b); z = sym (*ℤ-one q.z ∙ c) }

-- ---- the promise
module _ (b : Bounds) (e : Way) (f : Face) (made : Made b e f) where
  abbrev there : Bool → Bool → Place
  there s t = at (top b e) (end s b (first e)) (end t b (second e)) 1

  abbrev round : List Place
  round = rectangle (top b e) (bot b (first e)) (top b (first e)) (bot b (second e)) (top b (second e))

  -- the corners that are seen
  seen_corner : (v : Place) → Has f.corners v → (s : Bool) × (t : Bool) × (seen e v ≡ there s t)
  seen_corner v h =
      each_of (λ q. (s : Bool) × (t : Bool) × (q ≡ there s t)) round
      ((false, false, refl), ((true, false, refl), ((true, true, refl), ((false, true, refl), tt))))
      (seen e v) (subst (λ (l : List Place). Has l (seen e v)) made.corners (has_map (seen e) v f.corners h))

  round_has : (s t : Bool) → Has round (there s t)
  round_has false false = (0, (omega arith, refl))
  round_has true false = (1, (omega arith, refl))
  round_has true true = (2, (omega arith, refl))
  round_has false true = (3, (omega arith, refl))

  corner_seen : (s t : Bool) → (u : Place) × Has f.corners u × (seen e u ≡ there s t)
  corner_seen s t = map_has (seen e) (there s t) f.corners (subst (λ (l : List Place). Has l (there s t)) (sym made.corners) (round_has s t))

  corner_at : Reaches b (first e) → Reaches b (second e) → (s t : Bool) (v : Place) → seen e v ≡ there s t → Corner f v
  unfolding none_above determinant
  corner_at r1 r2 s t v h =
      let w : v.w ≡ 1 = ap (λ (q : Place). q.w) h in
      let i = ap (λ (q : Place). q.y) h in
      let j = ap (λ (q : Place). q.z) h in
      let k = under_both b v w (first e) s r1 i in
      let l = under_both b v w (second e) t r2 j in
      record {
        real = omega arith;
        on_plane = subst (λ (p : Plane). on p v ≡ true) (sym made.plane) (on-top b v w e (ap (λ (q : Place). q.x) h));
        closed = subst (λ (ps : List Plane). none_above ps v ≡ true) (sym made.edges)
            (and_from _ _ (not_above (first e) (top b (first e)) v k.0) (and_from _ _ (not_above (opp (first e)) (top b (opp (first e))) v k.1)
            (and_from _ _ (not_above (second e) (top b (second e)) v l.0) (and_from _ _ (not_above (opp (second e)) (top b (opp (second e))) v l.1) refl))));
        first = side b (first e) s;
        second = side b (second e) t;
        has_first = subst (λ (ps : List Plane). Has ps (side b (first e) s)) (sym made.edges) (rim-first b e s);
        has_second = subst (λ (ps : List Plane). Has ps (side b (second e) t)) (sym made.edges) (rim-second b e t);
        on_first = touches b v w (first e) s i;
        on_second = touches b v w (second e) t j;
        crossing = subst (λ (p : Plane). determinant p (side b (first e) s) (side b (second e) t) ≡ pos 0 → ⊥) (sym made.plane)
            (same_no _ (pos 0) (picked (λ g h. not (flat e g h)) (first e) (second e) (crossing_all e) s t));
      }

  -- two planes of edges along one axis do not cross
  not_crossing : (g : Way) → both_ways (flat e) g g ≡ true → (v : Place) (p q : Plane) → Mark b g v p → Mark b g v q → determinant f.plane p q ≡ pos 0
  unfolding determinant
  not_crossing g h v p q m n =
      let z = same_says _ (pos 0) (picked (flat e) g g h m.which n.which) in
      ap (λ (o : Plane). determinant o p q) made.plane
      ∙ sym (ap₂ (λ (r s : Plane). determinant (toward e (top b e)) r s) m.is n.is) ∙ z

  -- at an end of each way across: one of the corners
  found : (v : Place) (p q : Plane) → on f.plane v ≡ true → Mark b (first e) v p → Mark b (second e) v q → (u : Place) × Has f.corners u × SamePlace u v
  found v p q o m n =
      let k = subst (λ (r : Plane). on r v ≡ true) made.plane o in
      let a = same_says (far e v) (top b e *ℤ pos v.w) (sym (on-far e (top b e) v) ∙ k) in
      let c = corner_seen m.which n.which in
      let s = same_whole (top b e) (end m.which b (first e)) (end n.which b (second e)) (seen e v) a m.far_is n.far_is in
      (c.0, c.1, same_seen e c.0 v (subst (λ (r : Place). SamePlace r (seen e v)) (sym c.2) s))

  every : (v : Place) → Corner f v → (u : Place) × Has f.corners u × SamePlace u v
  every v c =
      let has = λ (r : Plane) (h : Has f.edges r). subst (λ (ps : List Plane). Has ps r) made.edges h in
      let m = marked b e v c.first (has c.first c.has_first) c.on_first in
      let n = marked b e v c.second (has c.second c.has_second) c.on_second in
      elim m [
        | inl x ↦ elim n [ inl y ↦ absurd (c.crossing (not_crossing (first e) (and_parts (both_ways (flat e) (first e) (first e)) _ (flat_all e)).0 v _ _ x y)) | inr y ↦ found v _ _ c.on_plane x y ]
        | inr x ↦ elim n [ inl y ↦ found v _ _ c.on_plane y x | inr y ↦ absurd (c.crossing (not_crossing (second e) (and_parts (both_ways (flat e) (first e) (first e)) _ (flat_all e)).1 v _ _ x y)) ]
      ]

  -- the corners in their order
  four : length f.corners ≡ 4
  four = sym (length-map f.corners (seen e)) ∙ ap length made.corners

  abbrev place_of : ℕ → Place
  place_of = spot (top b e) (bot b (first e)) (top b (first e)) (bot b (second e)) (top b (second e))

  in_order : (n : ℕ) (q : Place) → At f.corners n q → (n < 4) × (seen e q ≡ place_of n)
  in_order n q k =
      let h : n < 4 = subst (λ (m : ℕ). n < m) four k.0 in (
        h,
        sym (ap (seen e) k.1) ∙ sym (get_or-map (seen e) f.corners n q) ∙ ap (λ (l : List Place). get_or l n (seen e q)) made.corners
            ∙ get_or_default round n (seen e q) (place_of 0) h,
      )

  turning : Reaches b (first e) → Reaches b (second e) → (i k : ℕ) (u v t : Place) → At f.corners i u → At f.corners (next 4 i) v → At f.corners k t →
      (k ≡ i → ⊥) → (k ≡ next 4 i → ⊥) → pos 0 <ℤ leftward f.plane u v t
  turning r1 r2 i k u v t a c d x y =
      let p = in_order i u a in
      let q = in_order (next 4 i) v c in
      let r = in_order k t d in
      let s = turns_positive (top b e) (bot b (first e)) (top b (first e)) (bot b (second e)) (top b (second e)) r1 r2 i k p.0 r.0 x y in
      let o = ap (λ (z : Plane). leftward z u v t) made.plane ∙ turn-seen e (top b e) u v t
      ∙ ap (λ (z : Place). turn z (seen e v) (seen e t)) p.1 ∙ ap₂ (λ (z w : Place). turn (place_of i) z w) q.1 r.1 in
      subst (λ (z : ℤ). pos 0 <ℤ z) (sym o) s

  pub right_corners : Reaches b (first e) → Reaches b (second e) → ((v : Place) → Has f.corners v → SmallPlace v) → RightCorners f
  right_corners r1 r2 small = record {
    enough = omega (arith, four);
    corner = λ v h. let s = seen_corner v h in corner_at r1 r2 s.0 s.1 v s.2;
    small = small;
    all = every;
    round = subst (λ (n : ℕ). (i k : ℕ) (u v t : Place) → At f.corners i u → At f.corners (next n i) v → At f.corners k t → (k ≡ i → ⊥) → (k ≡ next n i → ⊥) → pos 0 <ℤ leftward f.plane u v t) (sym four) (turning r1 r2);
  }
