-- Where a block ends: on each plane, in exactly the face that looks that way, or nowhere.
--     faced                                         a plane of the solid, either way round, looks one of the six ways
--     in_faces_way                                  a place is in no other face than the one that looks that way
--     ends_once, ends_none                          the solid ends at a place just if the place is in that face; nowhere, if nothing is left
use Rattle.std.proofs.Common.{◌≡◌, ◌<◌, Bool, true, false, cond, not, ◌&&◌, ◌⊎◌, ℤ, pos, ◌*ℤ◌, neg_ℤ, ◌<ℤ◌, sym, ap, ◌∙◌, ap₂, inl, inr, arith}
use lib.IntN.{neg_ℤ-neg_ℤ}
use lib.Signed.{lt_z, le_z}
use Rattle.std.specs.Int.{int_min}
use Rattle.std.proofs.lemmas.Int.{ints}
use Rattle.std.proofs.lemmas.Bool.{cases_Bool, true≢false, and_parts, and_left}
use Rattle.plane.specs.declared.types.Plane.{Plane}
use Rattle.plane.specs.declared.types.Place.{Place}
use Rattle.plane.specs.Limits.{reach}
use Rattle.plane.specs.Planes.{same_z, below, on, turned, along, same_way}
use Rattle.plane.specs.Moves.{rolled_plane}
use Rattle.plane.proofs.Ranges.{made}
use Rattle.solid.specs.Shapes.{by, planes, solid, Has, just_below, just_above, ends}
use Rattle.solid.specs.Models.{in_faces, all_below}
use Rattle.faces.specs.declared.types.Bounds.{Bounds}
use Rattle.faces.specs.Blocks.{as_shape, cut, thick, block_faces, high_face, low_face, rolled_face}
use Rattle.faces.proofs.Ways.{Way, east, west, north, south, up, down, opp, first, second, toward, normal, far, top, bot, bot-top, top-cut, turned-toward, rim}
use Rattle.faces.proofs.Sides.{on-far, on_at, below_same, below_opp, below_across, above_same, above_opp, above_across}
use Rattle.plane.proofs.Tests.{same_says}
use Rattle.faces.proofs.Integers.{lt_min, le_min}
use Rattle.faces.proofs.Sixfold.{across, all_ways_split, across_same, across_each}
use Rattle.faces.proofs.Walls.{by-solid, has_solid}
use Rattle.faces.proofs.Thickness.{Reaches, way_thick, squeezed}
use Rattle.faces.proofs.Pieces.{under, below_both}

-- ---- the planes look one of the six ways
pub record Faced (p : Plane) : Type 0 where
  pub way : Way
  pub end : ℤ
  pub is : toward way end ≡ p

turned_twice : (p : Plane) → turned (turned p) ≡ p
unfolding turned
turned_twice p = made p (neg_ℤ-neg_ℤ p.a) (neg_ℤ-neg_ℤ p.b) (neg_ℤ-neg_ℤ p.c) (neg_ℤ-neg_ℤ p.d)

pub faced : (b : Bounds) (p : Plane) → (Has (planes (solid (as_shape b))) p ⊎ Has (planes (solid (as_shape b))) (turned p)) → Faced p
faced b p (inl h) = let w = has_solid b p h in record { way = w.way; end = w.end; is = w.is }
faced b p (inr h) =
    let w = has_solid b (turned p) h in
    record { way = opp w.way; end = neg_ℤ w.end; is = sym (turned-toward w.way w.end) ∙ ap turned w.is ∙ turned_twice p }

-- ---- the face that looks a way
pub in_faces_way : (b : Bounds) (e : Way) (d : ℤ) (q : Place) → in_faces (block_faces b) (toward e d) q ≡ cond (on (toward e (top b e)) q && all_below (rim b e) q) 1 0
unfolding in_faces block_faces high_face low_face rolled_face rolled_plane same_way same_z along
in_faces_way b east d q = omega arith
in_faces_way b west d q = omega arith
in_faces_way b north d q = omega arith
in_faces_way b south d q = omega arith
in_faces_way b up d q = omega arith
in_faces_way b down d q = omega arith

-- ---- the value just below and just above a place on a plane that looks a way
module _ (b : Bounds) (e : Way) (d : ℤ) (q : Place) (real : 0 < q.w) (met : on (toward e d) q ≡ true) where
  pub exact : far e q ≡ d *ℤ pos q.w
  exact = same_says (far e q) (d *ℤ pos q.w) (sym (on-far e d q) ∙ met)

  -- all that is said of the planes, by the ways they look
  three : (f : Plane → Bool) (g h : ℤ → Bool) →
      ((t : ℤ) → f (toward e t) ≡ g t) → ((t : ℤ) → f (toward (opp e) t) ≡ h t) →
      ((k : Way) (t : ℤ) → along (normal e) (normal k) ≡ pos 0 → f (toward k t) ≡ below (toward k t) q) →
      ((m n : ℤ) → (g n && g m) ≡ g (int_min m n)) → ((m n : ℤ) → (h n && h m) ≡ h (int_min m n)) →
      by f (solid (as_shape b)) ≡ (g (top (cut b) e) && (h (top (cut b) (opp e)) && across e (under (cut b) q)))
  three f g h a o s u v =
      let w = λ (k : Way). f (toward k (pos reach)) && f (toward k (top b k)) in
      by-solid f b ∙ all_ways_split e w
      ∙ ap₂ ◌&&◌ (ap₂ ◌&&◌ (a (pos reach)) (a (top b e)) ∙ u (top b e) (pos reach) ∙ ap g (sym (top-cut b e)))
      (ap₂ ◌&&◌ (ap₂ ◌&&◌ (o (pos reach)) (o (top b (opp e))) ∙ v (top b (opp e)) (pos reach) ∙ ap h (sym (top-cut b (opp e))))
      (across_same e w (under (cut b) q) (λ k z. ap₂ ◌&&◌ (s k (pos reach) z) (s k (top b k) z) ∙ below_both q real k (top b k) (pos reach) ∙ ap (λ t. below (toward k t) q) (sym (top-cut b k)))))

  value_below : by (just_below (toward e d) q) (solid (as_shape b)) ≡ (le_z d (top (cut b) e) && (lt_z (neg_ℤ d) (top (cut b) (opp e)) && across e (under (cut b) q)))
  value_below = three (just_below (toward e d) q) (le_z d) (lt_z (neg_ℤ d)) (below_same e d q real exact) (below_opp e d q real exact) (below_across e d q real exact) (le_min d) (lt_min (neg_ℤ d))

  value_above : by (just_above (toward e d) q) (solid (as_shape b)) ≡ (lt_z d (top (cut b) e) && (le_z (neg_ℤ d) (top (cut b) (opp e)) && across e (under (cut b) q)))
  value_above = three (just_above (toward e d) q) (lt_z d) (le_z (neg_ℤ d)) (above_same e d q real exact) (above_opp e d q real exact) (above_across e d q real exact) (lt_min d) (le_min (neg_ℤ d))

  at_top : (t s u : ℤ) (c : Bool) → u ≡ neg_ℤ s → u <ℤ t → ((le_z d t && (lt_z (neg_ℤ d) s && c)) && not (lt_z d t && (le_z (neg_ℤ d) s && c))) ≡ (same_z d t && c)
  unfolding same_z
  at_top t s u true i h = grind (arith, ints)
  at_top t s u false i h = grind (arith, ints)

  pub ends_once : Reaches (cut b) e → ends (solid (as_shape b)) (toward e d) q ≡ (on (toward e (top (cut b) e)) q && all_below (rim (cut b) e) q)
  unfolding ends all_below
  ends_once h =
      let t = top (cut b) in
      ap₂ (λ x y. x && not y) value_below value_above
      ∙ at_top (t e) (t (opp e)) (bot (cut b) e) (across e (under (cut b) q)) (bot-top (cut b) e) h
      ∙ ap (λ x. x && across e (under (cut b) q)) (sym (on_at q real e d exact (t e)))

  -- where something is just below, the block is thick
  held_thick : by (just_below (toward e d) q) (solid (as_shape b)) ≡ true → thick (cut b) ≡ true
  held_thick h =
      let u = under (cut b) q in
      let i = and_parts _ _ (sym value_below ∙ h) in
      let j = and_parts _ _ i.1 in
      let k = across_each e u j.1 in
      way_thick (cut b) e
      (own (top (cut b) e) (top (cut b) (opp e)) (bot (cut b) e) (bot-top (cut b) e) i.0 j.0)
      (squeezed (cut b) q real (first e) k.0 k.1)
      (squeezed (cut b) q real (second e) k.2 k.3)
    where
      own : (t s u : ℤ) → u ≡ neg_ℤ s → le_z d t ≡ true → lt_z (neg_ℤ d) s ≡ true → u <ℤ t
      own t s u i h k = grind (arith, ints)

  pub ends_none : thick (cut b) ≡ false → ends (solid (as_shape b)) (toward e d) q ≡ false
  unfolding ends
  ends_none none = elim (cases_Bool (by (just_below (toward e d) q) (solid (as_shape b)))) [
    | inl h ↦ absurd (true≢false (sym (held_thick h) ∙ none))
    | inr h ↦ and_left _ _ h
  ]
