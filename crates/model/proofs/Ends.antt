-- Where pieces and faces end.
use Rattle.std.proofs.Common.{suc, [], ◌∷◌, ◌-◌, MatchOption, add-zero, zero-add, arith, ◌≡◌, ℕ, ◌+◌, ◌*◌, ◌^◌, ◌<◌, ◌≤◌, List, length, Some, None, Option, sym, refl, ap, ◌∙◌, subst, inr, w16}
use mir.Syntax.{Width}
use mir.Val.{bytes, bits}
use Rattle.std.specs.List.{between, FoldsTo}
use Rattle.std.specs.Iterator.{Yields, YieldsThen}
use Rattle.std.proofs.iter.Yields.{nat_range_steps}
use Rattle.std.specs.declared.ops.Range.{Range}
use Rattle.model.specs.Wire.{InRangePlane, InRangePlace, InRangePiece, InRangeFace}
use Rattle.model.specs.Format.{count_bytes, listed, plane_bytes, place_bytes, piece_bytes, face_bytes}
use Rattle.model.specs.Finds.{Few, Decoded, Stands, StandsOnce, Found, Skipped, ListEnds}
use Rattle.model.proofs.Digits.{Bytes}
use Rattle.model.proofs.Coding.{Both, both, code_listed}
use Rattle.model.proofs.Codes.{length_count, length-plane_bytes, length-place_bytes}
use Rattle.model.proofs.Things.{plane_code, place_code, piece_as, face_as}
use Rattle.model.proofs.Finding.{found_sized, found_behind, found_not, found_as, found_list, found_listed, SoFar, so_far_none, so_far_more, so_far_stop}
use Rattle.model.proofs.Standing.{stands_as}

-- a number that is read stands there, in front of `begin`
number_stands : (w : Width) {l : List ℕ} {at begin n : ℕ} → (begin ≡ at + bytes w) × (begin ≤ length l) → Decoded (count_bytes w) (λ (i : ℕ). i < 2 ^ bits w) (between at (at + bytes w) l) n → Stands l at (count_bytes w n) begin
number_stands w {l} {at} {begin} {n} e d =
    subst (Stands l at (count_bytes w n)) (sym e.0)
    (record { within = subst (λ (i : ℕ). i ≤ length l) e.0 e.1; long = ap (λ (i : ℕ). at + i) (length_count w n); are = d.are })

pub list_ends : {l : List ℕ} {at begin n : ℕ} (size : ℕ) (r : Option ℕ) → (begin ≡ at + 2) × (begin ≤ length l) → Decoded (count_bytes w16) (λ (i : ℕ). i < 2 ^ 16) (between at (at + 2) l) n →
    Skipped l begin (size * n) r → ListEnds l at size r
list_ends {l} {at} {begin} {n} size r e d s =
    inr (n, d.range, stands_as refl refl e.0 (number_stands w16 e d), subst (λ (i : ℕ). Skipped l i (size * n) r) e.0 s)

-- what calls of `next` leave of a range, and how often they gave a number
counted : (s t : Range ℕ) (xs : List ℕ) → Yields nat_range_steps s xs t → (t.end ≡ s.end) × (t.start ≡ s.start + length xs) × (length xs ≤ s.end - s.start)
counted s t [] y = (ap (λ (r : Range ℕ). r.end) (sym y), ap (λ (r : Range ℕ). r.start) (sym y) ∙ sym (add-zero s.start), omega arith)
counted s t (x ∷ xs) y =
    let r = counted y.0 t xs y.2 in
    let k : y.0.end ≡ s.end = y.1.0 in
    let a : 0 < s.end - s.start = y.1.1.0 in
    let m : y.0.start ≡ s.start + 1 = y.1.1.2 in
    let b : t.start ≡ y.0.start + length xs = r.1 in
    let z : length xs ≤ y.0.end - y.0.start = r.2 in
    (r.0 ∙ k, omega arith, omega arith)

-- turns of which each finds the next thing in the list that `of` tells
module _ {F X : Type 0} {f : X → List ℕ} {R : X → Type 0} (Turn : F × ℕ → ℕ → F × ℕ → Type 0) (of : F → List ℕ)
    (finds : (p q : F × ℕ) (x : ℕ) → Turn p x q → (of q.0 ≡ of p.0) × Found f R (of p.0) p.1 (Some q.1) × StandsOnce f R (of p.0) p.1) where
  so_far_turns : (xs : List ℕ) (begin i : ℕ) (p q : F × ℕ) → SoFar f R (of p.0) begin i p.1 → FoldsTo Turn p xs q → SoFar f R (of q.0) begin (i + length xs) q.1
  so_far_turns [] begin i p q s t = subst (λ (j : ℕ). SoFar f R (of q.0) begin j q.1) (sym (add-zero i)) (subst (λ (z : F × ℕ). SoFar f R (of z.0) begin i z.1) t s)
  so_far_turns (x ∷ xs) begin i p q s t =
      let d = finds p t.0 x t.1 in
      let e : i + 1 + length xs ≡ i + suc (length xs) = omega arith in
      let n : SoFar f R (of t.0.0) begin (i + 1) t.0.1 = subst (λ (l : List ℕ). SoFar f R l begin (i + 1) t.0.1) (sym d.0) (so_far_more s d.1 d.2) in
      subst (λ (j : ℕ). SoFar f R (of q.0) begin j q.1) e (so_far_turns xs begin (i + 1) t.0 q n t.2)

  same_list : (xs : List ℕ) (p q : F × ℕ) → FoldsTo Turn p xs q → of q.0 ≡ of p.0
  same_list [] p q t = ap (λ (z : F × ℕ). of z.0) (sym t)
  same_list (x ∷ xs) p q t = same_list xs t.0 q t.2 ∙ (finds p t.0 x t.1).0

  -- over the numbers below n that stands in front of them, they find the list
  pub list_folded : (w : Width) (l : List ℕ) (from begin n : ℕ) (e : (begin ≡ from + bytes w) × (begin ≤ length l)) (d : Decoded (count_bytes w) (λ (i : ℕ). i < 2 ^ bits w) (between from (from + bytes w) l) n)
      (xs : List ℕ) (o : Option ℕ) (a : F) (q : F × ℕ) (u : Range ℕ) (r : Option ℕ) (Stop : ℕ → Type 0) → of a ≡ l → YieldsThen nat_range_steps (record { start = 0; end = n }) xs o u → FoldsTo Turn (a, begin) xs q →
      MatchOption o (r ≡ Some q.1) Stop → ((x : ℕ) → Stop x → Found f R (of q.0) q.1 None × (r ≡ None)) → Found (listed w f) (Few R w) l from r
  list_folded w l from begin n e d xs o a q u r Stop h y t m stops = go o y.2 m
    where
      k : (y.0.end ≡ n) × (y.0.start ≡ 0 + length xs) × (length xs ≤ n - 0)
      k = counted (record { start = 0; end = n }) y.0 xs y.1

      z : of q.0 ≡ l
      z = same_list xs (a, begin) q t ∙ h

      s : SoFar f R l begin (length xs) q.1
      s =
          let b : SoFar f R (of a) begin 0 begin = so_far_none f R (of a) begin (subst (λ (i : List ℕ). begin ≤ length i) (sym h) e.1) in
          let c : 0 + length xs ≡ length xs = zero-add (length xs) in
          subst (λ (i : List ℕ). SoFar f R i begin (length xs) q.1) z (subst (λ (j : ℕ). SoFar f R (of q.0) begin j q.1) c (so_far_turns xs begin 0 (a, begin) q b t))

      all : (y.0.end - y.0.start ≡ 0) → length xs ≡ n
      all c = let b : y.0.start ≡ 0 + length xs = k.1 in let g : y.0.end ≡ n = k.0 in let i : length xs ≤ n - 0 = k.2 in omega arith

      fewer : 0 < y.0.end - y.0.start → length xs < n
      fewer c = let b : y.0.start ≡ 0 + length xs = k.1 in let g : y.0.end ≡ n = k.0 in omega arith

      go : (o : Option ℕ) → nat_range_steps y.0 o u → MatchOption o (r ≡ Some q.1) Stop → Found (listed w f) (Few R w) l from r
      go None c m =
          subst (Found (listed w f) (Few R w) l from) (sym m)
          (found_listed f R w d.range (number_stands w e d) (Some q.1) (s.things, (s.range.0 ∙ all c.1.0, s.range.1), s.stand))
      go (Some x) c m =
          let v = stops x m in
          subst (Found (listed w f) (Few R w) l from) (sym v.1)
          (found_listed f R w d.range (number_stands w e d) None (so_far_stop s (subst (λ (i : List ℕ). Found f R i q.1 None) z v.0) (fewer c.1.0)))

-- what stands behind a face's plane: its edges, its place and its corners
abbrev Behind : List ℕ → ℕ → Option ℕ → Type 0
Behind l edges r =
    Found (both (listed w16 plane_bytes) (both place_bytes (listed w16 place_bytes))) (Both (Few InRangePlane w16) (Both InRangePlace (Few InRangePlace w16))) l edges r

module _ (l : List ℕ) (b : Bytes l) where
  planes_found : (at : ℕ) (r : Option ℕ) → ListEnds l at 7 r → Found (listed w16 plane_bytes) (Few InRangePlane w16) l at r
  planes_found = found_list plane_code length-plane_bytes l b

  places_found : (at : ℕ) (r : Option ℕ) → ListEnds l at 32 r → Found (listed w16 place_bytes) (Few InRangePlace w16) l at r
  places_found = found_list place_code length-place_bytes l b

  plane_found : (at : ℕ) (r : Option ℕ) → Skipped l at 7 r → Found plane_bytes InRangePlane l at r
  plane_found = found_sized plane_code (λ p h. length-plane_bytes p) l b

  place_found : (at : ℕ) (r : Option ℕ) → Skipped l at 32 r → Found place_bytes InRangePlace l at r
  place_found = found_sized place_code (λ q h. length-place_bytes q) l b

  pub piece_found : (at place : ℕ) → ListEnds l at 7 (Some place) → (r : Option ℕ) → Skipped l place 32 r → Found piece_bytes InRangePiece l at r
  piece_found at place p r q = found_as piece_as l at r (found_behind (code_listed plane_code w16) place_bytes InRangePlace (planes_found at (Some place) p) r (place_found place r q))

  pub no_planes : (at : ℕ) → ListEnds l at 7 None → Found piece_bytes InRangePiece l at None
  no_planes at p = found_as piece_as l at None (found_not place_bytes InRangePlace (planes_found at None p))

  face_behind : (at edges : ℕ) → Skipped l at 7 (Some edges) → (r : Option ℕ) → Behind l edges r → Found face_bytes InRangeFace l at r
  face_behind at edges p r q =
      found_as face_as l at r
      (found_behind plane_code (both (listed w16 plane_bytes) (both place_bytes (listed w16 place_bytes))) (Both (Few InRangePlane w16) (Both InRangePlace (Few InRangePlace w16)))
      (plane_found at (Some edges) p) r q)

  edges_behind : (edges place : ℕ) → ListEnds l edges 7 (Some place) → (r : Option ℕ) → Found (both place_bytes (listed w16 place_bytes)) (Both InRangePlace (Few InRangePlace w16)) l place r → Behind l edges r
  edges_behind edges place p r q =
      found_behind (code_listed plane_code w16) (both place_bytes (listed w16 place_bytes)) (Both InRangePlace (Few InRangePlace w16)) (planes_found edges (Some place) p) r q

  pub face_found : (at edges place corners : ℕ) → Skipped l at 7 (Some edges) → ListEnds l edges 7 (Some place) → Skipped l place 32 (Some corners) →
      (r : Option ℕ) → ListEnds l corners 32 r → Found face_bytes InRangeFace l at r
  face_found at edges place corners p q s r t =
      face_behind at edges p r
      (edges_behind edges place q r (found_behind place_code (listed w16 place_bytes) (Few InRangePlace w16) (place_found place (Some corners) s) r (places_found corners r t)))

  pub no_place : (at edges place : ℕ) → Skipped l at 7 (Some edges) → ListEnds l edges 7 (Some place) → Skipped l place 32 None → Found face_bytes InRangeFace l at None
  no_place at edges place p q s = face_behind at edges p None (edges_behind edges place q None (found_not (listed w16 place_bytes) (Few InRangePlace w16) (place_found place None s)))

  pub no_edges : (at edges : ℕ) → Skipped l at 7 (Some edges) → ListEnds l edges 7 None → Found face_bytes InRangeFace l at None
  no_edges at edges p q =
      face_behind at edges p None (found_not (both place_bytes (listed w16 place_bytes)) (Both InRangePlace (Few InRangePlace w16)) (planes_found edges None q))

  pub no_plane : (at : ℕ) → Skipped l at 7 None → Found face_bytes InRangeFace l at None
  no_plane at p =
      found_as face_as l at None
      (found_not (both (listed w16 plane_bytes) (both place_bytes (listed w16 place_bytes))) (Both (Few InRangePlane w16) (Both InRangePlace (Few InRangePlace w16))) (plane_found at None p))
