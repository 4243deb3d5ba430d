-- The faces of what of a block lies in the workshop are right, and so is its model.
--     face_fits                                     the numbers of each face are in range
--     face_inside, face_clear, face_ours            what is promised of one face
--     right_model                                   the promise
use Rattle.std.proofs.Common.{◌≡◌, ℕ, Bool, true, false, cond, ◌||◌, ◌⊎◌, List, [], ◌∷◌, ℤ, pos, ◌+ℤ◌, ◌*ℤ◌, neg_ℤ, ◌≤ℤ◌, ◌<ℤ◌, Some, None, sym, refl, ap, ◌∙◌, subst, ap₂, inl, inr, arith}
use Rattle.std.proofs.lemmas.Int.{ints}
use Rattle.std.proofs.lemmas.Bool.{and_from, or_cases, or_left, or_right, true≢false}
use Rattle.plane.specs.declared.types.Plane.{Plane}
use Rattle.plane.specs.declared.types.Place.{Place}
use Rattle.plane.specs.Limits.{SmallPlace}
use Rattle.plane.specs.Planes.{same_z, on, along, same_way, turned}
use Rattle.solid.specs.Shapes.{solid, planes, Has, ClearBut, ends}
use Rattle.solid.specs.Models.{Face, Right, RightFaces, RightCorners, in_faces, all_below, Ours}
use Rattle.solid.proofs.Members.{has_none, map_has, each_of}
use Rattle.faces.specs.declared.types.Bounds.{Bounds}
use Rattle.faces.specs.Blocks.{as_shape, cut, thick, left_of, model_of, block_faces, rolled_back, FitsBlock, FitsFace}
use Rattle.faces.proofs.Ways.{Way, east, west, north, south, up, down, ways, opp, first, second, toward, normal, far, top, bot, bot-top, far-opp, face_at, faces_ways, Made, made}
use Rattle.faces.proofs.Sides.{below-far, on-far}
use Rattle.plane.proofs.Tests.{lt_says, same_yes}
use Rattle.faces.proofs.Sixfold.{all_ways_split, all_ways_each, Four, each_across}
use Rattle.faces.proofs.Walls.{has_solid, solid_has}
use Rattle.faces.proofs.Thickness.{thick_way, cut_fits, below_inside, off_inside}
use Rattle.faces.proofs.Ranges.{high_fits, low_fits, back_fits, rolled_face_fits}
use Rattle.faces.proofs.Pieces.{under, right_piece, right_none}
use Rattle.faces.proofs.Ends.{faced, in_faces_way, ends_once, ends_none}
use Rattle.faces.proofs.Corners.{right_corners}

-- ---- ranges
pub face_fits : (b : Bounds) → FitsBlock b → (e : Way) → FitsFace (face_at b e)
unfolding face_at
face_fits b f east = high_fits b f
face_fits b f west = low_fits b f
face_fits b f north = rolled_face_fits _ (high_fits (rolled_back b) (back_fits b f))
face_fits b f south = rolled_face_fits _ (low_fits (rolled_back b) (back_fits b f))
face_fits b f up = rolled_face_fits _ (rolled_face_fits _ (high_fits (rolled_back (rolled_back b)) (back_fits (rolled_back b) (back_fits b f))))
face_fits b f down = rolled_face_fits _ (rolled_face_fits _ (low_fits (rolled_back (rolled_back b)) (back_fits (rolled_back b) (back_fits b f))))

-- ---- the place of a face
-- half way between two planes across a way; and at the end of a way
half_ways : (f h t s u : ℤ) → u ≡ neg_ℤ s → h ≡ neg_ℤ f → f ≡ u +ℤ t → u <ℤ t → (f <ℤ (t *ℤ pos 2)) × (h <ℤ (s *ℤ pos 2))
half_ways f h t s u i j k l = (omega (arith, ints), omega (arith, ints))

at_end : (f h t s u : ℤ) → u ≡ neg_ℤ s → h ≡ neg_ℤ f → f ≡ t +ℤ t → u <ℤ t → (f ≡ t *ℤ pos 2) × (h <ℤ (s *ℤ pos 2))
at_end f h t s u i j k l = (omega (arith, ints), omega (arith, ints))

same_self : (e : Way) → same_way (normal e) (normal e) ≡ true
unfolding same_way same_z along
same_self = all_ways_each (λ e. same_way (normal e) (normal e)) refl

module _ (b : Bounds) (fits : FitsBlock b) (e : Way) (f : Face) (m : Made b e f) where
  abbrev q : Place
  q = f.place

  scale : q.w ≡ 2
  scale = ap (λ (p : Place). p.w) m.place

  doubled : (P : ℤ → Type 0) (n : ℤ) → P (n *ℤ pos 2) → P (n *ℤ pos q.w)
  doubled P n = subst (λ (k : ℕ). P (n *ℤ pos k)) (sym scale)

  ahead : (far e q ≡ top b e *ℤ pos 2) × (far (opp e) q <ℤ (top b (opp e) *ℤ pos 2))
  ahead = at_end (far e q) (far (opp e) q) (top b e) (top b (opp e)) (bot b e) (bot-top b e) (far-opp e q) (ap (λ (p : Place). p.x) m.place ∙ m.twice) (thick_way b fits e)

  across_both : (g : Way) → far g q ≡ bot b g +ℤ top b g → (under b q g ≡ true) × (under b q (opp g) ≡ true)
  across_both g h =
      let k = half_ways (far g q) (far (opp g) q) (top b g) (top b (opp g)) (bot b g) (bot-top b g) (far-opp g q) h (thick_way b fits g) in
      (below_inside (top b g) g q (doubled (λ n. far g q <ℤ n) (top b g) k.0), below_inside (top b (opp g)) (opp g) q (doubled (λ n. far (opp g) q <ℤ n) (top b (opp g)) k.1))

  within : Four e (λ g. under b q g ≡ true)
  within =
      let i = across_both (first e) (ap (λ (p : Place). p.y) m.place) in
      let j = across_both (second e) (ap (λ (p : Place). p.z) m.place) in
      (i.0, i.1, j.0, j.1)

  face_inside : all_below f.edges f.place ≡ true
  unfolding all_below
  face_inside = subst (λ (ps : List Plane). all_below ps q ≡ true) (sym m.edges) (each_across e (under b q) within)

  -- each way, a plane looks as the face does, or the place is below it
  alike_or_below : (g : Way) → (same_way (normal e) (normal g) || under b q g) ≡ true
  alike_or_below =
      let t = λ (g : Way). same_way (normal e) (normal g) || under b q g in
      let o = λ (g : Way) (h : under b q g ≡ true). or_right (same_way (normal e) (normal g)) (under b q g) h in
      let a = below_inside (top b (opp e)) (opp e) q (doubled (λ n. far (opp e) q <ℤ n) (top b (opp e)) ahead.1) in
      let w = within in
      all_ways_each t (all_ways_split e t ∙ and_from (t e) _ (or_left _ _ (same_self e)) (and_from (t (opp e)) _ (o (opp e) a)
      (each_across e t (o (first e) w.0, o (opp (first e)) w.1, o (second e) w.2, o (opp (second e)) w.3))))

  face_clear : (a : Bounds) → b ≡ cut a → ClearBut (solid (as_shape a)) f.plane f.place
  unfolding same_way along
  face_clear a i = record {
    real = omega (arith, scale);
    on_it = subst (λ (p : Plane). on p q ≡ true) (sym m.plane) (on-far e (top b e) q ∙ same_yes _ _ (doubled (λ n. far e q ≡ n) (top b e) ahead.0));
    off_others = λ r h o.
        let w = has_solid a r h in
        let g = w.way in
        let n : top b g ≤ℤ w.end = subst (λ (c : Bounds). top c g ≤ℤ w.end) (sym i) w.room in
        elim (or_cases _ _ (alike_or_below g)) [
          | inl s ↦ inl (ap₂ same_way m.plane (sym w.is) ∙ s)
          | inr s ↦ absurd (true≢false (sym o ∙ subst (λ (p : Plane). on p q ≡ false) w.is (off_inside (top b g) g q (lt_says _ _ (sym (below-far g (top b g) q) ∙ s)) w.end n)))
        ];
  }

  face_ours : (a : Bounds) → b ≡ cut a → Ours (solid (as_shape a)) (f.plane ∷ f.edges)
  face_ours a i p h =
      let l = e ∷ first e ∷ opp (first e) ∷ second e ∷ opp (second e) ∷ [] in
      let k = map_has (λ g. toward g (top b g)) p l (subst (λ (ps : List Plane). Has ps p) (ap₂ ◌∷◌ m.plane m.edges) h) in
      inl (subst (λ (r : Plane). Has (planes (solid (as_shape a))) r) (ap (λ (c : Bounds). toward k.0 (top c k.0)) (sym i) ∙ k.2) (solid_has a k.0))

-- ---- the promise
only_face : (b : Bounds) (P : Face → Type 0) → ((e : Way) → P (face_at b e)) → (f : Face) → Has (block_faces b) f → P f
only_face b P p f h = let k = map_has (face_at b) f ways (subst (λ (l : List Face). Has l f) (faces_ways b) h) in subst P k.2 (p k.0)

module _ (b : Bounds) where
  module _ (some : thick (cut b) ≡ true) where
    fits : FitsBlock (cut b)
    fits = cut_fits b some

    face_once : (p : Plane) (q : Place) → (Has (planes (solid (as_shape b))) p ⊎ Has (planes (solid (as_shape b))) (turned p)) → ClearBut (solid (as_shape b)) p q →
        in_faces (block_faces (cut b)) p q ≡ cond (ends (solid (as_shape b)) p q) 1 0
    face_once p q h c =
        let w = faced b p h in
        let k = subst (λ (r : Plane). on r q ≡ true) (sym w.is) c.on_it in
        subst (λ (r : Plane). in_faces (block_faces (cut b)) r q ≡ cond (ends (solid (as_shape b)) r q) 1 0) w.is
        (in_faces_way (cut b) w.way w.end q ∙ ap (λ t. cond t 1 0) (sym (ends_once b w.way w.end q c.real k (thick_way (cut b) fits w.way))))

    right_faces : RightFaces (solid (as_shape b)) (block_faces (cut b))
    right_faces =
        let a = cut b in
        let s = solid (as_shape b) in
        record {
          once = face_once;
          ours = only_face a (λ f. Ours s (f.plane ∷ f.edges)) (λ e. face_ours a fits e (face_at a e) (made a e) b refl);
          small = only_face a (λ f. SmallPlace f.place) (λ e. (face_fits a fits e).place);
          inside = only_face a (λ f. all_below f.edges f.place ≡ true) (λ e. face_inside a fits e (face_at a e) (made a e));
          clear = only_face a (λ f. ClearBut s f.plane f.place) (λ e. face_clear a fits e (face_at a e) (made a e) b refl);
          corners = only_face a RightCorners (λ e. right_corners a e (face_at a e) (made a e) (thick_way a fits (first e)) (thick_way a fits (second e))
              (each_of SmallPlace (face_at a e).corners (face_fits a fits e).corners));
        }

  module _ (none : thick (cut b) ≡ false) where
    no_faces : RightFaces (solid (as_shape b)) []
    unfolding in_faces
    no_faces = record {
      once = λ p q h c. let w = faced b p h in let k = subst (λ (r : Plane). on r q ≡ true) (sym w.is) c.on_it in
          subst (λ (r : Plane). ◌≡◌ {A = ℕ} 0 (cond (ends (solid (as_shape b)) r q) 1 0)) w.is (sym (ap (λ t. cond t 1 0) (ends_none b w.way w.end q c.real k none)));
      ours = λ f h. absurd (has_none f h);
      small = λ f h. absurd (has_none f h);
      inside = λ f h. absurd (has_none f h);
      clear = λ f h. absurd (has_none f h);
      corners = λ f h. absurd (has_none f h);
    }

  pub right_model : Right (solid (as_shape b)) (model_of (left_of b))
  unfolding left_of model_of
  right_model = go (thick (cut b)) refl
    where
      go : (t : Bool) → thick (cut b) ≡ t → Right (solid (as_shape b)) (model_of (cond t (Some (cut b)) None))
      go true h = record { pieces = right_piece b h; faces = right_faces h }
      go false h = record { pieces = right_none b h; faces = no_faces h }
