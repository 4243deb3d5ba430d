-- The piece of what of a block lies in the workshop is right; there is none if nothing does.
--     under, below_both                             below the planes that are left, or below two that look the same way
--     holds-solid                                   the value of the solid at a place
--     solid-thick                                   a place in the solid: something of the block lies in the workshop
--     right_piece, right_none                       the two cases
use Rattle.std.proofs.Common.{◌≡◌, ◌<◌, Bool, true, false, cond, ◌&&◌, List, [], ◌∷◌, ℤ, pos, ◌+ℤ◌, ◌*ℤ◌, neg_ℤ, ◌<ℤ◌, sym, refl, ap, ◌∙◌, subst, ap₂, inl, inr, add-zero, arith, lit<}
use lib.Signed.{lt_z}
use Rattle.std.specs.Int.{int_min}
use Rattle.std.proofs.lemmas.Int.{ints}
use Rattle.std.proofs.lemmas.Bool.{cases_Bool, true≢false}
use Rattle.plane.specs.declared.types.Plane.{Plane}
use Rattle.plane.specs.declared.types.Place.{Place}
use Rattle.plane.specs.Limits.{reach, SmallPlace}
use Rattle.plane.specs.Planes.{below, on}
use Rattle.solid.specs.Shapes.{box, holds, planes, solid, Has, Clear}
use Rattle.solid.specs.Models.{Piece, RightPieces, in_pieces, all_below, Ours}
use Rattle.solid.proofs.Members.{has_none, map_has, each_of}
use Rattle.faces.specs.declared.types.Bounds.{Bounds}
use Rattle.faces.specs.Blocks.{as_shape, cut, thick, block_piece}
use Rattle.faces.proofs.Ways.{Way, east, west, north, south, up, down, ways, opp, toward, far, top, bot, top-cut, planes-ways}
use Rattle.faces.proofs.Sides.{below-far}
use Rattle.faces.proofs.Integers.{lt_min, lt_scaled}
use Rattle.faces.proofs.Sixfold.{all_ways, all_ways_split, all_ways_each, each_all_ways, all_ways_same}
use Rattle.faces.proofs.Walls.{by-solid, has_solid, solid_has}
use Rattle.faces.proofs.Thickness.{way_thick, thick_way, cut_fits, squeezed, ShortOf, below_inside, off_inside}
use Rattle.faces.proofs.Ranges.{piece_small}

-- below the planes that are left
abbrev pub under : Bounds → Place → Way → Bool
under b q e = below (toward e (top b e)) q

times_cond : (t : Bool) (m n w : ℤ) → cond t (m *ℤ w) (n *ℤ w) ≡ cond t m n *ℤ w
times_cond true m n w = refl
times_cond false m n w = refl

module _ (q : Place) (real : 0 < q.w) where
  min_scaled : (m n : ℤ) → int_min (m *ℤ pos q.w) (n *ℤ pos q.w) ≡ int_min m n *ℤ pos q.w
  min_scaled m n =
      ap (λ t. cond t (n *ℤ pos q.w) (m *ℤ pos q.w)) (lt_scaled q.w real n m) ∙ times_cond (lt_z n m) n m (pos q.w)

  -- below two planes that look the same way: below the one that comes first
  pub below_both : (e : Way) (m n : ℤ) → (below (toward e n) q && below (toward e m) q) ≡ below (toward e (int_min m n)) q
  below_both e m n =
      let w = pos q.w in
      ap₂ ◌&&◌ (below-far e n q) (below-far e m q) ∙ lt_min (far e q) (m *ℤ w) (n *ℤ w) ∙ ap (λ t. lt_z (far e q) t) (min_scaled m n) ∙ sym (below-far e (int_min m n) q)

  pub holds-solid : (b : Bounds) → holds (solid (as_shape b)) q ≡ all_ways (under (cut b) q)
  unfolding holds
  holds-solid b =
      by-solid (λ p. below p q) b
      ∙ all_ways_same (λ e. below (toward e (pos reach)) q && below (toward e (top b e)) q) (under (cut b) q)
      (λ e. below_both e (top b e) (pos reach) ∙ ap (λ t. below (toward e t) q) (sym (top-cut b e)))

  pub solid-thick : (b : Bounds) → holds (solid (as_shape b)) q ≡ true → thick (cut b) ≡ true
  solid-thick b h =
      let u = all_ways_each (under (cut b) q) (sym (holds-solid b) ∙ h) in
      let s = λ (e : Way). squeezed (cut b) q real e (u e) (u (opp e)) in
      way_thick (cut b) east (s east) (s north) (s up)

pub below_planes : (b : Bounds) (q : Place) → all_below (planes (as_shape b)) q ≡ all_ways (under b q)
unfolding planes box all_below
below_planes b q = sym (all_ways_split east (under b q))

-- ---- the middle
swap_neg : (m n : ℤ) → neg_ℤ (m +ℤ n) ≡ neg_ℤ n +ℤ neg_ℤ m
swap_neg m n = omega (arith, ints)

far_middle : (b : Bounds) (e : Way) → far e (block_piece b).place ≡ bot b e +ℤ top b e
unfolding block_piece
far_middle b east = refl
far_middle b west = swap_neg b.x.low b.x.high
far_middle b north = refl
far_middle b south = swap_neg b.y.low b.y.high
far_middle b up = refl
far_middle b down = swap_neg b.z.low b.z.high

pub half_way : (f m n : ℤ) → f ≡ m +ℤ n → m <ℤ n → f <ℤ (n *ℤ pos 2)
half_way f m n e h = omega (arith, ints)

-- ---- the promise
module _ (b : Bounds) where
  module _ (some : thick (cut b) ≡ true) where
    inner : (e : Way) → ShortOf (top (cut b) e) e (block_piece (cut b)).place
    unfolding block_piece
    inner e = half_way _ (bot (cut b) e) (top (cut b) e) (far_middle (cut b) e) (thick_way (cut b) (cut_fits b some) e)

    piece_inside : all_below (block_piece (cut b)).planes (block_piece (cut b)).place ≡ true
    unfolding block_piece
    piece_inside =
        let m = (block_piece (cut b)).place in
        below_planes (cut b) m ∙ each_all_ways (under (cut b) m) (λ e. below_inside (top (cut b) e) e m (inner e))

    piece_clear : Clear (solid (as_shape b)) (block_piece (cut b)).place
    unfolding block_piece
    piece_clear = record {
      real = lit< tt;
      off = λ r h. let m = (block_piece (cut b)).place in let w = has_solid b r h in
          subst (λ (p : Plane). on p m ≡ false) w.is (off_inside (top (cut b) w.way) w.way m (inner w.way) w.end w.room);
    }

    piece_ours : Ours (solid (as_shape b)) (block_piece (cut b)).planes
    unfolding block_piece
    piece_ours p h =
        let m = map_has (λ e. toward e (top (cut b) e)) p ways (subst (λ (l : List Plane). Has l p) (planes-ways (cut b)) h) in
        inl (subst (λ (r : Plane). Has (planes (solid (as_shape b))) r) m.2 (solid_has b m.0))

    only : (P : Piece → Type 0) → P (block_piece (cut b)) → (d : Piece) → Has (block_piece (cut b) ∷ []) d → P d
    only P p d h = each_of P (block_piece (cut b) ∷ []) (p, tt) d h

    pub right_piece : RightPieces (solid (as_shape b)) (block_piece (cut b) ∷ [])
    unfolding in_pieces block_piece
    right_piece = record {
      once = λ q k. add-zero _ ∙ ap (λ t. cond t 1 0) (below_planes (cut b) q ∙ sym (holds-solid q k.real b));
      ours = only (λ d. Ours (solid (as_shape b)) d.planes) piece_ours;
      small = only (λ d. SmallPlace d.place) (piece_small (cut b) (cut_fits b some));
      inside = only (λ d. all_below d.planes d.place ≡ true) piece_inside;
      clear = only (λ d. Clear (solid (as_shape b)) d.place) piece_clear;
    }

  module _ (none : thick (cut b) ≡ false) where
    pub holds_none : (q : Place) → 0 < q.w → holds (solid (as_shape b)) q ≡ false
    holds_none q real = elim (cases_Bool (holds (solid (as_shape b)) q)) [
      | inl h ↦ absurd (true≢false (sym (solid-thick q real b h) ∙ none))
      | inr h ↦ h
    ]

    pub right_none : RightPieces (solid (as_shape b)) []
    unfolding in_pieces
    right_none = record {
      once = λ q k. sym (ap (λ t. cond t 1 0) (holds_none q k.real));
      ours = λ d h. absurd (has_none d h);
      small = λ d h. absurd (has_none d h);
      inside = λ d h. absurd (has_none d h);
      clear = λ d h. absurd (has_none d h);
    }
