-- How many pieces and faces a place is in.
--     all_below-append, none_above-append            of the planes of an append
--     in_pieces-append, in_faces-append              the counts of an append add up
--     nothing_there                                  a right model without pieces is of an empty shape
use Rattle.std.proofs.Common.{◌≡◌, ℕ, ◌+◌, Bool, true, false, cond, not, ◌&&◌, List, [], ◌∷◌, ◌++◌, pos, sym, refl, ap, ◌∙◌, add_assoc, zero-add, arith}
use Rattle.std.proofs.Math.Bool.{and_assoc}
use lib.Signed.{lt_z}
use Rattle.plane.specs.declared.types.Plane.{Plane}
use Rattle.plane.specs.declared.types.Place.{Place}
use Rattle.plane.specs.Planes.{height, below, on, same_way}
use Rattle.solid.specs.Shapes.{holds}
use Rattle.solid.specs.Models.{Piece, Face, all_below, none_above, in_pieces, in_faces}
use Rattle.solid.specs.Laws.{NothingThere}

pub all_below-append : (ps qs : List Plane) (q : Place) → all_below (ps ++ qs) q ≡ (all_below ps q && all_below qs q)
unfolding all_below
all_below-append [] qs q = refl
all_below-append (p ∷ ps) qs q = ap (λ x. below p q && x) (all_below-append ps qs q) ∙ sym (and_assoc (below p q) (all_below ps q) (all_below qs q))

pub none_above-append : (ps qs : List Plane) (q : Place) → none_above (ps ++ qs) q ≡ (none_above ps q && none_above qs q)
unfolding none_above
none_above-append [] qs q = refl
none_above-append (p ∷ ps) qs q =
    let t = not (lt_z (pos 0) (height p q)) in
    ap (λ x. t && x) (none_above-append ps qs q) ∙ sym (and_assoc t (none_above ps q) (none_above qs q))

pub in_pieces-append : (cs ds : List Piece) (q : Place) → in_pieces (cs ++ ds) q ≡ in_pieces cs q + in_pieces ds q
unfolding in_pieces
in_pieces-append [] ds q = sym (zero-add (in_pieces ds q))
in_pieces-append (c ∷ cs) ds q =
    let n = cond (all_below c.planes q) 1 0 in
    ap (λ k. n + k) (in_pieces-append cs ds q) ∙ sym (add_assoc n (in_pieces cs q) (in_pieces ds q))

pub in_faces-append : (fs gs : List Face) (p : Plane) (q : Place) → in_faces (fs ++ gs) p q ≡ in_faces fs p q + in_faces gs p q
unfolding in_faces
in_faces-append [] gs p q = sym (zero-add (in_faces gs p q))
in_faces-append (f ∷ fs) gs p q =
    let n = cond (same_way f.plane p && (on f.plane q && all_below f.edges q)) 1 0 in
    ap (λ k. n + k) (in_faces-append fs gs p q) ∙ sym (add_assoc n (in_faces fs p q) (in_faces gs p q))

-- a right model without pieces is of a shape that holds no place
none : (b : Bool) → ◌≡◌ {A = ℕ} 0 (cond b 1 0) → b ≡ false
none true e = absurd (omega arith)
none false e = refl

pub nothing_there : NothingThere
unfolding in_pieces
nothing_there s m r e q c = none (holds s q) (sym (ap (λ (cs : List Piece). in_pieces cs q) e) ∙ r.pieces.once q c)
