use Rattle.std.proofs.Common.{List, [], ◌∷◌, ℤ, pos, negsuc, ◌∙◌, ap, subst, arith}
use Rattle.std.proofs.lemmas.Int.{ints}
use Rattle.std.specs.List.{AllByRecursion}
use Rattle.plane.specs.declared.types.Plane.{Plane}
use Rattle.plane.specs.Limits.{FitsPlane}
use Rattle.solid.specs.Shapes.{planes, plane, box}
use Rattle.faces.specs.declared.types.Bounds.{Bounds}
use Rattle.faces.specs.Blocks.{block_piece, FitsBlock}
use Rattle.faces.proofs.Built.{six, valued}
use Rattle.faces.proofs.Ranges.{piece_fits}
use Rattle.faces.proofs.types.Block.walls.Goals as goal

abbrev six_planes : ℤ → ℤ → ℤ → ℤ → ℤ → ℤ → List Plane
six_planes i j k l m n =
    plane (pos 1) (pos 0) (pos 0) i ∷ plane (negsuc 0) (pos 0) (pos 0) j ∷ plane (pos 0) (pos 1) (pos 0) k ∷ plane (pos 0) (negsuc 0) (pos 0) l
    ∷ plane (pos 0) (pos 0) (pos 1) m ∷ plane (pos 0) (pos 0) (negsuc 0) n ∷ []

pub returns : goal.returns
unfolding block_piece planes box
returns c =
    let b = c.self.view_is in
    valued (AllByRecursion FitsPlane) (block_piece c.args.self).planes
    (six (λ (i j k l m n : Plane). i ∷ j ∷ k ∷ l ∷ m ∷ n ∷ []) c.by_numbers.ensures c.by_numbers-2.ensures c.by_numbers-3.ensures c.by_numbers-4.ensures c.by_numbers-5.ensures c.by_numbers-6.ensures
    ∙ six six_planes (omega (arith, ints)) (omega (arith, ints)) (omega (arith, ints)) (omega (arith, ints)) (omega (arith, ints)) (omega (arith, ints))
    ∙ ap (λ (b : Bounds). (block_piece b).planes) c.self.view_is)
    (piece_fits c.args.self (subst FitsBlock c.self.view_is c.self.invariant))
