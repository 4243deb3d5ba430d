use Rattle.std.proofs.Common.{ap, ◌∙◌, subst, arith}
use Rattle.std.proofs.lemmas.Int.{ints}
use Rattle.plane.specs.Limits.{SmallPlace}
use Rattle.solid.specs.Examples.{at}
use Rattle.faces.specs.declared.types.Bounds.{Bounds}
use Rattle.faces.specs.Blocks.{block_piece, FitsBlock}
use Rattle.faces.proofs.Built.{three, valued}
use Rattle.faces.proofs.Ranges.{piece_small}
use Rattle.faces.proofs.types.Block.middle.Goals as goal

pub returns : goal.returns
unfolding block_piece
returns c =
    valued SmallPlace (block_piece c.args.self).place
    (three (λ x y z. at x y z 2) (omega (arith, ints)) (omega (arith, ints)) (omega (arith, ints)) ∙ ap (λ (b : Bounds). (block_piece b).place) c.self.view_is)
    (piece_small c.args.self (subst FitsBlock c.self.view_is c.self.invariant))
