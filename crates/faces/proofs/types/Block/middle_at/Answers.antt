use Rattle.std.proofs.Common.{ap, arith}
use Rattle.std.proofs.lemmas.Int.{ints}
use Rattle.plane.specs.declared.types.Place.{Place}
use Rattle.solid.specs.Examples.{at}
use Rattle.faces.specs.Blocks.{block_piece}
use Rattle.faces.proofs.Built.{three}
use Rattle.faces.proofs.types.Block.middle_at.Goals as goal

pub returns : goal.returns
unfolding block_piece
returns c = let e = c.middle.ensures.value in rw e (three (λ x y z. at x y z 2) (omega (arith, ints)) (omega (arith, ints, ap (λ (q : Place). q.y) e)) (omega (arith, ints, ap (λ (q : Place). q.z) e)))
