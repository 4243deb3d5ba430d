use Rattle.std.proofs.Common.{sym, ◌∙◌, arith}
use Rattle.reader.proofs.Pairs.{pair_none, pair_some}
use Rattle.reader.proofs.build.spot_of.Goals as goal

pub pair_at-requires : goal.pair_at-requires
pair_at-requires c = omega (arith, (pair_some c.args.names.now c.args.spots.now c.args.name.now c.in-Some.i c.in-Some.ensures).0)

pub returns-in-Some : goal.returns-in-Some
returns-in-Some c = c.pair_at.ensures ∙ sym (pair_some c.args.names.now c.args.spots.now c.args.name.now c.in-Some.i c.in-Some.ensures).1

pub returns-in-None : goal.returns-in-None
returns-in-None c = pair_none c.args.names.now c.args.spots.now c.args.name.now c.in-None.ensures
