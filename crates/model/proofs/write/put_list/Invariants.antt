use Rattle.model.proofs.Writes.{Listing}
use Rattle.model.proofs.write.put_list.Given as goal

abbrev pub invariant-loop-i : goal.invariant-loop-i
invariant-loop-i g l = let t = g.T.Fixed in Listing t.bytes t.SIZE l.things 2 l.initial.out l.i l.out
