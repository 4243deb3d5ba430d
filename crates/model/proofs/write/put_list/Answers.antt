use Rattle.std.proofs.Common.{◌+◌, ◌*◌, length, w16, rules}
use Rattle.model.specs.Format.{listed}
use Rattle.model.proofs.Codes.{length_count}
use Rattle.model.proofs.Writes.{at_first, listing_more, listing_all, room_left}
use Rattle.model.proofs.write.put_list.Goals as goal

pub loop-i-preserved : goal.loop-i-preserved
loop-i-preserved g c =
    let t = g.T.Fixed in
    let l = c.loop-i in
    let p = c.put-in-loop-i in
    listing_more t.bytes c.args.things.now 2 c.put.new.out l.i c.index-things-i.result p.new.out c.SIZE.ensures c.loop-i-test.true c.index-things-i.is l.invariant
    p.ensures p.auto.out (room_left (2 + c.SIZE.result * l.i) l.out t.SIZE (search rules))

pub returns-clause-written : goal.returns-clause-written
unfolding listed
returns-clause-written g c =
    rw c.SIZE-2.ensures (listing_all g.T.Fixed.bytes g.T.Fixed.SIZE c.args.things.now (at_first c.args.out.now (length_count w16 (length c.args.things.now)) c.put.ensures) c.loop-i.invariant (search rules))
