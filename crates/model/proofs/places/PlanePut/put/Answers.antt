use Rattle.std.proofs.Common.{ap, w8, w32}
use Rattle.model.specs.Format.{plane_bytes, signed_bytes}
use Rattle.model.proofs.Codes.{length-signed_bytes, narrowed}
use Rattle.model.proofs.Writes.{written_as, wrote₄}
use Rattle.model.proofs.places.PlanePut.put.Goals as goal

pub returns : goal.returns
unfolding plane_bytes
returns c =
    let p = c.args.self in
    let r = c.requires.range in
    wrote₄ c.args.out.now (signed_bytes w8 p.a) (signed_bytes w8 p.b) (signed_bytes w8 p.c) (signed_bytes w32 p.d) c.put-2.new.out c.put-3.new.out c.put-4.new.out 1 1 1 4
    (length-signed_bytes w8 p.a) (length-signed_bytes w8 p.b) (length-signed_bytes w8 p.c) (length-signed_bytes w32 p.d)
    (written_as _ c.put.ensures (ap (signed_bytes w8) (narrowed w8 r.a tt))) (written_as _ c.put-2.ensures (ap (signed_bytes w8) (narrowed w8 r.b tt)))
    (written_as _ c.put-3.ensures (ap (signed_bytes w8) (narrowed w8 r.c tt))) (written_as _ c.put-4.ensures (ap (signed_bytes w32) (narrowed w32 r.d tt)))
