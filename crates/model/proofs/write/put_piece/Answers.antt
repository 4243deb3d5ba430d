use Rattle.std.proofs.Common.{sym, ◌∙◌, w16}
use Rattle.model.specs.Wire.{wire_place}
use Rattle.model.specs.Format.{piece_bytes, place_bytes, plane_bytes}
use Rattle.model.proofs.Codes.{length-listed, length-plane_bytes, length-place_bytes}
use Rattle.model.proofs.Writes.{at_first, and_then}
use Rattle.model.proofs.write.put_piece.Goals as goal

pub returns-clause-written : goal.returns-clause-written
unfolding piece_bytes
returns-clause-written c =
    let l = c.put_list-at.ensures in
    let one = at_first c.args.out.now (length-listed w16 plane_bytes 7 length-plane_bytes c.args.planes.now ∙ sym l.long) l.written in
    (and_then (place_bytes (wire_place c.args.place)) c.put.new.out 32 one (length-place_bytes _) c.put.ensures).is
