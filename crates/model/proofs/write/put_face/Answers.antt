use Rattle.std.proofs.Common.{ℕ, ◌+◌, ◌*◌, map, sym, ap, ◌∙◌, w16}
use lib.ListN.{length-map}
use Rattle.model.specs.Wire.{wire_place}
use Rattle.model.specs.Format.{listed, face_bytes, place_bytes, plane_bytes}
use Rattle.model.proofs.Codes.{length-listed, length-plane_bytes, length-place_bytes, w_small}
use Rattle.model.proofs.Writes.{written_as, wrote₄, listed-map}
use Rattle.model.proofs.write.put_face.Goals as goal

pub put_list-requires-clause-range : goal.put_list-requires-clause-range
put_list-requires-clause-range c = w_small c.args.corners.now c.requires.range.corners

pub returns-clause-written : goal.returns-clause-written
unfolding face_bytes
returns-clause-written c =
    let es = c.args.edges.now in
    let vs = c.args.corners.now in
    let q = wire_place c.args.place in
    let j = c.put_list-at.ensures in
    let k = c.put_list.ensures in
    let i = listed-map w16 place_bytes wire_place vs in
    let lk = length-listed w16 place_bytes 32 length-place_bytes (map wire_place vs) ∙ ap (λ (n : ℕ). 2 + 32 * n) (length-map vs wire_place) ∙ sym k.long in
    wrote₄ c.args.out.now (plane_bytes c.args.plane) (listed w16 plane_bytes es) (place_bytes q) (listed w16 place_bytes (map wire_place vs))
    c.put_list-at.new.out c.put-2.new.out c.put_list.new.out 7 c.put_list-at.result 32 c.put_list.result
    (length-plane_bytes c.args.plane) (length-listed w16 plane_bytes 7 length-plane_bytes es ∙ sym j.long) (length-place_bytes q) lk
    c.put.ensures j.written c.put-2.ensures (written_as _ k.written i)
