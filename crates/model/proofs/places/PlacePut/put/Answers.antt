use Rattle.std.proofs.Common.{◌≡◌, pos, ap, w64, to_z, of_z, rules}
use mir.Facts.{to_z_pos}
use Rattle.model.specs.Format.{place_bytes, signed_bytes}
use Rattle.model.proofs.Codes.{length-signed_bytes}
use Rattle.model.proofs.Writes.{written_as, wrote₄}
use Rattle.model.proofs.places.PlacePut.put.Goals as goal

pub returns : goal.returns
unfolding place_bytes
returns c =
    let q = c.args.self in
    let x : to_z w64 (of_z w64 q.x) ≡ q.x = search rules in
    let y : to_z w64 (of_z w64 q.y) ≡ q.y = search rules in
    let z : to_z w64 (of_z w64 q.z) ≡ q.z = search rules in
    let w : to_z w64 q.w ≡ pos q.w = to_z_pos w64 c.requires.range in
    wrote₄ c.args.out.now (signed_bytes w64 q.x) (signed_bytes w64 q.y) (signed_bytes w64 q.z) (signed_bytes w64 (pos q.w)) c.put-2.new.out c.put-3.new.out c.put-4.new.out 8 8 8 8
    (length-signed_bytes w64 q.x) (length-signed_bytes w64 q.y) (length-signed_bytes w64 q.z) (length-signed_bytes w64 (pos q.w))
    (written_as _ c.put.ensures (ap (signed_bytes w64) x)) (written_as _ c.put-2.ensures (ap (signed_bytes w64) y)) (written_as _ c.put-3.ensures (ap (signed_bytes w64) z)) (written_as _ c.put-4.ensures (ap (signed_bytes w64) w))
