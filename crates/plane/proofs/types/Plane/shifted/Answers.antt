use Rattle.arith.proofs.Sized.{is_num, is_add, is_back, is_fits}
use Rattle.plane.specs.Moves.{moved_plane}
use Rattle.plane.proofs.Ranges.{made}
use Rattle.plane.proofs.Weights.{is_weight}
use Rattle.plane.proofs.types.Plane.shifted.Goals as goal

pub overflow_add-result : goal.overflow_add-result
overflow_add-result c = is_fits (is_add (is_num c.requires.plane.d tt) (is_num c.weighed.ensures.short tt)) tt

pub returns : goal.returns
unfolding moved_plane
returns c =
    let s = is_weight c.args.self c.weighed.ensures.value c.requires.plane c.requires.shift.x c.requires.shift.y c.requires.shift.z tt in
    let d = is_back (is_add (is_num c.requires.plane.d tt) (is_back s tt)) tt in
    made (moved_plane c.args.t c.args.self) (is_num c.requires.plane.a tt).same (is_num c.requires.plane.b tt).same (is_num c.requires.plane.c tt).same d.same
