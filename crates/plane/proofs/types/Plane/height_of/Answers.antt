use Rattle.arith.proofs.Sized.{is_num, is_low, is_back, is_mul, is_sub, is_fits}
use Rattle.plane.specs.Planes.{height}
use Rattle.plane.proofs.Weights.{is_weight}
use Rattle.plane.proofs.types.Plane.height_of.Goals as goal

pub overflow_mul-result : goal.overflow_mul-result
overflow_mul-result c = is_fits (is_mul (is_num c.requires.plane.d tt) (is_low c.requires.place.w tt)) tt

pub overflow_sub-result : goal.overflow_sub-result
overflow_sub-result c =
    let dw = is_back (is_mul (is_num c.requires.plane.d tt) (is_low c.requires.place.w tt)) tt in
    is_fits (is_sub (is_num c.weighed.ensures.short tt) dw) tt

pub returns : goal.returns
unfolding height
returns c =
    let s = is_weight c.args.self c.weighed.ensures.value c.requires.plane c.requires.place.x c.requires.place.y c.requires.place.z tt in
    let dw = is_back (is_mul (is_num c.requires.plane.d tt) (is_low c.requires.place.w tt)) tt in
    (is_back (is_sub (is_back s tt) dw) tt).same
