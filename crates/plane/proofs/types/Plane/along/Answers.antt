use Rattle.arith.proofs.Sized.{is_back, is_short}
use Rattle.plane.specs.Planes.{along}
use Rattle.plane.proofs.Weights.{is_weight}
use Rattle.plane.proofs.types.Plane.along.Goals as goal

pub returns : goal.returns
unfolding along
returns c =
    let s = is_back (is_weight c.args.self c.weighed.ensures.value c.requires.p c.requires.r.a c.requires.r.b c.requires.r.c tt) tt in
    record { value = s.same; short = is_short s }
