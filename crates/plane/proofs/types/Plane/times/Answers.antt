use Rattle.arith.proofs.Sized.{is_num, is_mul, is_back, is_fits}
use Rattle.plane.specs.Ratios.{multiplied}
use Rattle.plane.proofs.Ranges.{made}
use Rattle.plane.proofs.types.Plane.times.Goals as goal

pub overflow_mul-result-4 : goal.overflow_mul-result-4
overflow_mul-result-4 c = is_fits (is_mul (is_num c.requires.k tt) (is_num c.requires.p.d tt)) tt

pub returns : goal.returns
unfolding multiplied
returns c =
    let k = is_num c.requires.k tt in
    let a = is_back (is_mul k (is_num c.requires.p.a tt)) tt in
    let b = is_back (is_mul k (is_num c.requires.p.b tt)) tt in
    let g = is_back (is_mul k (is_num c.requires.p.c tt)) tt in
    let d = is_back (is_mul k (is_num c.requires.p.d tt)) tt in
    made (multiplied c.args.k c.args.self) a.same b.same g.same d.same
