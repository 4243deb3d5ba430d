use Rattle.std.proofs.Common.{pos, ◌<ℤ◌, arith}
use Rattle.std.proofs.lemmas.Int.{ints}
use Rattle.std.proofs.lemmas.Bool.Decides.{not_from_Decides}
use Rattle.plane.specs.Planes.{along}
use Rattle.plane.proofs.Coincidence.{alike, opposite, along_nonzero, apart}
use Rattle.plane.proofs.types.Plane.coincide.Goals as goal

pub returns-then-not-is_in_ratio : goal.returns-then-not-is_in_ratio
returns-then-not-is_in_ratio c =
    apart c.args.self c.args.r c.requires.p.sloped (not_from_Decides c.is_in_ratio.result c.is_in_ratio.ensures c.if-not-is_in_ratio.true)

pub returns-then-along-gt0 : goal.returns-then-along-gt0
returns-then-along-gt0 c =
    let k : pos 0 <ℤ along c.args.self c.args.r = omega (arith, ints) in
    alike c.args.self c.args.r c.requires.p.sloped (c.is_in_ratio.ensures.0 c.if-not-is_in_ratio.false) k

pub returns-else-along-gt0 : goal.returns-else-along-gt0
returns-else-along-gt0 c =
    let e = c.is_in_ratio.ensures.0 c.if-not-is_in_ratio.false in
    let n = along_nonzero c.args.self c.args.r c.requires.p.sloped e c.requires.r.sloped in
    let k : along c.args.self c.args.r <ℤ pos 0 = omega (arith, ints) in
    opposite c.args.self c.args.r c.requires.p.sloped e k
