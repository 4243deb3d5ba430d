use Rattle.std.proofs.Common.{◌∙◌}
use Rattle.arith.proofs.Sized.{is_call, is_back}
use Rattle.plane.specs.Cramer.{numerator_x, numerator_z}
use Rattle.plane.proofs.Cramer.{same_rows}
use Rattle.plane.proofs.meets.Three.numerator_z.Goals as goal

pub returns-clause-value : goal.returns-clause-value
unfolding numerator_z
returns-clause-value c =
    let e = c.numerator_x.ensures.value ∙ same_rows numerator_x c.rolled.ensures.p c.rolled.ensures.q c.rolled.ensures.r in
    (is_back (is_call e c.numerator_x.ensures.short) tt).same
