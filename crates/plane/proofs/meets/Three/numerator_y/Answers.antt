use Rattle.std.proofs.Common.{◌∙◌}
use Rattle.arith.proofs.Sized.{is_call, is_back}
use Rattle.plane.specs.Cramer.{numerator_z, numerator_y}
use Rattle.plane.proofs.Cramer.{same_rows}
use Rattle.plane.proofs.meets.Three.numerator_y.Goals as goal

pub returns-clause-value : goal.returns-clause-value
unfolding numerator_y
returns-clause-value c =
    let e = c.numerator_z.ensures.value ∙ same_rows numerator_z c.rolled.ensures.p c.rolled.ensures.q c.rolled.ensures.r in
    (is_back (is_call e c.numerator_z.ensures.short) tt).same
