use Rattle.std.proofs.Common.{◌∙◌}
use Rattle.arith.proofs.Sized.{is_call, is_back}
use Rattle.plane.specs.Meets.{determinant}
use Rattle.plane.specs.Cramer.{numerator_x}
use Rattle.plane.proofs.Cramer.{same_rows}
use Rattle.plane.proofs.meets.Three.numerator_x.Goals as goal

pub returns-clause-value : goal.returns-clause-value
unfolding numerator_x
returns-clause-value c =
    let e = c.determinant_of.ensures.value ∙ same_rows determinant c.with_offset_first.ensures.value c.with_offset_first-2.ensures.value c.with_offset_first-3.ensures.value in
    (is_back (is_call e c.determinant_of.ensures.short) tt).same
