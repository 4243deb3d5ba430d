use Rattle.arith.proofs.Sized.{is_num, is_mul, is_back, is_short}
use Rattle.search.proofs.Axes.{then_short}
use Rattle.search.proofs.levels.Axis.number_of.Goals as goal

pub returns-clause-short : goal.returns-clause-short
returns-clause-short c =
    rw c.then_some.ensures (then_short _ _ _ (is_short (is_back (is_mul (is_num c.slope_of-s.ensures.short tt) (is_num c.requires.0.d tt)) tt)))
