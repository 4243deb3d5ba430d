use Rattle.model.proofs.Ends.{list_ends}
use Rattle.model.proofs.parts.list_end.Goals as goal

pub returns : goal.returns
returns g c = list_ends g.T.Fixed.SIZE c.skip.result c.in_ok-begin.ensures c.read.ensures (rw (c.SIZE.ensures, c.from.ensures) at c.skip.ensures)
