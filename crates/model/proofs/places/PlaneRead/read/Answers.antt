use Rattle.model.proofs.Decodes.{plane_read, stored_from}
use Rattle.model.proofs.places.PlaneRead.read.Goals as goal

pub returns : goal.returns
returns c =
    plane_read c.args.model.now c.args.at
    (stored_from tt c.read.ensures c.from.ensures) (stored_from tt c.read-2.ensures c.from-2.ensures)
    (stored_from tt c.read-3.ensures c.from-3.ensures) (stored_from tt c.read-4.ensures c.from-4.ensures)
