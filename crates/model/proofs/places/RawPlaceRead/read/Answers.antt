use Rattle.model.proofs.Decodes.{place_read, stored}
use Rattle.model.proofs.places.RawPlaceRead.read.Goals as goal

pub returns : goal.returns
returns c =
    place_read c.args.model.now c.args.at
    (stored tt c.read.ensures) (stored tt c.read-2.ensures) (stored tt c.read-3.ensures) (stored tt c.read-4.ensures)
