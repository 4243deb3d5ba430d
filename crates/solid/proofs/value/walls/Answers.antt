use Rattle.solid.specs.Shapes.{planes, workshop, box}
use Rattle.solid.proofs.value.walls.Goals as goal

pub returns : goal.returns
unfolding planes workshop box
returns c = cc
