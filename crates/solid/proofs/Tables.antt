-- The examples are told as they say, by computation.
use Rattle.std.proofs.Common.{refl}
use Rattle.plane.specs.Planes.{same_z, height, below, on}
use Rattle.solid.specs.Shapes.{by, holds, planes, box, workshop, solid}
use Rattle.solid.specs.Examples.{on_some, told, examples, AllTold}

pub all_told : AllTold examples
unfolding same_z height below on by holds planes box workshop solid on_some told
all_told = (refl, (refl, (refl, (refl, (refl, tt)))))
