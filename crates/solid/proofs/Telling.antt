-- What is told of a place, by the walls, the shape's planes and the shape's value.
use Rattle.std.proofs.Common.{◌≡◌, cond, ◌&&◌, ◌||◌, ap}
use Rattle.plane.specs.declared.types.Place.{Place}
use Rattle.solid.specs.declared.types.Told.TheVariants.{In, Out, On}
use Rattle.solid.specs.Shapes.{Shape, by, holds, planes, workshop, solid}
use Rattle.solid.specs.Examples.{on_some, told}
use Rattle.solid.proofs.Touching.{on_some-append}

pub told-parts : (s : Shape) (q : Place) → told s q ≡ cond (on_some (planes workshop) q || on_some (planes s) q) On (cond (holds workshop q && holds s q) In Out)
unfolding told solid holds by planes
told-parts s q = ap (λ b. cond b On (cond (holds workshop q && holds s q) In Out)) (on_some-append q (planes workshop) (planes s))
