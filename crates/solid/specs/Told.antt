-- How it is written what is told of a place.
use Rattle.std.specs.Prelude.{ℕ, List, codes}
use Rattle.solid.specs.declared.types.Told.{Told}
use Rattle.solid.specs.declared.types.Told.TheVariants.{In, Out, On}

abbrev pub told_text : Told → List ℕ
told_text In = codes "in"
told_text Out = codes "out"
told_text On = codes "on"
