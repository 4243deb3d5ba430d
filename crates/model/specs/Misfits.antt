-- What is printed where bytes are no model.
use Rattle.std.specs.Prelude.{ℕ, List, ◌++◌, codes}
use Rattle.std.specs.Fmt.{decimal}
use Rattle.model.specs.declared.types.Misfit.{Misfit}
use Rattle.model.specs.declared.types.Misfit.TheVariants.{Short, Long}

abbrev pub misfit_text : Misfit → List ℕ
misfit_text Short = codes "the bytes end within the model"
misfit_text (Long p) = codes "the model ends at byte " ++ (decimal p ++ codes ", and the bytes go on")
