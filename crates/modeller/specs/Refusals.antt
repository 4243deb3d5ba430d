-- A refusal's number and place, and what is printed of it.
--   5  lent words that are too few: at 0 those for the steps, at 1 those for the work
use Rattle.std.specs.Prelude.{ℕ, List, ◌++◌, codes}
use Rattle.std.specs.Fmt.{decimal}
use Rattle.grammar.specs.Faults.{Fault, fault}
use Rattle.reader.specs.Scan.{told}
use Rattle.modeller.specs.declared.types.Refused.{Refused}
use Rattle.modeller.specs.declared.types.Refused.TheVariants.{Text, Steps, Work}

abbrev pub number_and_place : Refused → Fault
number_and_place (Text r) = told r
number_and_place Steps = fault 5 0
number_and_place Work = fault 5 1

abbrev pub refused_text : Refused → List ℕ
refused_text r = codes "refused " ++ (decimal (number_and_place r).number ++ (codes " at " ++ decimal (number_and_place r).place))
