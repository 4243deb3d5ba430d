-- A text is taken, or refused.
use Rattle.std.specs.Prelude.{◌≡◌, ℕ, ◌<◌, ◌≤◌, true, List, [], length, Ok, Err, Result}
use Rattle.grammar.specs.Grammar.{Line, print}
use Rattle.grammar.specs.Meaning.{fine}
use Rattle.grammar.specs.Faults.{FirstFault}
use Rattle.reader.specs.Scan.{told}
use Rattle.modeller.specs.declared.types.Refused.{Refused}
use Rattle.modeller.specs.declared.types.Refused.TheVariants.{Text, Steps, Work}
use Rattle.modeller.specs.declared.drawing.Drawing.{Drawing}
use Rattle.modeller.specs.Drawings.{steps_needed}

-- a text is taken exactly if it has no fault; else its first fault is told. Lent words that are too few come before the text.
abbrev pub Opened : Result Drawing Refused → List ℕ → ℕ → Type 0
Opened (Ok d) text lent = (d.text.now ≡ text) × (steps_needed (length text) ≤ lent) × ((ls : List Line) × (text ≡ print ls) × (fine [] ls ≡ true))
Opened (Err (Text r)) text lent = (steps_needed (length text) ≤ lent) × FirstFault text (told r)
Opened (Err Steps) text lent = lent < steps_needed (length text)
Opened (Err Work) text lent = ⊥
