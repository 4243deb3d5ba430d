-- What holds of the texts as such.
use Rattle.std.specs.Prelude.{◌≡◌, ℕ, ◌≤◌, true, List, [], length}
use Rattle.grammar.specs.Grammar.{Line, print, Text, Refused}
use Rattle.grammar.specs.Faults.{Fault, Faulty, FirstFault, most_bytes}
use Rattle.grammar.specs.Meaning.{fine}

-- a text is one list of lines at most
abbrev pub OneList : Type 0
OneList = (ls ms : List Line) → print ls ≡ print ms → ls ≡ ms

-- bytes are a text or refused, and at one place
abbrev pub OnePlace : Type 0
OnePlace = (bs : List ℕ) (p q : ℕ) → Refused bs p → Refused bs q → p ≡ q

abbrev pub NotBoth : Type 0
NotBoth = (bs : List ℕ) (p : ℕ) → Text bs → Refused bs p → ⊥

-- lines that are fine are never refused
abbrev pub FineFaultless : Type 0
FineFaultless = (ls : List Line) → fine [] ls ≡ true → length (print ls) ≤ most_bytes → (f : Fault) → Faulty (print ls) f → ⊥

-- and one fault is told
abbrev pub OneFault : Type 0
OneFault = (bs : List ℕ) (f g : Fault) → FirstFault bs f → FirstFault bs g → f ≡ g
