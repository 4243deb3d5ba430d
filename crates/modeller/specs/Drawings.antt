-- A text that is taken, and the words in which it lies.
use Rattle.std.specs.Prelude.{◌≡◌, ℕ, ◌+◌, ◌*◌, true, List, []}
use Rattle.grammar.specs.Grammar.{Line, print}
use Rattle.grammar.specs.Meaning.{fine}
use Rattle.reader.specs.declared.types.Layout.{Layout}
use Rattle.reader.specs.Layout.{Laid}

-- how many words are lent for the steps of a text of so many bytes
abbrev pub steps_needed : ℕ → ℕ
steps_needed n = 8 * n + 15

-- the words hold what the lines of the text say
abbrev pub Drawn : List ℕ → Layout → Type 0
Drawn text l = (ls : List Line) × (text ≡ print ls) × (fine [] ls ≡ true) × Laid ls l
