-- What the reader says of a text.
use Rattle.std.specs.Prelude.{◌≡◌, ℕ, ⊤, ◌+◌, ◌*◌, ◌≤◌, true, false, List, [], ◌∷◌, length, take, Ok, Err, Result}
use Rattle.grammar.specs.Grammar.{Text, Refused, Line, print}
use Rattle.grammar.specs.Meaning.{fine}
use Rattle.grammar.specs.Faults.{Fault, word_faults, looked, most_bytes, Reaches, FirstFault}
use Rattle.grammar.specs.Tokens.{starts_from}
use Rattle.reader.specs.Names.{words_at}
use Rattle.reader.specs.declared.word_list.Found.{Found}
use Rattle.reader.specs.declared.types.Refusal.{Refusal}
use Rattle.reader.specs.declared.types.Counts.{Counts}
use Rattle.reader.specs.declared.types.Room.{Room}
use Rattle.reader.specs.Layout.{Taken, LaidIn}
use Rattle.reader.specs.Scan.{told, named_in}

-- what the grammar says of bytes: they are a text, or none goes on so at this byte
abbrev pub Says : Result ⊤ ℕ → List ℕ → Type 0
Says (Ok _) bs = Text bs
Says (Err p) bs = Refused bs p

-- how far the bytes that are read begin a text, and whether they are one
pub record Reached (r : Result ⊤ ℕ) (at : ℕ) (bs : List ℕ) : Type 0 where
  pub inside : at ≤ length bs
  pub reaches : Reaches (take most_bytes bs) at
  pub said : Says r (take most_bytes bs)

-- the words of bytes, as far as they are read: their first fault, or none, and then the words and the names of the parts
abbrev pub Words : Result Found Refusal → ℕ → List ℕ → Type 0
Words (Ok f) read bs =
    (word_faults read bs ≡ [])
    × (f.tokens ≡ words_at bs (starts_from false 0 bs))
    × (f.names ≡ named_in [] (looked read bs))
    × (length f.tokens ≤ length bs)
Words (Err r) read bs = (rest : List Fault) × (word_faults read bs ≡ told r ∷ rest)

-- what is wrong with bytes whose words have no fault, if anything is
abbrev pub Last : Result ⊤ Refusal → List ℕ → Type 0
Last (Err r) bs = FirstFault bs (told r)
Last (Ok _) bs = Text bs × (length bs ≤ most_bytes)

-- a text is taken, or its first fault is told
abbrev pub Examined : Result Found Refusal → List ℕ → Type 0
Examined (Ok f) bs = (t : Taken f.tokens f.names) × (bs ≡ print t.lines) × (length f.tokens ≤ length bs)
Examined (Err r) bs = FirstFault bs (told r)

-- a text that is taken lies in words; or its first fault is told
abbrev pub Read : Result Counts Refusal → List ℕ → List ℕ → List ℕ → Type 0
Read (Ok n) bs steps asked = (ls : List Line) × (bs ≡ print ls) × (fine [] ls ≡ true) × LaidIn ls n steps asked
Read (Err r) bs steps asked = FirstFault bs (told r)

-- lent words that are enough for a text
pub record Enough (text : List ℕ) (room : Room) : Type 0 where
  pub stack : 2 * length text + 15 ≤ length room.stack.now
  pub tokens : length text ≤ length room.tokens.now
  pub names : length text ≤ length room.names.now
  pub spots : length text ≤ length room.spots.now
