-- The words of a text, one after the other: what is expected, and what was found.
use Rattle.std.specs.Prelude.{◌≡◌, ℕ, cond, List, [], ◌∷◌, ◌++◌, replicate, Some, None, Ok, Err, codes, Option, Result}
use Rattle.std.specs.Borrow.{Bor}
use Rattle.grammar.specs.Grammar.{same}
use Rattle.grammar.specs.Faults.{Fault, fault, Token, Role, new_name, used_name, shape, measure, scale, of_part, of_place, of_box, scan, looked, word_faults}
use Rattle.reader.specs.declared.types.Refusal.{Refusal}
use Rattle.reader.specs.declared.types.Refusal.TheVariants.{Grammar, Name, Limit, Range}
use Rattle.reader.specs.declared.types.Expect.{Expect}
use Rattle.reader.specs.declared.types.Expect.TheVariants.{AtLine, AtNewName, AtShape, InBox, AtUsedName, InPlace}
use Rattle.reader.specs.Names.{words_at, InText}

-- a refusal's number and place
abbrev pub told : Refusal → Fault
told (Grammar p) = fault 1 p
told (Name p) = fault 2 p
told (Limit p) = fault 3 p
told (Range p) = fault 4 p

-- what is expected: of a box, so many numbers; of a place, so many before the last
abbrev pub expected : Expect → List Role
expected AtLine = []
expected AtNewName = of_part
expected AtShape = shape ∷ []
expected (InBox k) = replicate k measure
expected AtUsedName = of_place
expected (InPlace k) = replicate k measure ++ scale ∷ []

-- the names after a word
abbrev pub with_name : Expect → List (List ℕ) → List ℕ → List (List ℕ)
with_name AtLine names w = names
with_name AtNewName names w = names ++ w ∷ []
with_name AtShape names w = names
with_name (InBox k) names w = names
with_name AtUsedName names w = names
with_name (InPlace k) names w = names

-- the names of parts, in their order
abbrev pub named_in : List Role → List Token → List (List ℕ)
named_in rs [] = []
named_in [] (t ∷ ts) = cond (same t.word (codes "part")) (named_in of_part ts) (cond (same t.word (codes "place")) (named_in of_place ts) [])
named_in (new_name ∷ rs) (t ∷ ts) = t.word ∷ named_in rs ts
named_in (used_name ∷ rs) (t ∷ ts) = named_in rs ts
named_in (shape ∷ rs) (t ∷ ts) = cond (same t.word (codes "box")) (named_in (of_box ++ rs) ts) []
named_in (measure ∷ rs) (t ∷ ts) = named_in rs ts
named_in (scale ∷ rs) (t ∷ ts) = named_in rs ts

-- what a word is found to be, whatever stands behind it: wrong; or right, and then what is expected behind it, if that is looked at
abbrev pub Looked : Result (Option Expect) Refusal → Expect → List (List ℕ) → Token → Type 0
Looked (Err r) e names t = (ts : List Token) → (rest : List Fault) × (scan names (expected e) (t ∷ ts) ≡ told r ∷ rest)
Looked (Ok (Some f)) e names t =
    (ts : List Token) →
    (scan names (expected e) (t ∷ ts) ≡ scan (with_name e names t.word) (expected f) ts) × (named_in (expected e) (t ∷ ts) ≡ with_name e [] t.word ++ named_in (expected f) ts)
Looked (Ok None) e names t = (ts : List Token) → (scan names (expected e) (t ∷ ts) ≡ []) × (named_in (expected e) (t ∷ ts) ≡ [])

-- what the words of bytes are found to be, where so many of them count as read: the first fault; or none, and then where the names of the parts begin
abbrev pub Checked : Result (Bor (List ℕ)) Refusal → ℕ → List ℕ → Type 0
Checked (Ok ps) read bs = (word_faults read bs ≡ []) × (words_at bs ps.now ≡ named_in [] (looked read bs)) × InText bs ps.now
Checked (Err r) read bs = (rest : List Fault) × (word_faults read bs ≡ told r ∷ rest)
