-- How a text that is taken lies in words: the steps of its parts, one part behind the other, and its questions, six words each.
use Rattle.std.specs.Prelude.{◌≡◌, ℕ, ◌+◌, ◌*◌, ◌≤◌, true, cond, List, [], ◌∷◌, ◌++◌, length, take, unsigned_abs}
use Rattle.std.specs.Int.{w64, cast_unsigned}
use Rattle.solid.specs.Steps.{words}
use Rattle.grammar.specs.Grammar.{Name, Expr, Line, part, place, same_as, meet, model, same}
use Rattle.grammar.specs.Tokens.{code_of}
use Rattle.grammar.specs.Meaning.{Part, says, questions, fine}
use Rattle.reader.specs.declared.types.Counts.{Counts}
use Rattle.reader.specs.declared.types.Layout.{Layout}

-- the parts after one more
abbrev pub with_part : List Part → Name → Expr → List Part
with_part ps n e = ps ++ record { name = n.0; shape = says ps e } ∷ []

-- the names of the parts, in their order
abbrev pub part_names : List Line → List (List ℕ)
part_names [] = []
part_names (part n e ∷ ls) = n.0 ∷ part_names ls
part_names (place n x y z w ∷ ls) = part_names ls
part_names (same_as n m ∷ ls) = part_names ls
part_names (meet n m ∷ ls) = part_names ls
part_names (model n ∷ ls) = part_names ls

-- the steps of all parts
abbrev pub part_steps : List Part → List Line → List ℕ
part_steps ps [] = []
part_steps ps (part n e ∷ ls) = words (says ps e) ++ part_steps (with_part ps n e) ls
part_steps ps (place n x y z w ∷ ls) = part_steps ps ls
part_steps ps (same_as n m ∷ ls) = part_steps ps ls
part_steps ps (meet n m ∷ ls) = part_steps ps ls
part_steps ps (model n ∷ ls) = part_steps ps ls

-- where the steps of the part of a name begin, and how many they are; `u` steps are before those of the first part
abbrev pub spot : ℕ → List Part → List ℕ → List ℕ
spot u [] w = 0 ∷ 0 ∷ []
spot u (p ∷ ps) w = cond (same w p.name) (u ∷ length (words p.shape) ∷ []) (spot (u + length (words p.shape)) ps w)

-- the questions: the part's spot, and the place
abbrev pub asked_words : List Part → List Line → List ℕ
asked_words ps [] = []
asked_words ps (part n e ∷ ls) = asked_words (with_part ps n e) ls
asked_words ps (place n x y z w ∷ ls) = spot 0 ps n.0 ++ (cast_unsigned w64 x ∷ cast_unsigned w64 y ∷ cast_unsigned w64 z ∷ unsigned_abs w ∷ asked_words ps ls)
asked_words ps (same_as n m ∷ ls) = asked_words ps ls
asked_words ps (meet n m ∷ ls) = asked_words ps ls
asked_words ps (model n ∷ ls) = asked_words ps ls

-- the words of lines that are taken, and the names of their parts
pub record Taken (words names : List (List ℕ)) : Type 0 where
  pub lines : List Line
  pub sound : fine [] lines ≡ true
  pub read : words ≡ code_of lines
  pub named : names ≡ part_names lines

-- the words hold what the lines say
pub record Laid (ls : List Line) (l : Layout) : Type 0 where
  pub steps_are : l.steps.now ≡ part_steps [] ls
  pub asked_are : l.asked.now ≡ asked_words [] ls
  pub count : length l.asked.now ≡ 6 * length (questions [] ls)

-- the words at the front of what is lent, as many as are counted, hold what the lines say
pub record LaidIn (ls : List Line) (n : Counts) (steps asked : List ℕ) : Type 0 where
  pub steps_are : take n.used steps ≡ part_steps [] ls
  pub used_fits : n.used ≤ length steps
  pub asked_are : take (6 * n.asked) asked ≡ asked_words [] ls
  pub asked_fits : 6 * n.asked ≤ length asked
  pub count : n.asked ≡ length (questions [] ls)
