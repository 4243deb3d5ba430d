-- What is told to a question.
use Rattle.std.specs.Prelude.{◌≡◌, ℕ, ◌+◌, ◌*◌, ◌<◌, ◌≤◌, List, [], length, take, drop, Some, None, Ok, Err, Option, Result, slice_index, slice_index_or}
use Rattle.std.specs.Int.{w64, cast_signed}
use Rattle.plane.specs.declared.types.Place.{Place as Spot}
use Rattle.plane.specs.Limits.{SmallPlace}
use Rattle.solid.specs.Steps.{Coded}
use Rattle.solid.specs.Shapes.{most_planes}
use Rattle.solid.specs.Examples.{told}
use Rattle.grammar.specs.Grammar.{Line, print}
use Rattle.grammar.specs.Meaning.{Question, where_is, are_same, do_meet, model_of, questions}
use Rattle.modeller.specs.declared.types.Refused.{Refused}
use Rattle.modeller.specs.declared.types.Refused.TheVariants.{Work}
use Rattle.modeller.specs.declared.types.Reply.{Reply}
use Rattle.modeller.specs.declared.types.Reply.TheVariants.{Place}

-- how many words are lent for the work
abbrev pub work_needed : ℕ
work_needed = 2 * most_planes

-- the reply to a question
abbrev pub Answers : Question → Reply → Type 0
Answers (where_is s q) r = r ≡ Place (told s q)
Answers (are_same s t) r = ⊥
Answers (do_meet s t) r = ⊥
Answers (model_of s) r = ⊥

-- where the words for the work are too few, that is told; else the k-th question is answered, if there is one
pub record Replied (text : List ℕ) (work k : ℕ) (r : Result (Option Reply) Refused) : Type 0 where
  pub few : work < work_needed → r ≡ Err Work
  pub none : (ls : List Line) → work_needed ≤ work → text ≡ print ls → length (questions [] ls) ≤ k → r ≡ Ok None
  pub some : (ls : List Line) (q : Question) → work_needed ≤ work → text ≡ print ls → k < length (questions [] ls) → slice_index_or (questions [] ls) k q ≡ q →
      (a : Reply) × (r ≡ Ok (Some a)) × Answers q a

-- the place of the k-th question, and where its part's steps are
abbrev pub place_in : List ℕ → ℕ → Spot
place_in asked k = record {
  x = cast_signed w64 (slice_index asked (6 * k + 2));
  y = cast_signed w64 (slice_index asked (6 * k + 3));
  z = cast_signed w64 (slice_index asked (6 * k + 4));
  w = slice_index asked (6 * k + 5);
}

abbrev pub steps_in : List ℕ → List ℕ → ℕ → List ℕ
steps_in steps asked k = take (slice_index asked (6 * k + 1)) (drop (slice_index asked (6 * k)) steps)

-- the words hold a k-th question
pub record Ready (steps asked : List ℕ) (k : ℕ) : Type 0 where
  pub inside : 6 * k + 6 ≤ length asked
  pub steps_inside : slice_index asked (6 * k) + slice_index asked (6 * k + 1) ≤ length steps
  pub coded : Coded (steps_in steps asked k)
  pub small : SmallPlace (place_in asked k)
  pub few : slice_index asked (6 * k + 1) ≤ work_needed
