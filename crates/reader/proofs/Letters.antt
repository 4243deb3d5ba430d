-- Words letter by letter.
use Rattle.std.proofs.Common.{◌≡◌, ℕ, ◌<◌, Bool, true, ◌&&◌, leb, List, [], ◌∷◌, length, refl, ap, ◌∙◌, sym, arith, le-leb}
use Rattle.std.specs.List.{list_all}
use Rattle.std.proofs.lemmas.Bool.{}
use Rattle.std.proofs.Math.Bool.{and-true}
use Rattle.grammar.specs.Grammar.{all, alnum, letter, is_word}

all_is : (p : ℕ → Bool) (w : List ℕ) → list_all p w ≡ all p w
all_is p [] = refl
all_is p (b ∷ w) = ap (λ (t : Bool). p b && t) (all_is p w)

-- a letter and up to 11 others
pub word_is : (w : List ℕ) (b : ℕ) (others : List ℕ) → w ≡ b ∷ others → letter b ≡ true → length others < 12 → list_all alnum others ≡ is_word w
word_is w b others e h l =
    let k : leb (length others) 11 ≡ true = le-leb _ _ (omega arith) in
    all_is alnum others
    ∙ sym (ap is_word e ∙ ap (λ (t : Bool). t && (all alnum others && leb (length others) 11)) h ∙ ap (λ (t : Bool). all alnum others && t) k ∙ and-true (all alnum others))
