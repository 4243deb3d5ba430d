-- The words and numbers of a text, in their order: a list of lines in front order, without brackets.
use Rattle.std.specs.Prelude.{◌≡◌, ℕ, suc, Bool, true, false, cond, not, ◌&&◌, ◌||◌, List, [], ◌∷◌, ◌++◌, map, drop, codes, ◌==◌}
use Rattle.grammar.specs.Grammar.{alnum, Expr, half, box, two, move, one, called, Line, part, place, same_as, meet, model, two_word, one_word, signed}

abbrev pub in_tok : ℕ → Bool
in_tok b = alnum b || b == 45

-- the token that the bytes begin with
abbrev pub tok_at : List ℕ → List ℕ
tok_at [] = []
tok_at (b ∷ bs) = cond (in_tok b) (b ∷ tok_at bs) []

abbrev pub once_if : {A : Type 0} → Bool → A → List A
once_if true x = x ∷ []
once_if false x = []

-- the tokens that begin in the bytes, where t says whether the byte before is one of a token's
abbrev pub toks_from : Bool → List ℕ → List (List ℕ)
toks_from t [] = []
toks_from t (b ∷ bs) = once_if (not t && in_tok b) (tok_at (b ∷ bs)) ++ toks_from (in_tok b) bs

-- and where each begins
abbrev pub starts_from : Bool → ℕ → List ℕ → List ℕ
starts_from t i [] = []
starts_from t i (b ∷ bs) = once_if (not t && in_tok b) i ++ starts_from (in_tok b) (suc i) bs

abbrev pub code_e : Expr → List (List ℕ) → List (List ℕ)
code_e (half a b c d) r = codes "half" ∷ signed a ∷ signed b ∷ signed c ∷ signed d ∷ r
code_e (box a b c d e f) r = codes "box" ∷ signed a ∷ signed b ∷ signed c ∷ signed d ∷ signed e ∷ signed f ∷ r
code_e (two o e f) r = two_word o ∷ code_e e (code_e f r)
code_e (move x y z e) r = codes "move" ∷ signed x ∷ signed y ∷ signed z ∷ code_e e r
code_e (one o e) r = one_word o ∷ code_e e r
code_e (called n) r = n.0 ∷ r

abbrev pub code_l : Line → List (List ℕ) → List (List ℕ)
code_l (part n e) r = codes "part" ∷ n.0 ∷ code_e e r
code_l (place n x y z w) r = codes "place" ∷ n.0 ∷ signed x ∷ signed y ∷ signed z ∷ signed w ∷ r
code_l (same_as n m) r = codes "same" ∷ n.0 ∷ m.0 ∷ r
code_l (meet n m) r = codes "meet" ∷ n.0 ∷ m.0 ∷ r
code_l (model n) r = codes "model" ∷ n.0 ∷ r

abbrev pub code_of : List Line → List (List ℕ)
code_of [] = []
code_of (l ∷ ls) = code_l l (code_of ls)

-- p is where a token of the bytes begins, for each p, and no token is left out
abbrev pub Placed : List ℕ → List ℕ → Type 0
Placed bs ps = map (λ p. tok_at (drop p bs)) ps ≡ toks_from false bs
