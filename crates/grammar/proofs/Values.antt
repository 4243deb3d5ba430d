-- What digits write.
use Rattle.std.proofs.Common.{◌≡◌, ℕ, ◌+◌, ◌-◌, ◌*◌, ◌<◌, ◌≤◌, Bool, true, false, cond, eqb, List, [], ◌∷◌, ◌++◌, length, get_or, drop, sym, refl, ap, ◌∙◌, append-nil, arith}
use Rattle.std.specs.Int.Digits.{number_from_digits_after}
use Rattle.std.proofs.lemmas.List.{drop_more}
use Rattle.std.proofs.lemmas.Bool.{and_parts, cond-true, cond-false, or_parts}
use Rattle.grammar.specs.Grammar.{digit, letter, alnum, all, decimal}
use Rattle.grammar.specs.Tokens.{in_tok}
use Rattle.grammar.specs.Values.{read_on}
use Rattle.grammar.proofs.Numbers.{decimal_value, decimal_digits, downs}

pub read_ge : (v : ℕ) (xs : List ℕ) → v ≤ read_on v xs
read_ge v [] = omega arith
read_ge v (b ∷ xs) = go (digit b) (read_ge (v * 10 + (b - 48)) xs)
  where
    go : (t : Bool) → v * 10 + (b - 48) ≤ read_on (v * 10 + (b - 48)) xs → v ≤ cond t (read_on (v * 10 + (b - 48)) xs) v
    go true h = omega arith
    go false h = omega arith

-- what ends a token
abbrev Ends : List ℕ → Type 0
Ends [] = Unit {0}
Ends (d ∷ r) = in_tok d ≡ false

no_digit : (d : ℕ) → in_tok d ≡ false → digit d ≡ false
no_digit d h = (or_parts (letter d) (digit d) (or_parts (alnum d) (eqb d 45) h).0).1

read_run : (ds r : List ℕ) (v : ℕ) → all digit ds ≡ true → Ends r → read_on v (ds ++ r) ≡ number_from_digits_after 10 v (downs ds)
read_run [] [] v h e = refl
read_run [] (d ∷ r) v h e = cond-false (digit d) _ _ (no_digit d e)
read_run (b ∷ ds) r v h e =
    let p = and_parts (digit b) (all digit ds) h in
    cond-true (digit b) _ _ p.0 ∙ read_run ds r (v * 10 + (b - 48)) p.1 e

pub read_digits : (n : ℕ) → read_on 0 (decimal n) ≡ n
read_digits n = ap (read_on 0) (sym (append-nil (decimal n))) ∙ read_run (decimal n) [] 0 (decimal_digits n) tt ∙ decimal_value n

-- one digit more
pub read_more : (xs : List ℕ) (i v : ℕ) → i < length xs → digit (get_or xs i 0) ≡ true → read_on (v * 10 + (get_or xs i 0 - 48)) (drop (i + 1) xs) ≡ read_on v (drop i xs)
read_more xs i v h d = sym (ap (read_on v) (drop_more xs i 0 h) ∙ cond-true (digit (get_or xs i 0)) _ _ d)
