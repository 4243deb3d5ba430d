-- Words as they lie in a text: each by its first byte.
use Rattle.std.specs.Prelude.{ℕ, suc, ◌<◌, cond, List, [], ◌∷◌, map, length, drop, Some, None, Option}
use Rattle.std.specs.List.{All}
use Rattle.std.specs.Option.{option_map}
use Rattle.grammar.specs.Grammar.{same}
use Rattle.grammar.specs.Tokens.{tok_at}

-- the words that begin at some bytes
abbrev pub words_at : List ℕ → List ℕ → List (List ℕ)
words_at text ps = map (λ p. tok_at (drop p text)) ps

-- bytes of a text
abbrev pub InText : List ℕ → List ℕ → Type 0
InText text ps = All (λ p. p < length text) ps

-- where a word comes first among some
abbrev pub rank : List (List ℕ) → List ℕ → Option ℕ
rank [] w = None
rank (n ∷ ns) w = cond (same w n) (Some 0) (option_map suc (rank ns w))
