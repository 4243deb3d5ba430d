-- The values of numbers in a text.
use Rattle.std.specs.Prelude.{◌≡◌, ℕ, suc, ◌+◌, ◌-◌, ◌*◌, ◌<◌, ◌≤◌, cond, List, [], ◌∷◌, ℤ, pos, negsuc, Some, None, Option}
use Rattle.plane.specs.Limits.{offset_limit}
use Rattle.grammar.specs.Grammar.{digit}

-- numbers of a text are from -294,912 to 294,912
abbrev pub number_limit : ℕ
number_limit = offset_limit

-- and the w of a place is from 1 to 4,096
abbrev pub scale_most : ℕ
scale_most = 4096

-- what digits write, from v on, up to the first byte that is none
abbrev pub read_on : ℕ → List ℕ → ℕ
read_on v [] = v
read_on v (b ∷ bs) = cond (digit b) (read_on (v * 10 + (b - 48)) bs) v

abbrev pub size : ℤ → ℕ
size (pos n) = n
size (negsuc n) = suc n

-- numbers up to 294,912 are told, and others are none
abbrev pub Told : Option ℕ → ℕ → Type 0
Told (Some v) n = (v ≡ n) × (v ≤ number_limit)
Told None n = number_limit < n

abbrev pub Value : Option ℤ → ℤ → Type 0
Value (Some v) z = (v ≡ z) × (size z ≤ number_limit)
Value None z = number_limit < size z
