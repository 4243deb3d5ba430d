-- What is wrong with the bytes of a text, and which fault is told: the one with the smallest place, and of two at one place the one
-- with the smaller number.
--   1  the first byte at which no text goes on so, or a word that is not taken yet
--   2  a name that is twice, or isn't there yet
--   3  too many bytes or parts
--   4  a number out of range
use Rattle.std.specs.Prelude.{◌≡◌, ℕ, ◌+◌, ◌-◌, ◌<◌, ◌≤◌, Bool, true, false, cond, not, ◌&&◌, ◌||◌, ◌⊎◌, List, [], ◌∷◌, ◌++◌, map, length, take, drop, codes, filter, ◌==◌, nat_le, nat_lt}
use Rattle.std.specs.List.{ContainsAt}
use Rattle.grammar.specs.Grammar.{same, one_of, is_name, Viable, Refused}
use Rattle.grammar.specs.Tokens.{tok_at, starts_from}
use Rattle.grammar.specs.Values.{read_on, number_limit, scale_most}

pub record Fault : Type 0 where
  pub number : ℕ
  pub place : ℕ

abbrev pub fault : ℕ → ℕ → Fault
fault n p = record { number = n; place = p }

-- a word or number, and its first byte
pub record Token : Type 0 where
  pub start : ℕ
  pub word : List ℕ

abbrev pub token : ℕ → List ℕ → Token
token p w = record { start = p; word = w }

abbrev pub tokens : List ℕ → List Token
tokens bs = map (λ p. token p (tok_at (drop p bs))) (starts_from false 0 bs)

-- what a word is, by its place; where none is expected, a line begins
pub data Role : Type 0 where
  new_name used_name shape measure scale : Role

abbrev pub of_part : List Role
of_part = new_name ∷ shape ∷ []

abbrev pub of_place : List Role
of_place = used_name ∷ measure ∷ measure ∷ measure ∷ scale ∷ []

abbrev pub of_box : List Role
of_box = measure ∷ measure ∷ measure ∷ measure ∷ measure ∷ measure ∷ []

-- words that begin a line, and are not taken yet
abbrev pub later : List (List ℕ)
later = codes "same" ∷ codes "meet" ∷ codes "model" ∷ []

-- the size of a number
abbrev pub amount : List ℕ → ℕ
amount [] = 0
amount (b ∷ bs) = cond (b == 45) (read_on 0 bs) (read_on 0 (b ∷ bs))

-- a number below 0
abbrev pub negative : List ℕ → Bool
negative [] = false
negative (b ∷ []) = false
negative (b ∷ (d ∷ bs)) = b == 45

abbrev pub beyond : List ℕ → Bool
beyond w = nat_lt number_limit (amount w)

-- a w that is not from 1 to the most; a `-` that nothing follows is none
abbrev pub no_scale : List ℕ → Bool
no_scale w = negative w || (not (same w (codes "-")) && (amount w == 0 || nat_lt scale_most (amount w)))

abbrev pub most_parts : ℕ
most_parts = 100

-- a fault, if there is one
abbrev pub if_so : Bool → ℕ → Token → List Fault
if_so true n t = fault n t.start ∷ []
if_so false n t = []

-- the faults of words, each as it stands, behind parts of some names, and then what is expected.
-- What stands behind a word that is not taken yet is not looked at.
abbrev pub scan : List (List ℕ) → List Role → List Token → List Fault
scan names rs [] = []
scan names [] (t ∷ ts) =
    cond (same t.word (codes "part")) (if_so (nat_le most_parts (length names)) 3 t ++ scan names of_part ts)
    (cond (same t.word (codes "place")) (scan names of_place ts) (if_so (one_of later t.word) 1 t))
scan names (new_name ∷ rs) (t ∷ ts) = if_so (is_name t.word && one_of names t.word) 2 t ++ scan (names ++ t.word ∷ []) rs ts
scan names (used_name ∷ rs) (t ∷ ts) = if_so (is_name t.word && not (one_of names t.word)) 2 t ++ scan names rs ts
scan names (shape ∷ rs) (t ∷ ts) = cond (same t.word (codes "box")) (scan names (of_box ++ rs) ts) (if_so true 1 t)
scan names (measure ∷ rs) (t ∷ ts) = if_so (beyond t.word) 4 t ++ scan names rs ts
scan names (scale ∷ rs) (t ∷ ts) = if_so (no_scale t.word) 4 t ++ scan names rs ts

-- the words of bytes of which so many count as read: a word that ends behind them is not looked at
abbrev pub looked : ℕ → List ℕ → List Token
looked read bs = filter (λ t. nat_le (t.start + length t.word) read) (tokens bs)

-- the faults in them
abbrev pub word_faults : ℕ → List ℕ → List Fault
word_faults read bs = scan [] [] (looked read bs)

-- how many bytes of a text are read
abbrev pub most_bytes : ℕ
most_bytes = 1048576

-- how far the bytes begin a text
pub record Reaches (bs : List ℕ) (p : ℕ) : Type 0 where
  pub inside : p ≤ length bs
  pub so_far : Viable (take p bs)
  pub no_more : p < length bs → Viable (take (p + 1) bs) → ⊥

-- a word that runs into bytes that are not read is not looked at
abbrev pub seen : List ℕ → ℕ → ℕ
seen bs p = cond (nat_lt most_bytes (length bs) && p == most_bytes) (p - 1) p

-- the faults of bytes; `p` is how far they begin a text
pub data Faulty (bs : List ℕ) (f : Fault) : Type 0 where
  stuck : (p : ℕ) → f ≡ fault 1 p → Refused (take most_bytes bs) p → (length bs ≤ most_bytes) ⊎ (p < most_bytes) → Faulty bs f
  long : f ≡ fault 3 most_bytes → most_bytes < length bs → Faulty bs f
  wrong : (p : ℕ) → Reaches (take most_bytes bs) p → ContainsAt (word_faults (seen bs p) (take p bs)) f → Faulty bs f

-- one fault is told rather than another
abbrev pub Before : Fault → Fault → Type 0
Before f g = (f.place < g.place) ⊎ ((f.place ≡ g.place) × (f.number ≤ g.number))

-- the fault that is told
pub record FirstFault (bs : List ℕ) (f : Fault) : Type 0 where
  pub so : Faulty bs f
  pub first : (g : Fault) → Faulty bs g → Before f g
