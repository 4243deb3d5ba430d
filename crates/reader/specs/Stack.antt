-- The stack of what is still expected, as it lies in a list of words: the last of them is what comes first.
use Rattle.std.specs.Prelude.{◌≡◌, ℕ, ◌+◌, ◌/◌, ◌%◌, Bool, true, false, cond, List, [], ◌∷◌, Option, ◌==◌, map, reverse, option_map, unwrap_or}
use Rattle.lent.specs.Lists.{Held}
use Rattle.grammar.specs.declared.types.Sep.TheVariants.{End}
use Rattle.reader.specs.declared.types.Number.TheVariants.{Start, Minus, Digits}
use Rattle.reader.specs.declared.types.Want.{Want}
use Rattle.reader.specs.declared.types.Want.TheVariants.{Lit, Number, Name, Shape, AfterP, AfterM}
use Rattle.grammar.specs.Machine.{Sym, lit, num, minus, digits, name, expr, after_p, after_m, sep_of, byte}

-- a word is what is expected, 256 times its number, and a byte: the one expected, or the one that ends it
abbrev pub want_at : ℕ → ℕ → Want
want_at tag b =
    let c = unwrap_or (sep_of b) End in
    cond (tag == 0) (Lit b)
    (cond (tag == 1) (Number Start c)
    (cond (tag == 2) (Number Minus c) (cond (tag == 3) (Number Digits c) (cond (tag == 4) (Name c) (cond (tag == 5) (Shape c) (cond (tag == 6) AfterP AfterM))))))

abbrev pub want_of : ℕ → Want
want_of x = want_at (x / 256) (x % 256)

abbrev pub word_of : Want → ℕ
word_of (Lit b) = b
word_of (Number Start c) = 256 + byte c
word_of (Number Minus c) = 512 + byte c
word_of (Number Digits c) = 768 + byte c
word_of (Name c) = 1024 + byte c
word_of (Shape c) = 1280 + byte c
word_of AfterP = 1536
word_of AfterM = 1792

-- what is expected, what comes first in front, and how much fits
pub record Pile : Type 0 where
  pub wants : List Want
  pub size : ℕ

-- as it lies in a list of words, the last of which comes first
abbrev pub pile_of : Held ℕ → Pile
pile_of words = record { wants = map want_of (reverse words.items); size = words.room }

-- with the bytes so far of the word that is being read
abbrev pub lift : Want → List ℕ → Sym
lift (Lit b) w = lit b
lift (Number Start c) w = num c
lift (Number Minus c) w = minus c
lift (Number Digits c) w = digits c
lift (Name c) w = name c w
lift (Shape c) w = expr c w
lift AfterP w = after_p
lift AfterM w = after_m

abbrev pub symbols : List Want → List ℕ → List Sym
symbols [] w = []
symbols (x ∷ xs) w = lift x w ∷ symbols xs []

-- whether a word is expected first
abbrev pub takes_word : List Want → Bool
takes_word [] = false
takes_word (Lit b ∷ xs) = false
takes_word (Number n c ∷ xs) = false
takes_word (Name c ∷ xs) = true
takes_word (Shape c ∷ xs) = true
takes_word (AfterP ∷ xs) = false
takes_word (AfterM ∷ xs) = false

-- what a byte did to the stack, where no word is being read behind it: o is the machine's next stack, if the byte can stand there
abbrev pub Goes : Option Unit → Option (List Sym) → Pile → Pile → Type 0
Goes r o old new = (o ≡ option_map (λ _. symbols new.wants []) r) × (new.size ≡ old.size)
