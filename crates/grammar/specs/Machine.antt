-- The reader, byte by byte, over a stack of what is still expected. Each symbol but `lit` has the byte that ends it.
-- The empty stack stands where a line may begin or the text may end.
use Rattle.std.specs.Prelude.{◌≡◌, ℕ, true, cond, List, [], ◌∷◌, ◌++◌, Option, Some, None, codes, ◌==◌}
use Rattle.grammar.specs.declared.types.Sep.{Sep}
use Rattle.grammar.specs.declared.types.Sep.TheVariants.{Space, Comma, Close, End}
use Rattle.grammar.specs.declared.types.Kind.{Kind}
use Rattle.grammar.specs.declared.types.Kind.TheVariants.{HalfWord, BoxWord, TwoWord, MoveWord, OneWord, NameWord, NoWord}
use Rattle.grammar.specs.Grammar.{is_word, is_name, digit, digit1, same, one_of}

abbrev pub byte : Sep → ℕ
byte Space = 32
byte Comma = 44
byte Close = 41
byte End = 10

-- what a byte ends, if it ends anything
abbrev pub sep_of : ℕ → Option Sep
sep_of b = cond (b == 32) (Some Space) (cond (b == 44) (Some Comma) (cond (b == 41) (Some Close) (cond (b == 10) (Some End) None)))

-- `name c w` and `expr c w` have come as far as the bytes w of a word; `after_p` and `after_m` are lines behind such a byte
pub data Sym : Type 0 where
  lit : ℕ → Sym
  num minus digits : Sep → Sym
  name expr : Sep → List ℕ → Sym
  after_p after_m : Sym

abbrev pub two_words : List (List ℕ)
two_words = codes "both" ∷ codes "either" ∷ codes "without" ∷ []

abbrev pub one_words : List (List ℕ)
one_words = codes "mirror" ∷ codes "swap" ∷ codes "turn" ∷ []

abbrev pub kind_of : List ℕ → Kind
kind_of w =
    cond (same w (codes "half")) HalfWord
    (cond (same w (codes "box")) BoxWord
    (cond (one_of two_words w) TwoWord
    (cond (same w (codes "move")) MoveWord
    (cond (one_of one_words w) OneWord
    (cond (is_name w) NameWord NoWord)))))

-- the byte behind a whole word where a shape is expected
abbrev pub behind : Kind → Sep → ℕ → List Sym → Option (List Sym)
behind HalfWord c b s = cond (b == 32) (Some (num Space ∷ num Space ∷ num Space ∷ num c ∷ s)) None
behind BoxWord c b s = cond (b == 32) (Some (num Space ∷ num Space ∷ num Space ∷ num Space ∷ num Space ∷ num c ∷ s)) None
behind TwoWord c b s = cond (b == 40) (Some (expr Comma [] ∷ lit 32 ∷ expr Close [] ∷ lit (byte c) ∷ s)) None
behind MoveWord c b s = cond (b == 32) (Some (num Space ∷ num Space ∷ num Space ∷ lit 40 ∷ expr Close [] ∷ lit (byte c) ∷ s)) None
behind OneWord c b s = cond (b == 40) (Some (expr Close [] ∷ lit (byte c) ∷ s)) None
behind NameWord c b s = cond (b == byte c) (Some s) None
behind NoWord c b s = None

abbrev pub step : List Sym → ℕ → Option (List Sym)
step [] b =
    cond (b == 112) (Some (after_p ∷ []))
    (cond (b == 109) (Some (after_m ∷ []))
    (cond (b == 115) (Some (lit 97 ∷ lit 109 ∷ lit 101 ∷ lit 32 ∷ name Space [] ∷ name End [] ∷ [])) None))
step (after_p ∷ s) b =
    cond (b == 97) (Some (lit 114 ∷ lit 116 ∷ lit 32 ∷ name Space [] ∷ lit 61 ∷ lit 32 ∷ expr End [] ∷ s))
    (cond (b == 108) (Some (lit 97 ∷ lit 99 ∷ lit 101 ∷ lit 32 ∷ name Space [] ∷ num Space ∷ num Space ∷ num Space ∷ num End ∷ s)) None)
step (after_m ∷ s) b =
    cond (b == 101) (Some (lit 101 ∷ lit 116 ∷ lit 32 ∷ name Space [] ∷ name End [] ∷ s))
    (cond (b == 111) (Some (lit 100 ∷ lit 101 ∷ lit 108 ∷ lit 32 ∷ name End [] ∷ s)) None)
step (lit d ∷ s) b = cond (b == d) (Some s) None
step (num c ∷ s) b =
    cond (b == 45) (Some (minus c ∷ s)) (cond (b == 48) (Some (lit (byte c) ∷ s)) (cond (digit1 b) (Some (digits c ∷ s)) None))
step (minus c ∷ s) b = cond (digit1 b) (Some (digits c ∷ s)) None
step (digits c ∷ s) b = cond (digit b) (Some (digits c ∷ s)) (cond (b == byte c) (Some s) None)
step (name c w ∷ s) b = cond (is_word (w ++ b ∷ [])) (Some (name c (w ++ b ∷ []) ∷ s)) (cond (is_name w) (cond (b == byte c) (Some s) None) None)
step (expr c w ∷ s) b = cond (is_word (w ++ b ∷ [])) (Some (expr c (w ++ b ∷ []) ∷ s)) (behind (kind_of w) c b s)

-- the stack after the bytes, if each is taken
abbrev pub run : Option (List Sym) → List ℕ → Option (List Sym)
run o [] = o
run None (b ∷ bs) = None
run (Some s) (b ∷ bs) = run (step s b) bs

-- the bytes so far of a word, or none
abbrev pub Good : List ℕ → Type 0
Good [] = Unit {0}
Good (b ∷ w) = is_word (b ∷ w) ≡ true
