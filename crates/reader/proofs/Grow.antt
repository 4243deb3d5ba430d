-- How deep the stack can get.
use Rattle.std.proofs.Common.{◌≡◌, ℕ, suc, ◌+◌, ◌*◌, ◌≤◌, eqb, List, [], ◌∷◌, ◌++◌, length, sym, refl, ap, subst, arith, Option, Some, None}
use Rattle.std.proofs.lemmas.Bool.{cond_both}
use Rattle.grammar.specs.declared.types.Sep.{Sep}
use Rattle.grammar.specs.declared.types.Kind.{Kind}
use Rattle.grammar.specs.declared.types.Kind.TheVariants.{HalfWord, BoxWord, TwoWord, MoveWord, OneWord, NameWord, NoWord}
use Rattle.reader.specs.declared.types.Want.{Want}
use Rattle.reader.specs.declared.types.Want.TheVariants.{Lit, Number, Name, Shape, AfterP, AfterM}
use Rattle.reader.specs.declared.types.Number.TheVariants.{Start, Minus, Digits}
use Rattle.grammar.specs.Grammar.{is_word, is_name, digit, digit1, Two, both, either, without, One, mirror, swap, turn, two_word, one_word}
use Rattle.grammar.specs.Machine.{Sym, lit, num, minus, digits, name, expr, after_p, after_m, byte, kind_of, behind, step}
use Rattle.reader.specs.Stack.{symbols, lift}
use Rattle.grammar.proofs.Exact.{Tells, tells, Sound}

-- of two measures of the stack, one bounds the next stack: nine, or this one with two for each byte of the word and two more
abbrev pub Size : ℕ → ℕ → Option (List Sym) → Type 0
Size n m None = Unit {0}
Size n m (Some s) = 9 ≤ m → n ≤ m → length s ≤ m

abbrev pub reach : List Sym → ℕ
reach [] = 0
reach (lit d ∷ s) = suc (length s)
reach (num c ∷ s) = suc (length s)
reach (minus c ∷ s) = suc (length s)
reach (digits c ∷ s) = suc (length s)
reach (after_p ∷ s) = 0
reach (after_m ∷ s) = 0
reach (name c w ∷ s) = suc (length s)
reach (expr c w ∷ s) = suc (length s) + 2 * length w

two_long : (o : Two) → 3 ≤ length (two_word o)
two_long both = omega arith
two_long either = omega arith
two_long without = omega arith

one_long : (o : One) → 3 ≤ length (one_word o)
one_long mirror = omega arith
one_long swap = omega arith
one_long turn = omega arith

grow_end : (k : Kind) (c : Sep) (w : List ℕ) (b : ℕ) (s : List Sym) (m : ℕ) → Tells k w → Size (suc (length s) + 2 * length w) m (behind k c b s)
grow_end HalfWord c w b s m h =
    let l : length w ≡ 4 = ap length h in
    cond_both (eqb b 32) _ _ (Size (suc (length s) + 2 * length w) m) (λ _ p q. omega arith) (λ _. tt)
grow_end BoxWord c w b s m h =
    let l : length w ≡ 3 = ap length h in
    cond_both (eqb b 32) _ _ (Size (suc (length s) + 2 * length w) m) (λ _ p q. omega arith) (λ _. tt)
grow_end TwoWord c w b s m h =
    let l : 3 ≤ length w = subst (λ (x : List ℕ). 3 ≤ length x) (sym h.1) (two_long h.0) in
    cond_both (eqb b 40) _ _ (Size (suc (length s) + 2 * length w) m) (λ _ p q. omega arith) (λ _. tt)
grow_end MoveWord c w b s m h =
    let l : length w ≡ 4 = ap length h in
    cond_both (eqb b 32) _ _ (Size (suc (length s) + 2 * length w) m) (λ _ p q. omega arith) (λ _. tt)
grow_end OneWord c w b s m h =
    let l : 3 ≤ length w = subst (λ (x : List ℕ). 3 ≤ length x) (sym h.1) (one_long h.0) in
    cond_both (eqb b 40) _ _ (Size (suc (length s) + 2 * length w) m) (λ _ p q. omega arith) (λ _. tt)
grow_end NameWord c w b s m h = cond_both (eqb b (byte c)) _ _ (Size (suc (length s) + 2 * length w) m) (λ _ p q. omega arith) (λ _. tt)
grow_end NoWord c w b s m h = tt

pub grow : (s : List Sym) (b m : ℕ) → Sound s → Size (reach s) m (step s b)
grow [] b m h =
    cond_both (eqb b 112) _ _ (Size 0 m) (λ _ p q. omega arith)
    (λ _. cond_both (eqb b 109) _ _ (Size 0 m) (λ _ p q. omega arith) (λ _. cond_both (eqb b 115) _ _ (Size 0 m) (λ _ p q. omega arith) (λ _. tt)))
grow (lit d ∷ s) b m h = cond_both (eqb b d) _ _ (Size (suc (length s)) m) (λ _ p q. omega arith) (λ _. tt)
grow (num c ∷ s) b m h =
    cond_both (eqb b 45) _ _ (Size (suc (length s)) m) (λ _ p q. omega arith)
    (λ _. cond_both (eqb b 48) _ _ (Size (suc (length s)) m) (λ _ p q. omega arith) (λ _. cond_both (digit1 b) _ _ (Size (suc (length s)) m) (λ _ p q. omega arith) (λ _. tt)))
grow (minus c ∷ s) b m h = cond_both (digit1 b) _ _ (Size (suc (length s)) m) (λ _ p q. omega arith) (λ _. tt)
grow (digits c ∷ s) b m h =
    cond_both (digit b) _ _ (Size (suc (length s)) m) (λ _ p q. omega arith)
    (λ _. cond_both (eqb b (byte c)) _ _ (Size (suc (length s)) m) (λ _ p q. omega arith) (λ _. tt))
grow (after_p ∷ s) b m h =
    let l : length s ≡ 0 = ap length h in
    cond_both (eqb b 97) _ _ (Size 0 m) (λ _ p q. omega arith) (λ _. cond_both (eqb b 108) _ _ (Size 0 m) (λ _ p q. omega arith) (λ _. tt))
grow (after_m ∷ s) b m h =
    let l : length s ≡ 0 = ap length h in
    cond_both (eqb b 101) _ _ (Size 0 m) (λ _ p q. omega arith) (λ _. cond_both (eqb b 111) _ _ (Size 0 m) (λ _ p q. omega arith) (λ _. tt))
grow (name c w ∷ s) b m h =
    cond_both (is_word (w ++ b ∷ [])) _ _ (Size (suc (length s)) m) (λ _ p q. omega arith)
    (λ _. cond_both (is_name w) _ _ (Size (suc (length s)) m) (λ _. cond_both (eqb b (byte c)) _ _ (Size (suc (length s)) m) (λ _ p q. omega arith) (λ _. tt)) (λ _. tt))
grow (expr c w ∷ s) b m h =
    cond_both (is_word (w ++ b ∷ [])) _ _ (Size (suc (length s) + 2 * length w) m) (λ _ p q. omega arith) (λ _. grow_end (kind_of w) c w b s m (tells w))

-- on what is expected
pub length_symbols : (xs : List Want) (w : List ℕ) → length (symbols xs w) ≡ length xs
length_symbols [] w = refl
length_symbols (x ∷ xs) w = ap suc (length_symbols xs [])

reach-lift : (x : Want) (w : List ℕ) (s : List Sym) → reach (lift x w ∷ s) ≤ suc (length s) + 2 * length w
reach-lift (Lit b) w s = omega arith
reach-lift (Number Start c) w s = omega arith
reach-lift (Number Minus c) w s = omega arith
reach-lift (Number Digits c) w s = omega arith
reach-lift (Name c) w s = omega arith
reach-lift (Shape c) w s = omega arith
reach-lift AfterP w s = omega arith
reach-lift AfterM w s = omega arith

reach_symbols : (xs : List Want) (w : List ℕ) → reach (symbols xs w) ≤ length xs + 2 * length w
reach_symbols [] w = omega arith
reach_symbols (x ∷ xs) w = omega (arith, reach-lift x w (symbols xs []), length_symbols xs [])

-- how much is expected next
pub deeper : (xs ys : List Want) (w : List ℕ) (b m : ℕ) → Sound (symbols xs w) → step (symbols xs w) b ≡ Some (symbols ys []) → 9 ≤ m → length xs + 2 * length w ≤ m → length ys ≤ m
deeper xs ys w b m h e p q =
    let k : Size (reach (symbols xs w)) m (Some (symbols ys [])) = subst (Size (reach (symbols xs w)) m) e (grow (symbols xs w) b m h) in
    omega (arith, k p (omega (arith, reach_symbols xs w)), length_symbols ys [])
