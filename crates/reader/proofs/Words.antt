-- Words, as the code tells them.
use Rattle.std.proofs.Common.{◌≡◌, ℕ, zero, suc, ◌<◌, Bool, true, false, cond, ◌&&◌, ◌==◌, leb, ◌⊎◌, List, [], ◌∷◌, ◌++◌, IsUtf8, IsAscii, sym, refl, ◌∙◌, subst, inl, inr, arith, Option, Some, None, drop, slice_get, option_map, rules}
use Rattle.std.proofs.lemmas.Str.{IsUtf8-from_ascii}
use Rattle.std.proofs.lemmas.Bool.{both_ways, and_parts, and_from, or_cases, or_from, leb-true, not_from_false, cases_Bool, cond-true, cond-false}
use Rattle.std.specs.Bool.{then_some}
use denote.Enum.Bare.{sameb, same_true, same_false}
use Rattle.grammar.specs.contracts.types.Kind.{the_type}
use Rattle.grammar.specs.declared.types.Kind.{Kind}
use Rattle.grammar.specs.declared.types.Kind.TheVariants.{NameWord}
use Rattle.grammar.specs.Grammar.{is_word, is_name, alnum, letter, digit, all, same, one_of, reserved}
use Rattle.grammar.specs.declared.types.Sep.{Sep}
use Rattle.grammar.specs.Machine.{kind_of, Good, Sym, step, behind, byte}
use Rattle.reader.specs.declared.types.Want.{Want}
use Rattle.reader.specs.declared.types.Want.TheVariants.{Lit, Number, Name, Shape, AfterP, AfterM}
use Rattle.reader.specs.Stack.{symbols, takes_word}
use Rattle.grammar.proofs.Exact.{alnum_good, same_eq, kind_name, Tells, tells}

abbrev pub NoneOf : List (List ℕ) → List ℕ → Type 0
NoneOf [] w = Unit {0}
NoneOf (k ∷ ks) w = (w ≡ k → ⊥) × NoneOf ks w

none_false : (ks : List (List ℕ)) (w : List ℕ) → NoneOf ks w → one_of ks w ≡ false
none_false [] w h = refl
none_false (k ∷ ks) w h = or_from (same w k) (one_of ks w) (go (cases_Bool (same w k))) (none_false ks w h.1)
  where
    go : (same w k ≡ true) ⊎ (same w k ≡ false) → same w k ≡ false
    go (inl e) = absurd (h.0 (same_eq w k e))
    go (inr e) = e

pub name_kind : (w : List ℕ) → Good w → (w ≡ [] → ⊥) → NoneOf reserved w → kind_of w ≡ NameWord
name_kind [] g e h = absurd (e refl)
name_kind (b ∷ w) g e h = kind_name (b ∷ w) (and_from (is_word (b ∷ w)) _ g (not_from_false _ (none_false reserved (b ∷ w) h)))

alnum_small : (b : ℕ) → alnum b ≡ true → b < 128
alnum_small b h = go (or_cases (letter b) (digit b) h)
  where
    go : (letter b ≡ true) ⊎ (digit b ≡ true) → b < 128
    go (inl e) = omega (arith, leb-true b 122 (and_parts (leb 97 b) (leb b 122) e).1)
    go (inr e) = omega (arith, leb-true b 57 (and_parts (leb 48 b) (leb b 57) e).1)

ascii_all : (w : List ℕ) → all alnum w ≡ true → IsAscii w
ascii_all [] h i = omega arith
ascii_all (b ∷ w) h zero = alnum_small b (and_parts (alnum b) (all alnum w) h).0
ascii_all (b ∷ w) h (suc i) = ascii_all w (and_parts (alnum b) (all alnum w) h).1 i

pub good_utf8 : (w : List ℕ) → Good w → IsUtf8 w
good_utf8 w g = IsUtf8-from_ascii w (ascii_all w (alnum_good w g))

-- names by their kind
pub kind_is_name : (w : List ℕ) → NameWord ≡ kind_of w → is_name w ≡ true
kind_is_name w e = subst (λ (k : Kind). Tells k w) (sym e) (tells w)

pub kind_no_name : (w : List ℕ) → (kind_of w ≡ NameWord → ⊥) → is_name w ≡ false
kind_no_name w h = go (cases_Bool (is_name w))
  where
    go : (is_name w ≡ true) ⊎ (is_name w ≡ false) → is_name w ≡ false
    go (inl e) = absurd (h (kind_name w e))
    go (inr e) = e

pub kind_same : (w : List ℕ) → sameb the_type (kind_of w) NameWord ≡ is_name w
kind_same w = go (cases_Bool (sameb the_type (kind_of w) NameWord))
  where
    go : (sameb the_type (kind_of w) NameWord ≡ true) ⊎ (sameb the_type (kind_of w) NameWord ≡ false) → sameb the_type (kind_of w) NameWord ≡ is_name w
    go (inl e) = e ∙ sym (kind_is_name w (sym (same_true the_type (search rules) _ _ e)))
    go (inr e) = e ∙ sym (kind_no_name w (λ f. same_false the_type _ _ e f))

-- what comes first, and what a byte does that goes on with no word there
module _ (xs : List Want) (x : Want) (c : Sep) (w : List ℕ) (b : ℕ) (first : Some x ≡ slice_get xs 0) (h : (takes_word xs && is_word (w ++ b ∷ [])) ≡ false) where
  pub name_next : x ≡ Name c → step (symbols xs w) b ≡ option_map (λ _. symbols (drop 1 xs) []) (then_some (is_name w && b == byte c) (tt {0}))
  name_next e = go xs first h
    where
      ends : (s : List Sym) (t u : Bool) → cond {A = Option (List Sym)} t (cond u (Some s) None) None ≡ option_map (λ _. s) (then_some (t && u) (tt {0}))
      ends s true true = refl
      ends s true false = refl
      ends s false u = refl

      go : (xs : List Want) → Some x ≡ slice_get xs 0 → (takes_word xs && is_word (w ++ b ∷ [])) ≡ false → step (symbols xs w) b ≡ option_map (λ _. symbols (drop 1 xs) []) (then_some (is_name w && b == byte c) (tt {0}))
      go [] f h = cc
      go (y ∷ ys) f h =
          let k : y ≡ Name c = cc in
          let n = subst (λ (y : Want). (takes_word (y ∷ ys) && is_word (w ++ b ∷ [])) ≡ false) k h in
          rw k (cond-false (is_word (w ++ b ∷ [])) _ _ n ∙ ends (symbols ys []) (is_name w) (b == byte c))

  pub shape_next : x ≡ Shape c → step (symbols xs w) b ≡ behind (kind_of w) c b (symbols (drop 1 xs) [])
  shape_next e = go xs first h
    where
      go : (xs : List Want) → Some x ≡ slice_get xs 0 → (takes_word xs && is_word (w ++ b ∷ [])) ≡ false → step (symbols xs w) b ≡ behind (kind_of w) c b (symbols (drop 1 xs) [])
      go [] f h = cc
      go (y ∷ ys) f h =
          let k : y ≡ Shape c = cc in
          let n = subst (λ (y : Want). (takes_word (y ∷ ys) && is_word (w ++ b ∷ [])) ≡ false) k h in
          rw k (cond-false (is_word (w ++ b ∷ [])) _ _ n)

-- what is expected first, and what a byte does where it goes on with its word
pub goes_on : (xs : List Want) (w : List ℕ) (b : ℕ) → (takes_word xs && is_word (w ++ b ∷ [])) ≡ true → step (symbols xs w) b ≡ Some (symbols xs (w ++ b ∷ []))
goes_on [] w b h = absurd (both_ways false refl h)
goes_on (Lit d ∷ xs) w b h = absurd (both_ways false refl h)
goes_on (Number n c ∷ xs) w b h = absurd (both_ways false refl h)
goes_on (Name c ∷ xs) w b h = cond-true (is_word (w ++ b ∷ [])) _ _ h
goes_on (Shape c ∷ xs) w b h = cond-true (is_word (w ++ b ∷ [])) _ _ h
goes_on (AfterP ∷ xs) w b h = absurd (both_ways false refl h)
goes_on (AfterM ∷ xs) w b h = absurd (both_ways false refl h)
