-- Words and numbers as parts of the text.
use Rattle.std.proofs.Common.{◌≡◌, ℕ, suc, ◌+◌, ◌<◌, ◌≤◌, Bool, true, false, cond, not, eqb, ltb, ◌⊎◌, List, [], ◌∷◌, ◌++◌, length, take, drop, Some, None, Option, sym, refl, ap, ◌∙◌, inl, inr, arith, le-ltb, lt-ltb}
use Rattle.std.specs.Option.{unwrap_or}
use Rattle.std.specs.List.{position_or_len, starts_with}
use Rattle.std.proofs.lemmas.Bool.{cases_lt, both_ways}
use Rattle.std.proofs.lemmas.Bool.Decides.{Decides-eqb}
use Rattle.std.proofs.lemmas.List.{take_all, take-append-drop}
use Rattle.std.proofs.lemmas.Slice.Eq.{starts_is}
use Rattle.grammar.specs.Grammar.{same}
use Rattle.grammar.proofs.Exact.{same_eq}
use Rattle.grammar.specs.Tokens.{in_tok, tok_at}

abbrev pub ends : ℕ → Bool
ends b = not (in_tok b)

-- a word ends at the first byte that is none of a word's
token_front : (xs : List ℕ) → take (position_or_len ends xs) xs ≡ tok_at xs
token_front [] = refl
token_front (b ∷ bs) = go (in_tok b) (token_front bs)
  where
    go : (t : Bool) → take (position_or_len ends bs) bs ≡ tok_at bs →
        take (cond (not (not t)) (1 + position_or_len ends bs) 0) (b ∷ bs) ≡ cond t (b ∷ tok_at bs) []
    go true e = let h : 1 + position_or_len ends bs ≡ suc (position_or_len ends bs) = omega arith in rw h (ap (λ (l : List ℕ). b ∷ l) e)
    go false e = refl

pub token_taken : (xs : List ℕ) (r : Option ℕ) → r ≡ cond (ltb (position_or_len ends xs) (length xs)) (Some (position_or_len ends xs)) None → take (unwrap_or r (length xs)) xs ≡ tok_at xs
token_taken xs r e = ap (λ (o : Option ℕ). take (unwrap_or o (length xs)) xs) e ∙ go (position_or_len ends xs) (cases_lt (position_or_len ends xs) (length xs)) ∙ token_front xs
  where
    go : (n : ℕ) → (n < length xs) ⊎ (length xs ≤ n) → take (unwrap_or (cond (ltb n (length xs)) (Some n) None) (length xs)) xs ≡ take n xs
    go n (inl h) = ap (λ (b : Bool). take (unwrap_or (cond b (Some n) None) (length xs)) xs) (lt-ltb _ _ h)
    go n (inr h) = ap (λ (b : Bool). take (unwrap_or (cond b (Some n) None) (length xs)) xs) (le-ltb _ _ h) ∙ take_all (length xs) xs (omega arith) ∙ sym (take_all n xs h)

-- bytes that don't begin with a word have another one in front
pub front_other : (xs w : List ℕ) (r : Bool) → r ≡ starts_with eqb xs w → r ≡ false → r ≡ same w (tok_at xs)
front_other xs w r m e = e ∙ sym (other (same w (tok_at xs)) refl)
  where
    n : ℕ
    n = position_or_len ends xs

    begins : same w (tok_at xs) ≡ true → r ≡ true
    begins h = (starts_is Decides-eqb xs w r m).1 (drop n xs) (sym (take-append-drop n xs) ∙ ap (λ (l : List ℕ). l ++ drop n xs) (token_front xs ∙ sym (same_eq w (tok_at xs) h)))

    other : (b : Bool) → same w (tok_at xs) ≡ b → b ≡ false
    other false h = refl
    other true h = absurd (both_ways r e (begins h))
