-- The words of bytes stand apart: each begins behind the end of the one before it. So faults come in the order of their places.
use Rattle.std.proofs.Common.{◌≡◌, ℕ, suc, ◌+◌, ◌≤◌, Bool, true, false, cond, not, ◌&&◌, leb, List, [], ◌∷◌, ◌++◌, map, length, drop, codes, filter, sym, refl, ap, ◌∙◌, subst, arith}
use Rattle.std.specs.List.{AllByRecursion}
use Rattle.std.proofs.lemmas.Bool.{cond-true, cond-false}
use Rattle.grammar.specs.Grammar.{same, one_of, is_name}
use Rattle.grammar.specs.Tokens.{in_tok, tok_at, starts_from, once_if}
use Rattle.grammar.specs.Faults.{Fault, Token, token, tokens, Role, new_name, used_name, shape, measure, scale, of_part, of_place, of_box, scan, if_so, looked, word_faults, beyond, no_scale, most_parts, later}
use Rattle.grammar.proofs.Tokens.{drop_next}

-- each begins at n or behind, and the next behind its end
abbrev pub Spaced : ℕ → List Token → Type 0
Spaced n [] = Unit {0}
Spaced n (t ∷ ts) = (n ≤ t.start) × Spaced (t.start + length t.word + 1) ts

pub spaced_less : (n m : ℕ) (ts : List Token) → m ≤ n → Spaced n ts → Spaced m ts
spaced_less n m [] h s = tt
spaced_less n m (t ∷ ts) h s = let k = s.0 in (omega arith, s.1)

abbrev at : List ℕ → ℕ → Token
at xs p = token p (tok_at (drop p xs))

-- outside of a word, and inside of one
abbrev Spread : Bool → ℕ → List ℕ → List Token → Type 0
Spread false i ys ts = Spaced i ts
Spread true i ys ts = Spaced (i + length (tok_at ys) + 1) ts

spread : (xs ys : List ℕ) (t : Bool) (i : ℕ) → drop i xs ≡ ys → Spread t i ys (map (at xs) (starts_from t i ys))
spread xs [] true i e = tt
spread xs [] false i e = tt
spread xs (b ∷ ys) t i e = go t (in_tok b) refl (spread xs ys (in_tok b) (suc i) (drop_next xs i b ys e))
  where
    more : (u : Bool) → in_tok b ≡ u → length (tok_at (b ∷ ys)) ≡ cond u (suc (length (tok_at ys))) 0
    more true f = ap length (cond-true (in_tok b) _ _ f)
    more false f = ap length (cond-false (in_tok b) _ _ f)

    go : (t u : Bool) → in_tok b ≡ u → Spread (in_tok b) (suc i) ys (map (at xs) (starts_from (in_tok b) (suc i) ys)) →
        Spread t i (b ∷ ys) (map (at xs) (once_if (not t && in_tok b) i ++ starts_from (in_tok b) (suc i) ys))
    go false true f ih =
        let P : Bool → Type 0 = λ v. Spread v (suc i) ys (map (at xs) (starts_from v (suc i) ys)) in
        let k : Spaced (suc i + length (tok_at ys) + 1) (map (at xs) (starts_from true (suc i) ys)) = subst P f ih in
        let l = more true f in
        let w : length (tok_at (drop i xs)) ≡ suc (length (tok_at ys)) = ap (λ (zs : List ℕ). length (tok_at zs)) e ∙ l in
        let Q : Bool → Type 0 = λ v. Spaced i (map (at xs) (once_if v i ++ starts_from v (suc i) ys)) in
        subst Q (sym f) (omega arith, spaced_less _ _ (map (at xs) (starts_from true (suc i) ys)) (omega arith) k)
    go false false f ih =
        let P : Bool → Type 0 = λ v. Spread v (suc i) ys (map (at xs) (starts_from v (suc i) ys)) in
        let k : Spaced (suc i) (map (at xs) (starts_from false (suc i) ys)) = subst P f ih in
        let Q : Bool → Type 0 = λ v. Spaced i (map (at xs) (once_if v i ++ starts_from v (suc i) ys)) in
        subst Q (sym f) (spaced_less _ _ (map (at xs) (starts_from false (suc i) ys)) (omega arith) k)
    go true true f ih =
        let P : Bool → Type 0 = λ v. Spread v (suc i) ys (map (at xs) (starts_from v (suc i) ys)) in
        let k : Spaced (suc i + length (tok_at ys) + 1) (map (at xs) (starts_from true (suc i) ys)) = subst P f ih in
        let l = more true f in
        let Q : Bool → Type 0 = λ v. Spaced (i + length (tok_at (b ∷ ys)) + 1) (map (at xs) (starts_from v (suc i) ys)) in
        subst Q (sym f) (spaced_less _ _ (map (at xs) (starts_from true (suc i) ys)) (omega arith) k)
    go true false f ih =
        let P : Bool → Type 0 = λ v. Spread v (suc i) ys (map (at xs) (starts_from v (suc i) ys)) in
        let k : Spaced (suc i) (map (at xs) (starts_from false (suc i) ys)) = subst P f ih in
        let l = more false f in
        let Q : Bool → Type 0 = λ v. Spaced (i + length (tok_at (b ∷ ys)) + 1) (map (at xs) (starts_from v (suc i) ys)) in
        subst Q (sym f) (spaced_less _ _ (map (at xs) (starts_from false (suc i) ys)) (omega arith) k)

pub spaced : (bs : List ℕ) → Spaced 0 (tokens bs)
spaced bs = spread bs bs false 0 refl

-- some of them are spaced too
pub spaced_kept : (f : Token → Bool) (n : ℕ) (ts : List Token) → Spaced n ts → Spaced n (filter f ts)
spaced_kept f n [] s = tt
spaced_kept f n (t ∷ ts) s = go (f t) refl (spaced_kept f (t.start + length t.word + 1) ts s.1)
  where
    go : (b : Bool) → f t ≡ b → Spaced (t.start + length t.word + 1) (filter f ts) → Spaced n (cond b (t ∷ filter f ts) (filter f ts))
    go true e ih = (s.0, ih)
    go false e ih = let k = s.0 in spaced_less _ _ (filter f ts) (omega arith) ih

-- faults in the order of their places
abbrev pub Ascends : ℕ → List Fault → Type 0
Ascends n [] = Unit {0}
Ascends n (f ∷ fs) = (n ≤ f.place) × Ascends (suc f.place) fs

ascends_less : (n m : ℕ) (fs : List Fault) → m ≤ n → Ascends n fs → Ascends m fs
ascends_less n m [] h s = tt
ascends_less n m (f ∷ fs) h s = let k = s.0 in (omega arith, s.1)

-- all that come behind one have larger places
pub ascends_all : (n : ℕ) (fs : List Fault) → Ascends n fs → AllByRecursion (λ f. n ≤ f.place) fs
ascends_all n [] s = tt
ascends_all n (f ∷ fs) s = (s.0, ascends_all n fs (let k = s.0 in ascends_less _ _ fs (omega arith) s.1))

ascends_so : (n : ℕ) (b : Bool) (k : ℕ) (t : Token) (fs : List Fault) → n ≤ t.start → Ascends (t.start + length t.word + 1) fs → Ascends n (if_so b k t ++ fs)
ascends_so n true k t fs h a = (h, ascends_less _ _ fs (omega arith) a)
ascends_so n false k t fs h a = ascends_less _ _ fs (omega arith) a

pub ascends : (names : List (List ℕ)) (rs : List Role) (n : ℕ) (ts : List Token) → Spaced n ts → Ascends n (scan names rs ts)
ascends names [] n [] s = tt
ascends names (r ∷ rs) n [] s = tt
ascends names [] n (t ∷ ts) s =
    go (same t.word (codes "part")) (same t.word (codes "place")) (ascends names of_part _ ts s.1) (ascends names of_place _ ts s.1)
  where
    go : (a b : Bool) → Ascends (t.start + length t.word + 1) (scan names of_part ts) → Ascends (t.start + length t.word + 1) (scan names of_place ts) →
        Ascends n (cond a (if_so (leb most_parts (length names)) 3 t ++ scan names of_part ts) (cond b (scan names of_place ts) (if_so (one_of later t.word) 1 t)))
    go true b p q = ascends_so n (leb most_parts (length names)) 3 t (scan names of_part ts) s.0 p
    go false true p q = let k = s.0 in ascends_less _ _ (scan names of_place ts) (omega arith) q
    go false false p q = last (one_of later t.word)
      where
        last : (c : Bool) → Ascends n (if_so c 1 t)
        last true = (s.0, tt)
        last false = tt
ascends names (new_name ∷ rs) n (t ∷ ts) s =
    ascends_so n (is_name t.word && one_of names t.word) 2 t (scan (names ++ t.word ∷ []) rs ts) s.0 (ascends (names ++ t.word ∷ []) rs _ ts s.1)
ascends names (used_name ∷ rs) n (t ∷ ts) s = ascends_so n (is_name t.word && not (one_of names t.word)) 2 t (scan names rs ts) s.0 (ascends names rs _ ts s.1)
ascends names (shape ∷ rs) n (t ∷ ts) s = go (same t.word (codes "box")) (ascends names (of_box ++ rs) _ ts s.1)
  where
    go : (a : Bool) → Ascends (t.start + length t.word + 1) (scan names (of_box ++ rs) ts) → Ascends n (cond a (scan names (of_box ++ rs) ts) (if_so true 1 t))
    go true p = let k = s.0 in ascends_less _ _ (scan names (of_box ++ rs) ts) (omega arith) p
    go false p = (s.0, tt)
ascends names (measure ∷ rs) n (t ∷ ts) s = ascends_so n (beyond t.word) 4 t (scan names rs ts) s.0 (ascends names rs _ ts s.1)
ascends names (scale ∷ rs) n (t ∷ ts) s = ascends_so n (no_scale t.word) 4 t (scan names rs ts) s.0 (ascends names rs _ ts s.1)

-- the faults of a text's words come in the order of their places
pub word_faults_ascend : (read : ℕ) (bs : List ℕ) → Ascends 0 (word_faults read bs)
word_faults_ascend read bs = ascends [] [] 0 (looked read bs) (spaced_kept (λ t. leb (t.start + length t.word) read) 0 (tokens bs) (spaced bs))
