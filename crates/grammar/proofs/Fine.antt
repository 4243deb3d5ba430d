-- The words of lines have no fault exactly if the lines are fine.
use Rattle.std.proofs.Common.{◌≡◌, ℕ, suc, ◌+◌, ◌<◌, ◌≤◌, Bool, true, false, cond, not, ◌&&◌, ◌||◌, T, eqb, ltb, leb, List, [], ◌∷◌, ◌++◌, map, length, drop, ℤ, pos, negsuc, nat_abs, codes, filter, sym, refl, ap, ◌∙◌, subst, ap₂, arith, ltb→lt, length-drop, ltb-false, ltb-true, eqb-true, le-leb}
use Rattle.std.proofs.Math.Bool.{not-not}
use borrow.Author.Tests.{lt-leb, eqb-false}
use Rattle.std.specs.List.{AllByRecursion}
use Rattle.std.proofs.ByRecursion.{All-map, All-weaker}
use Rattle.std.proofs.lemmas.Bool.{both_ways, and_from, and_right, cond-true}
use Rattle.grammar.specs.Grammar.{Expr, half, box, two, move, one, called, both, either, without, mirror, swap, turn, Name, Line, part, place, same_as, meet, model, same, one_of, is_name, print, signed, decimal}
use Rattle.grammar.specs.Tokens.{in_tok, tok_at, starts_from, code_e, code_of}
use Rattle.grammar.specs.Values.{read_on, number_limit, scale_most}
use Rattle.grammar.specs.Faults.{Fault, Token, token, tokens, Role, new_name, used_name, shape, measure, scale, of_part, of_place, of_box, scan, if_so, looked, word_faults, amount, negative, beyond, no_scale, most_parts, later}
use Rattle.grammar.specs.Meaning.{short, scales, fine, fine_shape}
use Rattle.grammar.proofs.First.{all_inside}
use Rattle.grammar.proofs.Tokens.{text_code, placed}
use Rattle.grammar.proofs.Exact.{same_eq}
use Rattle.grammar.proofs.Numbers.{no_minus}
use Rattle.grammar.proofs.Values.{read_digits}

-- no fault in words, wherever they stand
abbrev pub clean : List (List ℕ) → List Role → List (List ℕ) → Bool
clean names rs [] = true
clean names [] (w ∷ ws) = cond (same w (codes "part")) (ltb (length names) most_parts && clean names of_part ws) (cond (same w (codes "place")) (clean names of_place ws) (not (one_of later w)))
clean names (new_name ∷ rs) (w ∷ ws) = not (is_name w && one_of names w) && clean (names ++ w ∷ []) rs ws
clean names (used_name ∷ rs) (w ∷ ws) = not (is_name w && not (one_of names w)) && clean names rs ws
clean names (shape ∷ rs) (w ∷ ws) = same w (codes "box") && clean names (of_box ++ rs) ws
clean names (measure ∷ rs) (w ∷ ws) = not (beyond w) && clean names rs ws
clean names (scale ∷ rs) (w ∷ ws) = not (no_scale w) && clean names rs ws

abbrev words_of : List Token → List (List ℕ)
words_of ts = map (λ t. t.word) ts

-- a list of faults is empty or not
abbrev none : List Fault → Bool
none [] = true
none (f ∷ fs) = false

none_so : (b : Bool) (n : ℕ) (t : Token) (fs : List Fault) → none (if_so b n t ++ fs) ≡ (not b && none fs)
none_so true n t fs = refl
none_so false n t fs = refl

none_one : (b : Bool) (n : ℕ) (t : Token) → none (if_so b n t) ≡ not b
none_one true n t = refl
none_one false n t = refl

-- no fault is told exactly of clean words
pub none-clean : (names : List (List ℕ)) (rs : List Role) (ts : List Token) → none (scan names rs ts) ≡ clean names rs (words_of ts)
none-clean names [] [] = refl
none-clean names (r ∷ rs) [] = refl
none-clean names [] (t ∷ ts) = go (same t.word (codes "part")) (same t.word (codes "place")) (none-clean names of_part ts) (none-clean names of_place ts)
  where
    few : (b : Bool) → leb most_parts (length names) ≡ b → not b ≡ ltb (length names) most_parts
    few true e = sym (grind (arith, ltb-true, ltb-false))
    few false e = sym (grind (arith, ltb-true, ltb-false))

    go : (a b : Bool) → none (scan names of_part ts) ≡ clean names of_part (words_of ts) → none (scan names of_place ts) ≡ clean names of_place (words_of ts) →
        none (cond a (if_so (leb most_parts (length names)) 3 t ++ scan names of_part ts) (cond b (scan names of_place ts) (if_so (one_of later t.word) 1 t)))
        ≡ cond a (ltb (length names) most_parts && clean names of_part (words_of ts)) (cond b (clean names of_place (words_of ts)) (not (one_of later t.word)))
    go true b p q = none_so (leb most_parts (length names)) 3 t (scan names of_part ts) ∙ ap₂ (λ x y. x && y) (few (leb most_parts (length names)) refl) p
    go false true p q = q
    go false false p q = none_one (one_of later t.word) 1 t
none-clean names (new_name ∷ rs) (t ∷ ts) =
    none_so (is_name t.word && one_of names t.word) 2 t (scan (names ++ t.word ∷ []) rs ts) ∙ ap (λ (x : Bool). not (is_name t.word && one_of names t.word) && x) (none-clean (names ++ t.word ∷ []) rs ts)
none-clean names (used_name ∷ rs) (t ∷ ts) =
    none_so (is_name t.word && not (one_of names t.word)) 2 t (scan names rs ts) ∙ ap (λ (x : Bool). not (is_name t.word && not (one_of names t.word)) && x) (none-clean names rs ts)
none-clean names (shape ∷ rs) (t ∷ ts) = go (same t.word (codes "box")) (none-clean names (of_box ++ rs) ts)
  where
    go : (a : Bool) → none (scan names (of_box ++ rs) ts) ≡ clean names (of_box ++ rs) (words_of ts) → none (cond a (scan names (of_box ++ rs) ts) (if_so true 1 t)) ≡ (a && clean names (of_box ++ rs) (words_of ts))
    go true p = p
    go false p = refl
none-clean names (measure ∷ rs) (t ∷ ts) = none_so (beyond t.word) 4 t (scan names rs ts) ∙ ap (λ (x : Bool). not (beyond t.word) && x) (none-clean names rs ts)
none-clean names (scale ∷ rs) (t ∷ ts) = none_so (no_scale t.word) 4 t (scan names rs ts) ∙ ap (λ (x : Bool). not (no_scale t.word) && x) (none-clean names rs ts)

-- numbers, by what they write
plain_amount : (w : List ℕ) → ((v : List ℕ) → w ≡ 45 ∷ v → ⊥) → amount w ≡ read_on 0 w
plain_amount [] h = refl
plain_amount (b ∷ bs) h = go (eqb b 45) refl
  where
    go : (t : Bool) → eqb b 45 ≡ t → cond t (read_on 0 bs) (read_on 0 (b ∷ bs)) ≡ read_on 0 (b ∷ bs)
    go true e = let z : b ≡ 45 = grind (arith, eqb-true) in absurd (h bs (ap (λ (x : ℕ). x ∷ bs) z))
    go false e = refl

tok_decimal : (n : ℕ) → read_on 0 (decimal n) ≡ n
tok_decimal n = read_digits n

pub signed-amount : (z : ℤ) → amount (signed z) ≡ nat_abs z
signed-amount (pos n) = plain_amount (decimal n) (λ v e. no_minus n v e) ∙ tok_decimal n
signed-amount (negsuc n) = tok_decimal (suc n)

not_beyond : (z : ℤ) → not (beyond (signed z)) ≡ short z
not_beyond z = ap (λ (n : ℕ). not (ltb number_limit n)) (signed-amount z) ∙ flip (nat_abs z)
  where
    flip : (n : ℕ) → not (ltb number_limit n) ≡ leb n number_limit
    flip n = go (ltb number_limit n) refl
      where
        go : (b : Bool) → ltb number_limit n ≡ b → not b ≡ leb n number_limit
        go true e = sym (lt-leb _ _ (ltb→lt number_limit n (subst T (sym e) tt)))
        go false e = sym (le-leb _ _ (grind (arith, ltb-false)))

no_sign : (w : List ℕ) → ((v : List ℕ) → w ≡ 45 ∷ v → ⊥) → negative w ≡ false
no_sign [] h = refl
no_sign (b ∷ []) h = refl
no_sign (b ∷ (d ∷ bs)) h = go (eqb b 45) refl
  where
    go : (t : Bool) → eqb b 45 ≡ t → t ≡ false
    go true e = absurd (h (d ∷ bs) (ap (λ (x : ℕ). x ∷ (d ∷ bs)) (eqb-true b 45 e)))
    go false e = refl

no_dash : (w : List ℕ) → ((v : List ℕ) → w ≡ 45 ∷ v → ⊥) → same w (codes "-") ≡ false
no_dash w h = go (same w (codes "-")) refl
  where
    go : (t : Bool) → same w (codes "-") ≡ t → t ≡ false
    go true e = absurd (h [] (same_eq w (codes "-") e))
    go false e = refl

has_sign : (ds : List ℕ) → (ds ≡ [] → ⊥) → negative (45 ∷ ds) ≡ true
has_sign [] h = absurd (h refl)
has_sign (d ∷ ds) h = refl

one_to_most : (n : ℕ) → not (eqb n 0 || ltb scale_most n) ≡ (leb 1 n && leb n scale_most)
one_to_most n = go (eqb n 0) (ltb scale_most n) refl refl
  where
    go : (a b : Bool) → eqb n 0 ≡ a → ltb scale_most n ≡ b → not (a || b) ≡ (leb 1 n && leb n scale_most)
    go true b e f = let z : n ≡ 0 = eqb-true n 0 e in let l : leb 1 n ≡ false = lt-leb _ _ (omega arith) in sym (ap (λ (x : Bool). x && leb n scale_most) l)
    go false true e f = let z = ltb-true scale_most n f in let l : leb n scale_most ≡ false = lt-leb _ _ z in sym (and_right (leb 1 n) (leb n scale_most) l)
    go false false e f =
        let z = ltb-false scale_most n f in
        let y = eqb-false n 0 e in
        let p : leb 1 n ≡ true = le-leb _ _ (omega arith) in
        sym (and_from (leb 1 n) (leb n scale_most) p (le-leb _ _ z))

not-no_scale : (z : ℤ) → not (no_scale (signed z)) ≡ scales z
not-no_scale (pos n) =
    let h : (v : List ℕ) → decimal n ≡ 45 ∷ v → ⊥ = λ v e. no_minus n v e in
    ap (λ (x : Bool). not (x || (not (same (decimal n) (codes "-")) && (eqb (amount (decimal n)) 0 || ltb scale_most (amount (decimal n)))))) (no_sign (decimal n) h)
    ∙ ap (λ (x : Bool). not (not x && (eqb (amount (decimal n)) 0 || ltb scale_most (amount (decimal n))))) (no_dash (decimal n) h)
    ∙ ap (λ (k : ℕ). not (eqb k 0 || ltb scale_most k)) (signed-amount (pos n))
    ∙ one_to_most n
not-no_scale (negsuc n) =
    ap (λ (x : Bool). not (x || (not (same (45 ∷ decimal (suc n)) (codes "-")) && (eqb (amount (45 ∷ decimal (suc n))) 0 || ltb scale_most (amount (45 ∷ decimal (suc n)))))))
    (has_sign (decimal (suc n)) (λ e. let k : 0 ≡ suc n = sym (ap (read_on 0) e) ∙ read_digits (suc n) in omega arith))

-- names that are as they should be
new_one : (names : List (List ℕ)) (n : Name) → not (is_name n.0 && one_of names n.0) ≡ not (one_of names n.0)
new_one names n = ap (λ (x : Bool). not (x && one_of names n.0)) n.1

known_one : (names : List (List ℕ)) (n : Name) → not (is_name n.0 && not (one_of names n.0)) ≡ one_of names n.0
known_one names n = ap (λ (x : Bool). not (x && not (one_of names n.0))) n.1 ∙ not-not (one_of names n.0)

no_box : (n : Name) → same n.0 (codes "box") ≡ false
no_box n = go (same n.0 (codes "box")) refl
  where
    go : (t : Bool) → same n.0 (codes "box") ≡ t → t ≡ false
    go true e = absurd (both_ways (is_name (codes "box")) refl (subst (λ (w : List ℕ). is_name w ≡ true) (same_eq n.0 (codes "box") e) n.1))
    go false e = refl

-- a shape's words are clean exactly if it is a box with numbers in range; what stands behind them is looked at then
clean_shape : (names : List (List ℕ)) (e : Expr) (ws : List (List ℕ)) (b : Bool) → clean names [] ws ≡ b → clean names (shape ∷ []) (code_e e ws) ≡ (fine_shape e && b)
clean_shape names (half a b c d) ws t h = refl
clean_shape names (box x0 x1 y0 y1 z0 z1) ws t h =
    ap₂ (λ x y. x && y) (not_beyond x0) (ap₂ (λ x y. x && y) (not_beyond x1) (ap₂ (λ x y. x && y) (not_beyond y0) (ap₂ (λ x y. x && y) (not_beyond y1)
    (ap₂ (λ x y. x && y) (not_beyond z0) (ap₂ (λ x y. x && y) (not_beyond z1) h)))))
    ∙ six (short x0) (short x1) (short y0) (short y1) (short z0) (short z1) t
  where
    six : (a b c d e f t : Bool) → (a && (b && (c && (d && (e && (f && t)))))) ≡ ((a && (b && (c && (d && (e && f))))) && t)
    six false b c d e f t = refl
    six true false c d e f t = refl
    six true true false d e f t = refl
    six true true true false e f t = refl
    six true true true true false f t = refl
    six true true true true true f t = refl
clean_shape names (two both e f) ws t h = refl
clean_shape names (two either e f) ws t h = refl
clean_shape names (two without e f) ws t h = refl
clean_shape names (move x y z e) ws t h = refl
clean_shape names (one mirror e) ws t h = refl
clean_shape names (one swap e) ws t h = refl
clean_shape names (one turn e) ws t h = refl
clean_shape names (called n) ws t h = ap (λ (x : Bool). x && clean names of_box ws) (no_box n)

pub clean-fine : (names : List (List ℕ)) (ls : List Line) → clean names [] (code_of ls) ≡ fine names ls
clean-fine names [] = refl
clean-fine names (part n e ∷ ls) =
    ap (λ (x : Bool). ltb (length names) most_parts && x)
    (ap₂ (λ x y. x && y) (new_one names n) (clean_shape (names ++ n.0 ∷ []) e (code_of ls) (fine (names ++ n.0 ∷ []) ls) (clean-fine (names ++ n.0 ∷ []) ls)))
clean-fine names (place n x y z w ∷ ls) =
    ap₂ (λ a b. a && b) (known_one names n)
    (ap₂ (λ a b. a && b) (not_beyond x) (ap₂ (λ a b. a && b) (not_beyond y) (ap₂ (λ a b. a && b) (not_beyond z) (ap₂ (λ a b. a && b) (not-no_scale w) (clean-fine names ls)))))
clean-fine names (same_as n m ∷ ls) = refl
clean-fine names (meet n m ∷ ls) = refl
clean-fine names (model n ∷ ls) = refl

-- every word of whole bytes is read to its end
tok_short : (xs : List ℕ) → length (tok_at xs) ≤ length xs
tok_short [] = omega arith
tok_short (b ∷ xs) = go (in_tok b) (tok_short xs)
  where
    go : (t : Bool) → length (tok_at xs) ≤ length xs → length (cond t (b ∷ tok_at xs) []) ≤ suc (length xs)
    go true h = omega arith
    go false h = omega arith

kept_all : {X : Type 0} (f : X → Bool) (xs : List X) → AllByRecursion (λ x. f x ≡ true) xs → filter f xs ≡ xs
kept_all f [] a = refl
kept_all f (x ∷ xs) a = cond-true (f x) _ _ a.0 ∙ ap (λ (l : List _). x ∷ l) (kept_all f xs a.1)

pub looked_all : (bs : List ℕ) → looked (length bs) bs ≡ tokens bs
looked_all bs =
    kept_all (λ t. leb (t.start + length t.word) (length bs)) (tokens bs)
    (All-map (λ t. leb (t.start + length t.word) (length bs) ≡ true) (λ p. token p (tok_at (drop p bs))) (starts_from false 0 bs)
    (All-weaker (λ p. p < length bs) (λ p. leb (p + length (tok_at (drop p bs))) (length bs) ≡ true) ends (starts_from false 0 bs) (all_inside bs)))
  where
    ends : (p : ℕ) → p < length bs → leb (p + length (tok_at (drop p bs))) (length bs) ≡ true
    ends p h = le-leb _ _ (let k = tok_short (drop p bs) in omega (arith, length-drop p bs))

words_of_tokens : (bs ps : List ℕ) → words_of (map (λ p. token p (tok_at (drop p bs))) ps) ≡ map (λ p. tok_at (drop p bs)) ps
words_of_tokens bs [] = refl
words_of_tokens bs (p ∷ ps) = ap (λ (l : List (List ℕ)). tok_at (drop p bs) ∷ l) (words_of_tokens bs ps)

pub text_words : (bs : List ℕ) (ls : List Line) → bs ≡ print ls → map (λ t. t.word) (looked (length bs) bs) ≡ code_of ls
text_words bs ls e = ap words_of (looked_all bs) ∙ words_of_tokens bs (starts_from false 0 bs) ∙ text_code bs ls e (starts_from false 0 bs) (placed bs (starts_from false 0 bs) refl)

-- THE TEXTS THAT HAVE NO FAULT IN THEIR WORDS are those whose lines are fine
pub faults_fine : (bs : List ℕ) (ls : List Line) → bs ≡ print ls → none (word_faults (length bs) bs) ≡ fine [] ls
faults_fine bs ls e = none-clean [] [] (looked (length bs) bs) ∙ ap (clean [] []) (text_words bs ls e) ∙ clean-fine [] ls

pub fine_from : (bs : List ℕ) (ls : List Line) → bs ≡ print ls → word_faults (length bs) bs ≡ [] → fine [] ls ≡ true
fine_from bs ls e f = sym (faults_fine bs ls e) ∙ ap none f

pub none_from : (bs : List ℕ) (ls : List Line) → bs ≡ print ls → fine [] ls ≡ true → word_faults (length bs) bs ≡ []
none_from bs ls e f = go (word_faults (length bs) bs) (faults_fine bs ls e ∙ f)
  where
    go : (fs : List Fault) → none fs ≡ true → fs ≡ []
    go [] h = refl
    go (x ∷ fs) h = absurd (both_ways false refl h)
