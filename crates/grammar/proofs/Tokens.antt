-- The tokens of a text are the code of its lines.
use Rattle.std.proofs.Common.{◌≡◌, ℕ, zero, suc, Bool, true, false, not, ◌&&◌, List, [], ◌∷◌, ◌++◌, map, drop, ℤ, codes, refl, ap, ◌∙◌}
use Rattle.std.proofs.lemmas.Bool.{both_ways, and_parts, cond-true, cond-false}
use Rattle.grammar.specs.Grammar.{Expr, half, box, two, move, one, called, Line, part, place, same_as, meet, model, on_e, on_l, print, two_word, one_word, signed, all, Name, is_name, is_num, Two, both, either, without, One, mirror, swap, turn}
use Rattle.grammar.specs.Tokens.{in_tok, tok_at, once_if, toks_from, starts_from, code_e, code_l, code_of, Placed}
use Rattle.grammar.proofs.Once.{tok_name, tok_num}
use Rattle.grammar.proofs.Numbers.{signed_num}

-- a whole token: some bytes, all of them a token's
abbrev Tok : List ℕ → Type 0
Tok [] = ⊥
Tok (b ∷ w) = all in_tok (b ∷ w) ≡ true

tok_at-append : (n : List ℕ) (d : ℕ) (r : List ℕ) → all in_tok n ≡ true → in_tok d ≡ false → tok_at (n ++ d ∷ r) ≡ n
tok_at-append [] d r h k = cond-false (in_tok d) _ _ k
tok_at-append (x ∷ n) d r h k =
    let p = and_parts (in_tok x) (all in_tok n) h in
    cond-true (in_tok x) _ _ p.0 ∙ ap (λ (y : List ℕ). x ∷ y) (tok_at-append n d r p.1 k)

-- between tokens, and the rest of one
gap : (t : Bool) (d : ℕ) (r : List ℕ) → in_tok d ≡ false → toks_from t (d ∷ r) ≡ toks_from false r
gap true d r k = ap (λ (x : Bool). toks_from x r) k
gap false d r k = rw k

rest_of : (n : List ℕ) (d : ℕ) (r : List ℕ) → all in_tok n ≡ true → in_tok d ≡ false → toks_from true (n ++ d ∷ r) ≡ toks_from false r
rest_of [] d r h k = gap true d r k
rest_of (x ∷ n) d r h k =
    let p = and_parts (in_tok x) (all in_tok n) h in
    ap (λ (y : Bool). toks_from y (n ++ d ∷ r)) p.0 ∙ rest_of n d r p.1 k

token : (n : List ℕ) (d : ℕ) (r : List ℕ) → Tok n → in_tok d ≡ false → toks_from false (n ++ d ∷ r) ≡ n ∷ toks_from false r
token [] d r h k = absurd h
token (x ∷ n) d r h k =
    let p = and_parts (in_tok x) (all in_tok n) h in
    let e = tok_at-append (x ∷ n) d r h k in
    let f = rest_of n d r p.1 k in
    ap (λ (y : Bool). once_if y (tok_at (x ∷ (n ++ d ∷ r))) ++ toks_from y (n ++ d ∷ r)) p.0 ∙ cc

name_tok : (n : Name) → Tok n.0
name_tok n = go n.0 (tok_name n) n.1
  where
    go : (w : List ℕ) → all in_tok w ≡ true → is_name w ≡ true → Tok w
    go [] h k = both_ways false refl k
    go (b ∷ w) h k = h

num_tok : (z : ℤ) → Tok (signed z)
num_tok z = go (signed z) (signed_num z)
  where
    go : (w : List ℕ) → is_num w ≡ true → Tok w
    go [] k = both_ways false refl k
    go (b ∷ w) k = tok_num (b ∷ w) k

two_tok : (o : Two) → Tok (two_word o)
two_tok both = refl
two_tok either = refl
two_tok without = refl

one_tok : (o : One) → Tok (one_word o)
one_tok mirror = refl
one_tok swap = refl
one_tok turn = refl

-- nominal, so that its arguments can be read off it
record Toks (bs : List ℕ) (q : List (List ℕ)) : Type 0 where
  are : toks_from false bs ≡ q

-- a number or a name, then a byte
a_num : (z : ℤ) (d : ℕ) (r : List ℕ) (q : List (List ℕ)) → in_tok d ≡ false → Toks r q → Toks (signed z ++ d ∷ r) (signed z ∷ q)
a_num z d r q h e = record { are = token (signed z) d r (num_tok z) h ∙ ap (λ (x : List (List ℕ)). signed z ∷ x) e.are }

a_name : (n : Name) (d : ℕ) (r : List ℕ) (q : List (List ℕ)) → in_tok d ≡ false → Toks r q → Toks (n.0 ++ d ∷ r) (n.0 ∷ q)
a_name n d r q h e = record { are = token n.0 d r (name_tok n) h ∙ ap (λ (x : List (List ℕ)). n.0 ∷ x) e.are }

a_word : (w : List ℕ) (d : ℕ) (r : List ℕ) (q : List (List ℕ)) → Tok w → in_tok d ≡ false → Toks r q → Toks (w ++ d ∷ r) (w ∷ q)
a_word w d r q h k e = record { are = token w d r h k ∙ ap (λ (x : List (List ℕ)). w ∷ x) e.are }

a_gap : (d : ℕ) (r : List ℕ) (q : List (List ℕ)) → in_tok d ≡ false → Toks r q → Toks (d ∷ r) q
a_gap d r q h k = record { are = gap false d r h ∙ k.are }

a_shape : (e : Expr) (d : ℕ) (r : List ℕ) (q : List (List ℕ)) → in_tok d ≡ false → Toks r q → Toks (on_e e (d ∷ r)) (code_e e q)
a_shape (half a b c f) d r q h k =
    a_word (codes "half") 32 _ _ refl refl (a_num a 32 _ _ refl (a_num b 32 _ _ refl (a_num c 32 _ _ refl (a_num f d r q h k))))
a_shape (box a b c f g i) d r q h k =
    a_word (codes "box") 32 _ _ refl refl (a_num a 32 _ _ refl (a_num b 32 _ _ refl (a_num c 32 _ _ refl (a_num f 32 _ _ refl (a_num g 32 _ _ refl (a_num i d r q h k))))))
a_shape (two o e f) d r q h k =
    a_word (two_word o) 40 _ _ (two_tok o) refl (a_shape e 44 _ _ refl (a_gap 32 _ _ refl (a_shape f 41 _ _ refl (a_gap d r q h k))))
a_shape (move x y z e) d r q h k =
    a_word (codes "move") 32 _ _ refl refl (a_num x 32 _ _ refl (a_num y 32 _ _ refl (a_num z 32 _ _ refl (a_gap 40 _ _ refl (a_shape e 41 _ _ refl (a_gap d r q h k))))))
a_shape (one o e) d r q h k = a_word (one_word o) 40 _ _ (one_tok o) refl (a_shape e 41 _ _ refl (a_gap d r q h k))
a_shape (called n) d r q h k = a_name n d r q h k

a_line : (l : Line) (r : List ℕ) (q : List (List ℕ)) → Toks r q → Toks (on_l l r) (code_l l q)
a_line (part n e) r q k = a_word (codes "part") 32 _ _ refl refl (a_name n 32 _ _ refl (a_gap 61 _ _ refl (a_gap 32 _ _ refl (a_shape e 10 r q refl k))))
a_line (place n x y z w) r q k =
    a_word (codes "place") 32 _ _ refl refl (a_name n 32 _ _ refl (a_num x 32 _ _ refl (a_num y 32 _ _ refl (a_num z 32 _ _ refl (a_num w 10 r q refl k)))))
a_line (same_as n m) r q k = a_word (codes "same") 32 _ _ refl refl (a_name n 32 _ _ refl (a_name m 10 r q refl k))
a_line (meet n m) r q k = a_word (codes "meet") 32 _ _ refl refl (a_name n 32 _ _ refl (a_name m 10 r q refl k))
a_line (model n) r q k = a_word (codes "model") 32 _ _ refl refl (a_name n 10 r q refl k)

pub toks_print : (ls : List Line) → toks_from false (print ls) ≡ code_of ls
toks_print [] = refl
toks_print (l ∷ ls) = (a_line l (print ls) (code_of ls) (record { are = toks_print ls })).are

-- where tokens begin, and the tokens there
map_mark : (t : Bool) (i : ℕ) (xs : List ℕ) (ps : List ℕ) → map (λ p. tok_at (drop p xs)) (once_if t i ++ ps) ≡ once_if t (tok_at (drop i xs)) ++ map (λ p. tok_at (drop p xs)) ps
map_mark true i xs ps = refl
map_mark false i xs ps = refl

pub drop_next : (xs : List ℕ) (i b : ℕ) (ys : List ℕ) → drop i xs ≡ b ∷ ys → drop (suc i) xs ≡ ys
drop_next [] zero b ys e = cc
drop_next [] (suc i) b ys e = cc
drop_next (x ∷ xs) zero b ys e = cc
drop_next (x ∷ xs) (suc i) b ys e = drop_next xs i b ys e

placed_from : (xs ys : List ℕ) (t : Bool) (i : ℕ) → drop i xs ≡ ys → map (λ p. tok_at (drop p xs)) (starts_from t i ys) ≡ toks_from t ys
placed_from xs [] t i e = refl
placed_from xs (b ∷ ys) t i e =
    let next : drop (suc i) xs ≡ ys = drop_next xs i b ys e in
    let k = placed_from xs ys (in_tok b) (suc i) next in
    map_mark (not t && in_tok b) i xs (starts_from (in_tok b) (suc i) ys)
    ∙ ap (λ (x : List ℕ). once_if (not t && in_tok b) (tok_at x) ++ map (λ p. tok_at (drop p xs)) (starts_from (in_tok b) (suc i) ys)) e
    ∙ ap (λ (x : List (List ℕ)). once_if (not t && in_tok b) (tok_at (b ∷ ys)) ++ x) k

pub placed : (xs ps : List ℕ) → ps ≡ starts_from false 0 xs → Placed xs ps
placed xs ps e = ap (map (λ p. tok_at (drop p xs))) e ∙ placed_from xs xs false 0 refl

-- the tokens of a text
pub text_code : (bs : List ℕ) (ls : List Line) → bs ≡ print ls → (ps : List ℕ) → Placed bs ps → map (λ p. tok_at (drop p bs)) ps ≡ code_of ls
text_code bs ls e ps h = h ∙ ap (toks_from false) e ∙ toks_print ls
