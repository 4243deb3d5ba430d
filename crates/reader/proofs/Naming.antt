-- The names that the scan finds are those of the parts.
use Rattle.std.proofs.Common.{◌≡◌, ℕ, Bool, true, false, cond, not, ◌&&◌, ltb, List, [], ◌∷◌, ◌++◌, map, length, codes, refl, ap, ◌∙◌}
use Rattle.std.proofs.lemmas.Bool.{both_ways, and_parts}
use Rattle.grammar.specs.Grammar.{Expr, half, box, two, move, one, called, Line, part, place, same_as, meet, model, same, one_of}
use Rattle.grammar.specs.Tokens.{code_of}
use Rattle.grammar.specs.Faults.{Token, Role, new_name, used_name, shape, measure, scale, of_part, of_place, of_box, most_parts}
use Rattle.grammar.specs.Meaning.{short, scales, fine, fine_shape}
use Rattle.reader.specs.Layout.{part_names}
use Rattle.reader.specs.Scan.{named_in}

-- the same over words alone
abbrev named_words : List Role → List (List ℕ) → List (List ℕ)
named_words rs [] = []
named_words [] (w ∷ ws) = cond (same w (codes "part")) (named_words of_part ws) (cond (same w (codes "place")) (named_words of_place ws) [])
named_words (new_name ∷ rs) (w ∷ ws) = w ∷ named_words rs ws
named_words (used_name ∷ rs) (w ∷ ws) = named_words rs ws
named_words (shape ∷ rs) (w ∷ ws) = cond (same w (codes "box")) (named_words (of_box ++ rs) ws) []
named_words (measure ∷ rs) (w ∷ ws) = named_words rs ws
named_words (scale ∷ rs) (w ∷ ws) = named_words rs ws

by_words : (rs : List Role) (ts : List Token) → named_in rs ts ≡ named_words rs (map (λ t. t.word) ts)
by_words [] [] = refl
by_words (r ∷ rs) [] = refl
by_words [] (t ∷ ts) = go (same t.word (codes "part")) (same t.word (codes "place")) (by_words of_part ts) (by_words of_place ts)
  where
    go : (a b : Bool) → named_in of_part ts ≡ named_words of_part (map (λ t. t.word) ts) → named_in of_place ts ≡ named_words of_place (map (λ t. t.word) ts) →
        cond a (named_in of_part ts) (cond b (named_in of_place ts) []) ≡ cond a (named_words of_part (map (λ t. t.word) ts)) (cond b (named_words of_place (map (λ t. t.word) ts)) [])
    go true b p q = p
    go false true p q = q
    go false false p q = refl
by_words (new_name ∷ rs) (t ∷ ts) = ap (λ (l : List (List ℕ)). t.word ∷ l) (by_words rs ts)
by_words (used_name ∷ rs) (t ∷ ts) = by_words rs ts
by_words (shape ∷ rs) (t ∷ ts) = ap (λ (l : List (List ℕ)). cond (same t.word (codes "box")) l []) (by_words (of_box ++ rs) ts)
by_words (measure ∷ rs) (t ∷ ts) = by_words rs ts
by_words (scale ∷ rs) (t ∷ ts) = by_words rs ts

-- what of a conjunction is at its end
last_of : (a b : Bool) → (a && b) ≡ true → b ≡ true
last_of a b h = (and_parts a b h).1

of_lines : (names : List (List ℕ)) (ls : List Line) → fine names ls ≡ true → named_words [] (code_of ls) ≡ part_names ls
of_lines names [] h = refl
of_lines names (part n e ∷ ls) h =
    let a = last_of (ltb (length names) most_parts) _ h in
    let b = last_of (not (one_of names n.0)) _ a in
    let c = and_parts (fine_shape e) (fine (names ++ n.0 ∷ []) ls) b in
    ap (λ (l : List (List ℕ)). n.0 ∷ l) (shaped e c.0 (of_lines (names ++ n.0 ∷ []) ls c.1))
  where
    shaped : (e : Expr) → fine_shape e ≡ true → named_words [] (code_of ls) ≡ part_names ls → named_words (shape ∷ []) (Rattle.grammar.specs.Tokens.code_e e (code_of ls)) ≡ part_names ls
    shaped (half a b c d) f k = absurd (both_ways false refl f)
    shaped (box x0 x1 y0 y1 z0 z1) f k = k
    shaped (two o e g) f k = absurd (both_ways false refl f)
    shaped (move x y z e) f k = absurd (both_ways false refl f)
    shaped (one o e) f k = absurd (both_ways false refl f)
    shaped (called m) f k = absurd (both_ways false refl f)
of_lines names (place n x y z w ∷ ls) h =
    let a = last_of (one_of names n.0) _ h in
    let b = last_of (short x) _ a in
    let c = last_of (short y) _ b in
    let d = last_of (short z) _ c in
    of_lines names ls (last_of (scales w) _ d)
of_lines names (same_as n m ∷ ls) h = absurd (both_ways false refl h)
of_lines names (meet n m ∷ ls) h = absurd (both_ways false refl h)
of_lines names (model n ∷ ls) h = absurd (both_ways false refl h)

pub names_are : (ts : List Token) (ls : List Line) → map (λ t. t.word) ts ≡ code_of ls → fine [] ls ≡ true → named_in [] ts ≡ part_names ls
names_are ts ls e f = by_words [] ts ∙ ap (named_words []) e ∙ of_lines [] ls f
