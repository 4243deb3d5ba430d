-- A text is the text of one list of lines only.
use Rattle.std.proofs.Common.{◌≡◌, ℕ, Bool, true, false, cond, eqb, leb, List, [], ◌∷◌, ◌++◌, ℤ, codes, sym, refl, ap, ◌∙◌, subst, arith}
use mathlib.Core.HLevel.{Σ_prop_path}
use mathlib.Core.Bool.{So-prop}
use Rattle.std.proofs.lemmas.Bool.{both_ways, and_parts, and_from, or_left, or_right, or_parts, cond-true, cond-false, leb-true, le-leb, eqb-true}
use Rattle.std.proofs.lemmas.List.{append_cancel_left}
use Rattle.grammar.specs.Grammar.{Expr, half, box, two, move, one, called, Two, both, either, without, One, mirror, swap, turn, two_word, one_word, Line, part, place, same_as, meet, model, on_e, on_l, print, is_word, is_name, is_num, is_pos, is_empty, digit, digit1, letter, alnum, all, Name, signed}
use Rattle.grammar.proofs.Numbers.{signed_num, signed_once}
use Rattle.grammar.specs.declared.types.Kind.{Kind}
use Rattle.grammar.specs.declared.types.Kind.TheVariants.{HalfWord, BoxWord, TwoWord, MoveWord, OneWord, NameWord, NoWord}
use Rattle.grammar.specs.Machine.{kind_of}
use Rattle.grammar.specs.Tokens.{in_tok}
use Rattle.grammar.proofs.Exact.{alnum_word, kind_name, is_word-two_word, is_word-one_word}

same_name : (a b : Name) → a.0 ≡ b.0 → a ≡ b
same_name a b e = Σ_prop_path (λ w. So-prop (is_name w)) e

-- bytes of words and numbers
apart : (w n : List ℕ) (b d : ℕ) (u r : List ℕ) → all in_tok w ≡ true → all in_tok n ≡ true → in_tok b ≡ false → in_tok d ≡ false → w ++ b ∷ u ≡ n ++ d ∷ r → (w ≡ n) × (b ∷ u ≡ d ∷ r)
apart [] [] b d u r hw hn hb hd e = (refl, e)
apart [] (x ∷ n) b d u r hw hn hb hd e =
    let p : b ≡ x = cc in
    absurd (both_ways (in_tok x) (subst (λ (z : ℕ). in_tok z ≡ false) p hb) (and_parts (in_tok x) (all in_tok n) hn).0)
apart (y ∷ w) [] b d u r hw hn hb hd e =
    let p : d ≡ y = cc in
    absurd (both_ways (in_tok y) (subst (λ (z : ℕ). in_tok z ≡ false) p hd) (and_parts (in_tok y) (all in_tok w) hw).0)
apart (y ∷ w) (x ∷ n) b d u r hw hn hb hd e =
    let p : y ≡ x = cc in
    let q : w ++ b ∷ u ≡ n ++ d ∷ r = cc in
    let k = apart w n b d u r (and_parts (in_tok y) (all in_tok w) hw).1 (and_parts (in_tok x) (all in_tok n) hn).1 hb hd q in
    let k0 = k.0 in
    (cc, k.1)

tok_alnum : (w : List ℕ) → all alnum w ≡ true → all in_tok w ≡ true
tok_alnum [] h = refl
tok_alnum (b ∷ w) h =
    let p = and_parts (alnum b) (all alnum w) h in
    and_from (in_tok b) (all in_tok w) (or_left (alnum b) (eqb b 45) p.0) (tok_alnum w p.1)

pub tok_two : (o : Two) → all in_tok (two_word o) ≡ true
tok_two o = tok_alnum (two_word o) (alnum_word (two_word o) (is_word-two_word o))

pub tok_one : (o : One) → all in_tok (one_word o) ≡ true
tok_one o = tok_alnum (one_word o) (alnum_word (one_word o) (is_word-one_word o))

pub tok_name : (n : Name) → all in_tok n.0 ≡ true
tok_name n = tok_alnum n.0 (alnum_word n.0 (and_parts (is_word n.0) _ n.1).0)

tok_digits : (w : List ℕ) → all digit w ≡ true → all in_tok w ≡ true
tok_digits [] h = refl
tok_digits (b ∷ w) h =
    let p = and_parts (digit b) (all digit w) h in
    and_from (in_tok b) (all in_tok w) (or_left (alnum b) (eqb b 45) (or_right (letter b) (digit b) p.0)) (tok_digits w p.1)

digit_from : (b : ℕ) → digit1 b ≡ true → digit b ≡ true
digit_from b h =
    let p = and_parts (leb 49 b) (leb b 57) h in
    and_from (leb 48 b) (leb b 57) (le-leb 48 b (omega (arith, leb-true 49 b p.0))) p.1

tok_pos : (w : List ℕ) → is_pos w ≡ true → all in_tok w ≡ true
tok_pos [] h = refl
tok_pos (b ∷ w) h =
    let p = and_parts (digit1 b) (all digit w) h in
    tok_digits (b ∷ w) (and_from (digit b) (all digit w) (digit_from b p.0) p.1)

pub tok_num : (w : List ℕ) → is_num w ≡ true → all in_tok w ≡ true
tok_num [] h = refl
tok_num (b ∷ w) h = go (eqb b 45) refl
  where
    nothing : (w : List ℕ) → is_empty w ≡ true → all in_tok w ≡ true
    nothing [] h = refl
    nothing (x ∷ w) h = absurd (both_ways false refl h)

    zero! : eqb b 45 ≡ false → (t : Bool) → eqb b 48 ≡ t → cond t (is_empty w) (is_pos (b ∷ w)) ≡ true → all in_tok (b ∷ w) ≡ true
    zero! n true e k = and_from (in_tok b) (all in_tok w) (subst (λ (x : ℕ). in_tok x ≡ true) (sym (eqb-true b 48 e)) refl) (nothing w k)
    zero! n false e k = tok_pos (b ∷ w) k

    go : (t : Bool) → eqb b 45 ≡ t → all in_tok (b ∷ w) ≡ true
    go true e = and_from (in_tok b) (all in_tok w) (or_right (alnum b) (eqb b 45) e) (tok_pos w (rw e at h))
    go false e = zero! e (eqb b 48) refl (rw e at h)

-- two numbers, or two names, each with a byte that ends it
two_nums : (a b : ℤ) (c d : ℕ) (u r : List ℕ) → in_tok c ≡ false → in_tok d ≡ false → signed a ++ c ∷ u ≡ signed b ++ d ∷ r → (a ≡ b) × (c ∷ u ≡ d ∷ r)
two_nums a b c d u r hc hd e =
    let k = apart (signed a) (signed b) c d u r (tok_num (signed a) (signed_num a)) (tok_num (signed b) (signed_num b)) hc hd e in
    (signed_once a b k.0, k.1)

two_names : (a b : Name) (c d : ℕ) (u r : List ℕ) → in_tok c ≡ false → in_tok d ≡ false → a.0 ++ c ∷ u ≡ b.0 ++ d ∷ r → (a ≡ b) × (c ∷ u ≡ d ∷ r)
two_names a b c d u r hc hd e =
    let k = apart a.0 b.0 c d u r (tok_name a) (tok_name b) hc hd e in
    (same_name a b k.0, k.1)

-- a shape's first word says how it is made
front : List ℕ → List ℕ
front [] = []
front (b ∷ bs) = cond (alnum b) (b ∷ front bs) []

front_at : (n : List ℕ) (d : ℕ) (r : List ℕ) → all alnum n ≡ true → alnum d ≡ false → front (n ++ d ∷ r) ≡ n
unfolding front
front_at [] d r hn hd = cond-false (alnum d) _ _ hd
front_at (x ∷ n) d r hn hd =
    let p = and_parts (alnum x) (all alnum n) hn in
    cond-true (alnum x) _ _ p.0 ∙ ap (λ (y : List ℕ). x ∷ y) (front_at n d r p.1 hd)

abbrev tag : Expr → Kind
tag (half a b c d) = HalfWord
tag (box a b c d e f) = BoxWord
tag (two o e f) = TwoWord
tag (move x y z e) = MoveWord
tag (one o e) = OneWord
tag (called n) = NameWord

tag_is : (e : Expr) (d : ℕ) (r : List ℕ) → in_tok d ≡ false → kind_of (front (on_e e (d ∷ r))) ≡ tag e
unfolding front
tag_is (half a1 a2 a3 a4) d r h = refl
tag_is (box a1 a2 a3 a4 a5 a6) d r h = refl
tag_is (two both e1 e2) d r h = refl
tag_is (two either e1 e2) d r h = refl
tag_is (two without e1 e2) d r h = refl
tag_is (move a1 a2 a3 e1) d r h = refl
tag_is (one mirror e1) d r h = refl
tag_is (one swap e1) d r h = refl
tag_is (one turn e1) d r h = refl
tag_is (called n) d r h =
    ap kind_of (front_at n.0 d r (alnum_word n.0 (and_parts (is_word n.0) _ n.1).0) (or_parts (alnum d) (eqb d 45) h).0) ∙ kind_name n.0 n.1

abbrev View : Kind → Expr → Type 0
View HalfWord e = (a b c d : ℤ) × (e ≡ half a b c d)
View BoxWord e = (a b c d f g : ℤ) × (e ≡ box a b c d f g)
View TwoWord e = (o : Two) × (f g : Expr) × (e ≡ two o f g)
View MoveWord e = (x y z : ℤ) × (f : Expr) × (e ≡ move x y z f)
View OneWord e = (o : One) × (f : Expr) × (e ≡ one o f)
View NameWord e = (n : Name) × (e ≡ called n)
View NoWord e = Unit {0}

view : (e : Expr) → View (tag e) e
view (half a b c d) = (a, b, c, d, refl)
view (box a b c d e f) = (a, b, c, d, e, f, refl)
view (two o e f) = (o, e, f, refl)
view (move x y z e) = (x, y, z, e, refl)
view (one o e) = (o, e, refl)
view (called n) = (n, refl)

viewed : (e e' : Expr) (d d' : ℕ) (r r' : List ℕ) → in_tok d ≡ false → in_tok d' ≡ false → on_e e (d ∷ r) ≡ on_e e' (d' ∷ r') → View (tag e) e'
viewed e e' d d' r r' h h' q =
    subst (λ (k : Kind). View k e') (sym (tag_is e' d' r' h') ∙ ap (λ (x : List ℕ). kind_of (front x)) (sym q) ∙ tag_is e d r h) (view e')

two_once : (o p : Two) → two_word o ≡ two_word p → o ≡ p
two_once both both e = refl
two_once both either e = let z : ◌≡◌ {A = ℕ} 98 101 = cc in absurd (omega arith)
two_once both without e = let z : ◌≡◌ {A = ℕ} 98 119 = cc in absurd (omega arith)
two_once either both e = let z : ◌≡◌ {A = ℕ} 101 98 = cc in absurd (omega arith)
two_once either either e = refl
two_once either without e = let z : ◌≡◌ {A = ℕ} 101 119 = cc in absurd (omega arith)
two_once without both e = let z : ◌≡◌ {A = ℕ} 119 98 = cc in absurd (omega arith)
two_once without either e = let z : ◌≡◌ {A = ℕ} 119 101 = cc in absurd (omega arith)
two_once without without e = refl

one_once : (o p : One) → one_word o ≡ one_word p → o ≡ p
one_once mirror mirror e = refl
one_once mirror swap e = let z : ◌≡◌ {A = ℕ} 109 115 = cc in absurd (omega arith)
one_once mirror turn e = let z : ◌≡◌ {A = ℕ} 109 116 = cc in absurd (omega arith)
one_once swap mirror e = let z : ◌≡◌ {A = ℕ} 115 109 = cc in absurd (omega arith)
one_once swap swap e = refl
one_once swap turn e = let z : ◌≡◌ {A = ℕ} 115 116 = cc in absurd (omega arith)
one_once turn mirror e = let z : ◌≡◌ {A = ℕ} 116 109 = cc in absurd (omega arith)
one_once turn swap e = let z : ◌≡◌ {A = ℕ} 116 115 = cc in absurd (omega arith)
one_once turn turn e = refl

-- a shape's text, with a byte that ends it, is that of no other
two_shapes : (e e' : Expr) (d d' : ℕ) (r r' : List ℕ) → in_tok d ≡ false → in_tok d' ≡ false → on_e e (d ∷ r) ≡ on_e e' (d' ∷ r') → (e ≡ e') × (d ∷ r ≡ d' ∷ r')
two_shapes (half a b c g) e' d d' r r' h h' q =
    let v = viewed (half a b c g) e' d d' r r' h h' q in
    let f = v.4 in
    let k0 = q ∙ ap (λ (x : Expr). on_e x (d' ∷ r')) f in
    let k1 = two_nums a v.0 32 32 _ _ refl refl (append_cancel_left (codes "half ") _ _ k0) in
    let k2 = two_nums b v.1 32 32 _ _ refl refl (append_cancel_left (32 ∷ []) _ _ k1.1) in
    let k3 = two_nums c v.2 32 32 _ _ refl refl (append_cancel_left (32 ∷ []) _ _ k2.1) in
    let k4 = two_nums g v.3 d d' r r' h h' (append_cancel_left (32 ∷ []) _ _ k3.1) in
    let i1 = k1.0 in
    let i2 = k2.0 in
    let i3 = k3.0 in
    let i4 = k4.0 in
    (cc, k4.1)
two_shapes (box a b c g i j) e' d d' r r' h h' q =
    let v = viewed (box a b c g i j) e' d d' r r' h h' q in
    let f = v.6 in
    let k0 = q ∙ ap (λ (x : Expr). on_e x (d' ∷ r')) f in
    let k1 = two_nums a v.0 32 32 _ _ refl refl (append_cancel_left (codes "box ") _ _ k0) in
    let k2 = two_nums b v.1 32 32 _ _ refl refl (append_cancel_left (32 ∷ []) _ _ k1.1) in
    let k3 = two_nums c v.2 32 32 _ _ refl refl (append_cancel_left (32 ∷ []) _ _ k2.1) in
    let k4 = two_nums g v.3 32 32 _ _ refl refl (append_cancel_left (32 ∷ []) _ _ k3.1) in
    let k5 = two_nums i v.4 32 32 _ _ refl refl (append_cancel_left (32 ∷ []) _ _ k4.1) in
    let k6 = two_nums j v.5 d d' r r' h h' (append_cancel_left (32 ∷ []) _ _ k5.1) in
    let i1 = k1.0 in
    let i2 = k2.0 in
    let i3 = k3.0 in
    let i4 = k4.0 in
    let i5 = k5.0 in
    let i6 = k6.0 in
    (cc, k6.1)
two_shapes (two o e1 e2) e' d d' r r' h h' q =
    let v = viewed (two o e1 e2) e' d d' r r' h h' q in
    let f = v.3 in
    let k0 = q ∙ ap (λ (x : Expr). on_e x (d' ∷ r')) f in
    let k = apart (two_word o) (two_word v.0) 40 40 _ _ (tok_two o) (tok_two v.0) refl refl k0 in
    let i0 = two_once o v.0 k.0 in
    let k1 = two_shapes e1 v.1 44 44 _ _ refl refl (append_cancel_left (40 ∷ []) _ _ k.1) in
    let k2 = two_shapes e2 v.2 41 41 _ _ refl refl (append_cancel_left (44 ∷ 32 ∷ []) _ _ k1.1) in
    let i1 = k1.0 in
    let i2 = k2.0 in
    (cc, append_cancel_left (41 ∷ []) _ _ k2.1)
two_shapes (move a b c e1) e' d d' r r' h h' q =
    let v = viewed (move a b c e1) e' d d' r r' h h' q in
    let f = v.4 in
    let k0 = q ∙ ap (λ (x : Expr). on_e x (d' ∷ r')) f in
    let k1 = two_nums a v.0 32 32 _ _ refl refl (append_cancel_left (codes "move ") _ _ k0) in
    let k2 = two_nums b v.1 32 32 _ _ refl refl (append_cancel_left (32 ∷ []) _ _ k1.1) in
    let k3 = two_nums c v.2 32 32 _ _ refl refl (append_cancel_left (32 ∷ []) _ _ k2.1) in
    let k4 = two_shapes e1 v.3 41 41 _ _ refl refl (append_cancel_left (32 ∷ 40 ∷ []) _ _ k3.1) in
    let i1 = k1.0 in
    let i2 = k2.0 in
    let i3 = k3.0 in
    let i4 = k4.0 in
    (cc, append_cancel_left (41 ∷ []) _ _ k4.1)
two_shapes (one o e1) e' d d' r r' h h' q =
    let v = viewed (one o e1) e' d d' r r' h h' q in
    let f = v.2 in
    let k0 = q ∙ ap (λ (x : Expr). on_e x (d' ∷ r')) f in
    let k = apart (one_word o) (one_word v.0) 40 40 _ _ (tok_one o) (tok_one v.0) refl refl k0 in
    let i0 = one_once o v.0 k.0 in
    let k1 = two_shapes e1 v.1 41 41 _ _ refl refl (append_cancel_left (40 ∷ []) _ _ k.1) in
    let i1 = k1.0 in
    (cc, append_cancel_left (41 ∷ []) _ _ k1.1)
two_shapes (called n) e' d d' r r' h h' q =
    let v = viewed (called n) e' d d' r r' h h' q in
    let f = v.1 in
    let k0 = q ∙ ap (λ (x : Expr). on_e x (d' ∷ r')) f in
    let k1 = two_names n v.0 d d' r r' h h' k0 in
    let i1 = k1.0 in
    (cc, k1.1)

two_lines : (l m : Line) (r r' : List ℕ) → on_l l r ≡ on_l m r' → (l ≡ m) × (r ≡ r')
two_lines (part n e) (part n' e') r r' q =
    let k0 = two_names n n' 32 32 _ _ refl refl (append_cancel_left (codes "part ") _ _ q) in
    let i0 = k0.0 in
    let k1 = two_shapes e e' 10 10 r r' refl refl (append_cancel_left (32 ∷ 61 ∷ 32 ∷ []) _ _ k0.1) in
    let i1 = k1.0 in
    (cc, append_cancel_left (10 ∷ []) _ _ k1.1)
two_lines (part n e) (place n' x' y' z' w') r r' q = let d : ◌≡◌ {A = ℕ} 97 108 = cc in absurd (omega arith)
two_lines (part n e) (same_as n' m') r r' q = let d : ◌≡◌ {A = ℕ} 112 115 = cc in absurd (omega arith)
two_lines (part n e) (meet n' m') r r' q = let d : ◌≡◌ {A = ℕ} 112 109 = cc in absurd (omega arith)
two_lines (part n e) (model n') r r' q = let d : ◌≡◌ {A = ℕ} 112 109 = cc in absurd (omega arith)
two_lines (place n x y z w) (part n' e') r r' q = let d : ◌≡◌ {A = ℕ} 108 97 = cc in absurd (omega arith)
two_lines (place n x y z w) (place n' x' y' z' w') r r' q =
    let k0 = two_names n n' 32 32 _ _ refl refl (append_cancel_left (codes "place ") _ _ q) in
    let i0 = k0.0 in
    let k1 = two_nums x x' 32 32 _ _ refl refl (append_cancel_left (32 ∷ []) _ _ k0.1) in
    let i1 = k1.0 in
    let k2 = two_nums y y' 32 32 _ _ refl refl (append_cancel_left (32 ∷ []) _ _ k1.1) in
    let i2 = k2.0 in
    let k3 = two_nums z z' 32 32 _ _ refl refl (append_cancel_left (32 ∷ []) _ _ k2.1) in
    let i3 = k3.0 in
    let k4 = two_nums w w' 10 10 _ _ refl refl (append_cancel_left (32 ∷ []) _ _ k3.1) in
    let i4 = k4.0 in
    (cc, append_cancel_left (10 ∷ []) _ _ k4.1)
two_lines (place n x y z w) (same_as n' m') r r' q = let d : ◌≡◌ {A = ℕ} 112 115 = cc in absurd (omega arith)
two_lines (place n x y z w) (meet n' m') r r' q = let d : ◌≡◌ {A = ℕ} 112 109 = cc in absurd (omega arith)
two_lines (place n x y z w) (model n') r r' q = let d : ◌≡◌ {A = ℕ} 112 109 = cc in absurd (omega arith)
two_lines (same_as n m) (part n' e') r r' q = let d : ◌≡◌ {A = ℕ} 115 112 = cc in absurd (omega arith)
two_lines (same_as n m) (place n' x' y' z' w') r r' q = let d : ◌≡◌ {A = ℕ} 115 112 = cc in absurd (omega arith)
two_lines (same_as n m) (same_as n' m') r r' q =
    let k0 = two_names n n' 32 32 _ _ refl refl (append_cancel_left (codes "same ") _ _ q) in
    let i0 = k0.0 in
    let k1 = two_names m m' 10 10 _ _ refl refl (append_cancel_left (32 ∷ []) _ _ k0.1) in
    let i1 = k1.0 in
    (cc, append_cancel_left (10 ∷ []) _ _ k1.1)
two_lines (same_as n m) (meet n' m') r r' q = let d : ◌≡◌ {A = ℕ} 115 109 = cc in absurd (omega arith)
two_lines (same_as n m) (model n') r r' q = let d : ◌≡◌ {A = ℕ} 115 109 = cc in absurd (omega arith)
two_lines (meet n m) (part n' e') r r' q = let d : ◌≡◌ {A = ℕ} 109 112 = cc in absurd (omega arith)
two_lines (meet n m) (place n' x' y' z' w') r r' q = let d : ◌≡◌ {A = ℕ} 109 112 = cc in absurd (omega arith)
two_lines (meet n m) (same_as n' m') r r' q = let d : ◌≡◌ {A = ℕ} 109 115 = cc in absurd (omega arith)
two_lines (meet n m) (meet n' m') r r' q =
    let k0 = two_names n n' 32 32 _ _ refl refl (append_cancel_left (codes "meet ") _ _ q) in
    let i0 = k0.0 in
    let k1 = two_names m m' 10 10 _ _ refl refl (append_cancel_left (32 ∷ []) _ _ k0.1) in
    let i1 = k1.0 in
    (cc, append_cancel_left (10 ∷ []) _ _ k1.1)
two_lines (meet n m) (model n') r r' q = let d : ◌≡◌ {A = ℕ} 101 111 = cc in absurd (omega arith)
two_lines (model n) (part n' e') r r' q = let d : ◌≡◌ {A = ℕ} 109 112 = cc in absurd (omega arith)
two_lines (model n) (place n' x' y' z' w') r r' q = let d : ◌≡◌ {A = ℕ} 109 112 = cc in absurd (omega arith)
two_lines (model n) (same_as n' m') r r' q = let d : ◌≡◌ {A = ℕ} 109 115 = cc in absurd (omega arith)
two_lines (model n) (meet n' m') r r' q = let d : ◌≡◌ {A = ℕ} 111 101 = cc in absurd (omega arith)
two_lines (model n) (model n') r r' q =
    let k0 = two_names n n' 10 10 _ _ refl refl (append_cancel_left (codes "model ") _ _ q) in
    let i0 = k0.0 in
    (cc, append_cancel_left (10 ∷ []) _ _ k0.1)

line_some : (l : Line) (r : List ℕ) → [] ≡ on_l l r → ⊥
line_some (part n e) r q = cc
line_some (place n x y z w) r q = cc
line_some (same_as n m) r q = cc
line_some (meet n m) r q = cc
line_some (model n) r q = cc

pub once : (ls ms : List Line) → print ls ≡ print ms → ls ≡ ms
once [] [] q = refl
once [] (m ∷ ms) q = absurd (line_some m (print ms) q)
once (l ∷ ls) [] q = absurd (line_some l (print ls) (sym q))
once (l ∷ ls) (m ∷ ms) q =
    let k = two_lines l m (print ls) (print ms) q in
    let i = k.0 in
    let j = once ls ms k.1 in
    cc
