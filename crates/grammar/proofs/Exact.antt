-- The machine is exact: what a stack may still read, behind a byte, is what the next stack may read.
use Rattle.std.proofs.Common.{◌≡◌, ℕ, ◌≤◌, Bool, true, false, cond, ◌&&◌, ◌||◌, eqb, leb, ◌⊎◌, List, [], ◌∷◌, ◌++◌, length, ℤ, codes, sym, refl, ap, ◌∙◌, subst, subst₂, inl, inr, append_assoc, arith, length-append, Option, Some, None}
use Rattle.std.proofs.lemmas.Bool.{both_ways, eqb-true, eq-eqb, leb-true, le-leb, and_parts, and_from, or_left, or_cases, or_from, cond_both, cond-true, cond-false}
use Rattle.grammar.specs.Grammar.{Expr, half, box, two, move, one, called, Two, both, either, without, One, mirror, swap, turn, two_word, one_word, Line, part, place, same_as, meet, model, on_e, on_l, print, Text, is_word, is_name, is_num, is_pos, is_empty, digit, digit1, letter, alnum, all, same, one_of, Name, signed}
use Rattle.grammar.proofs.Numbers.{signed_num, num_signed}
use Rattle.grammar.specs.declared.types.Sep.{Sep}
use Rattle.grammar.specs.declared.types.Sep.TheVariants.{Space, Comma, Close, End}
use Rattle.grammar.specs.declared.types.Kind.{Kind}
use Rattle.grammar.specs.declared.types.Kind.TheVariants.{HalfWord, BoxWord, TwoWord, MoveWord, OneWord, NameWord, NoWord}
use Rattle.grammar.specs.Machine.{byte, Sym, lit, num, minus, digits, name, expr, after_p, after_m, two_words, one_words, kind_of, behind, step, Good}

-- what a stack may still read
abbrev pub Gen : List Sym → List ℕ → Type 0
Gen [] bs = Text bs
Gen (lit b ∷ s) bs = (r : List ℕ) × (bs ≡ b ∷ r) × Gen s r
Gen (num c ∷ s) bs = (z : ℤ) × (r : List ℕ) × (bs ≡ signed z ++ byte c ∷ r) × Gen s r
Gen (minus c ∷ s) bs = (n : List ℕ) × (r : List ℕ) × (is_pos n ≡ true) × (bs ≡ n ++ byte c ∷ r) × Gen s r
Gen (digits c ∷ s) bs = (n : List ℕ) × (r : List ℕ) × (all digit n ≡ true) × (bs ≡ n ++ byte c ∷ r) × Gen s r
Gen (name c w ∷ s) bs = (n : Name) × (r : List ℕ) × (w ++ bs ≡ n.0 ++ byte c ∷ r) × Gen s r
Gen (after_p ∷ s) bs = (l : Line) × (r : List ℕ) × (112 ∷ bs ≡ on_l l r) × Gen s r
Gen (after_m ∷ s) bs = (l : Line) × (r : List ℕ) × (109 ∷ bs ≡ on_l l r) × Gen s r
Gen (expr c w ∷ s) bs = (e : Expr) × (r : List ℕ) × (w ++ bs ≡ on_e e (byte c ∷ r)) × Gen s r

abbrev pub After : Option (List Sym) → List ℕ → Type 0
After None bs = ⊥
After (Some s) bs = Gen s bs

-- a test that passes, one that fails, and either
yes! : (t : Bool) (x y : Option (List Sym)) (bs : List ℕ) → t ≡ true → After x bs → After (cond t x y) bs
yes! true x y bs e a = a
yes! false x y bs e a = absurd (both_ways false refl e)

no! : (t : Bool) (x y : Option (List Sym)) (bs : List ℕ) → t ≡ false → After y bs → After (cond t x y) bs
no! true x y bs e a = absurd (both_ways true e refl)
no! false x y bs e a = a

split! : (t : Bool) (x y : Option (List Sym)) (bs : List ℕ) (G : Type 0) → (t ≡ true → After x bs → G) → (t ≡ false → After y bs → G) → After (cond t x y) bs → G
split! true x y bs G f g a = f refl a
split! false x y bs G f g a = g refl a

-- one byte
out_lit : (d b : ℕ) (s : List Sym) (bs : List ℕ) → Gen (lit d ∷ s) (b ∷ bs) → After (step (lit d ∷ s) b) bs
out_lit d b s bs g =
    let e : b ≡ d = cc in
    let f : g.0 ≡ bs = cc in
    yes! (eqb b d) (Some s) None bs (eq-eqb b d e) (subst (Gen s) f g.2)

in_lit : (d b : ℕ) (s : List Sym) (bs : List ℕ) → After (step (lit d ∷ s) b) bs → Gen (lit d ∷ s) (b ∷ bs)
in_lit d b s bs a =
    split! (eqb b d) (Some s) None bs (Gen (lit d ∷ s) (b ∷ bs)) (λ e g. (bs, ap (λ (x : ℕ). x ∷ bs) (eqb-true b d e), g)) (λ e g. absurd g) a

-- numbers
sep_digit : (c : Sep) → digit (byte c) ≡ false
sep_digit Space = refl
sep_digit Comma = refl
sep_digit Close = refl
sep_digit End = refl

pub sep_alnum : (c : Sep) → alnum (byte c) ≡ false
sep_alnum Space = refl
sep_alnum Comma = refl
sep_alnum Close = refl
sep_alnum End = refl

out_digits : (c : Sep) (b : ℕ) (s : List Sym) (bs n r : List ℕ) → all digit n ≡ true → b ∷ bs ≡ n ++ byte c ∷ r → Gen s r → After (step (digits c ∷ s) b) bs
out_digits c b s bs [] r d e g =
    let p : byte c ≡ b = cc in
    let q : r ≡ bs = cc in
    no! (digit b) _ _ bs (subst (λ (x : ℕ). digit x ≡ false) p (sep_digit c)) (yes! (eqb b (byte c)) (Some s) None bs (eq-eqb b (byte c) (sym p)) (subst (Gen s) q g))
out_digits c b s bs (x ∷ n) r d e g =
    let p : x ≡ b = cc in
    let q : bs ≡ n ++ byte c ∷ r = cc in
    let both = and_parts (digit x) (all digit n) d in
    yes! (digit b) _ _ bs (subst (λ (x : ℕ). digit x ≡ true) p both.0) (n, r, both.1, q, g)

in_digits : (c : Sep) (b : ℕ) (s : List Sym) (bs : List ℕ) → After (step (digits c ∷ s) b) bs → Gen (digits c ∷ s) (b ∷ bs)
in_digits c b s bs a =
    split! (digit b) _ _ bs (Gen (digits c ∷ s) (b ∷ bs))
    (λ e g. (b ∷ g.0, g.1, and_from (digit b) (all digit g.0) e g.2, ap (λ (x : List ℕ). b ∷ x) g.3, g.4))
    (λ _ h. split! (eqb b (byte c)) (Some s) None bs (Gen (digits c ∷ s) (b ∷ bs)) (λ e g. ([], bs, refl, ap (λ (x : ℕ). x ∷ bs) (eqb-true b (byte c) e), g)) (λ _ f. absurd f) h)
    a

out_minus : (c : Sep) (b : ℕ) (s : List Sym) (bs n r : List ℕ) → is_pos n ≡ true → b ∷ bs ≡ n ++ byte c ∷ r → Gen s r → After (step (minus c ∷ s) b) bs
out_minus c b s bs [] r d e g = absurd (both_ways false refl d)
out_minus c b s bs (x ∷ n) r d e g =
    let p : x ≡ b = cc in
    let q : bs ≡ n ++ byte c ∷ r = cc in
    let both = and_parts (digit1 x) (all digit n) d in
    yes! (digit1 b) _ _ bs (subst (λ (x : ℕ). digit1 x ≡ true) p both.0) (n, r, both.1, q, g)

in_minus : (c : Sep) (b : ℕ) (s : List Sym) (bs : List ℕ) → After (step (minus c ∷ s) b) bs → Gen (minus c ∷ s) (b ∷ bs)
in_minus c b s bs a =
    split! (digit1 b) _ _ bs (Gen (minus c ∷ s) (b ∷ bs))
    (λ e g. (b ∷ g.0, g.1, and_from (digit1 b) (all digit g.0) e g.2, ap (λ (x : List ℕ). b ∷ x) g.3, g.4))
    (λ _ h. absurd h)
    a

-- a number by its first byte
out_num : (c : Sep) (b : ℕ) (s : List Sym) (bs n r : List ℕ) → is_num n ≡ true → b ∷ bs ≡ n ++ byte c ∷ r → Gen s r → After (step (num c ∷ s) b) bs
out_num c b s bs [] r d e g = absurd (both_ways false refl d)
out_num c b s bs (x ∷ n) r d e g = go (eqb b 45) refl
  where
    p : x ≡ b
    p = cc

    q : bs ≡ n ++ byte c ∷ r
    q = cc

    d' : cond (eqb b 45) (is_pos n) (cond (eqb b 48) (is_empty n) (is_pos (b ∷ n))) ≡ true
    d' = subst (λ (y : ℕ). is_num (y ∷ n) ≡ true) p d

    zero! : (m : List ℕ) → is_empty m ≡ true → bs ≡ m ++ byte c ∷ r → Gen (lit (byte c) ∷ s) bs
    zero! [] h e = (r, e, g)
    zero! (y ∷ m) h e = absurd (both_ways false refl h)

    last : (t : Bool) → eqb b 45 ≡ false → eqb b 48 ≡ t → cond t (is_empty n) (is_pos (b ∷ n)) ≡ true → After (step (num c ∷ s) b) bs
    last true h k m = no! (eqb b 45) _ _ bs h (yes! (eqb b 48) _ _ bs k (zero! n m q))
    last false h k m =
        let both = and_parts (digit1 b) (all digit n) m in
        no! (eqb b 45) _ _ bs h (no! (eqb b 48) _ _ bs k (yes! (digit1 b) _ _ bs both.0 (n, r, both.1, q, g)))

    go : (t : Bool) → eqb b 45 ≡ t → After (step (num c ∷ s) b) bs
    go true h = yes! (eqb b 45) _ _ bs h (n, r, rw h at d', q, g)
    go false h = last (eqb b 48) h refl (rw h at d')

as_num : (c : Sep) (s : List Sym) (bs w r : List ℕ) → is_num w ≡ true → bs ≡ w ++ byte c ∷ r → Gen s r → Gen (num c ∷ s) bs
as_num c s bs w r h e g =
    let k = num_signed w h in
    (k.0, r, e ∙ ap (λ (x : List ℕ). x ++ byte c ∷ r) (sym k.1), g)

in_num : (c : Sep) (b : ℕ) (s : List Sym) (bs : List ℕ) → After (step (num c ∷ s) b) bs → Gen (num c ∷ s) (b ∷ bs)
in_num c b s bs a =
    split! (eqb b 45) _ _ bs (Gen (num c ∷ s) (b ∷ bs))
    (λ h g. as_num c s (b ∷ bs) (b ∷ g.0) g.1 (rw h g.2) (ap (λ (x : List ℕ). b ∷ x) g.3) g.4)
    (λ h k. split! (eqb b 48) _ _ bs (Gen (num c ∷ s) (b ∷ bs))
    (λ h2 g. as_num c s (b ∷ bs) (b ∷ []) g.0 (rw (h, h2)) (ap (λ (x : List ℕ). b ∷ x) g.1) g.2)
    (λ h2 k2. split! (digit1 b) _ _ bs (Gen (num c ∷ s) (b ∷ bs))
    (λ h3 g. as_num c s (b ∷ bs) (b ∷ g.0) g.1 (rw (h, h2) (and_from (digit1 b) (all digit g.0) h3 g.2)) (ap (λ (x : List ℕ). b ∷ x) g.3) g.4)
    (λ _ f. absurd f)
    k2)
    k)
    a

-- words: bytes so far are a word's, or none

pub alnum_word : (w : List ℕ) → is_word w ≡ true → all alnum w ≡ true
alnum_word [] h = refl
alnum_word (b ∷ w) h =
    let p = and_parts (letter b) (all alnum w && leb (length w) 11) h in
    let q = and_parts (all alnum w) (leb (length w) 11) p.1 in
    and_from (alnum b) (all alnum w) (or_left (letter b) (digit b) p.0) q.0

pub alnum_good : (w : List ℕ) → Good w → all alnum w ≡ true
alnum_good [] h = refl
alnum_good (b ∷ w) h = alnum_word (b ∷ w) h

all_front : (xs : List ℕ) (b : ℕ) (ys : List ℕ) → all alnum (xs ++ b ∷ ys) ≡ true → all alnum (xs ++ b ∷ []) ≡ true
all_front [] b ys h = and_from (alnum b) true (and_parts (alnum b) (all alnum ys) h).0 refl
all_front (x ∷ xs) b ys h =
    let p = and_parts (alnum x) (all alnum (xs ++ b ∷ ys)) h in
    and_from (alnum x) (all alnum (xs ++ b ∷ [])) p.0 (all_front xs b ys p.1)

-- the start of a word is a word
pub word_front : (w : List ℕ) (b : ℕ) (t : List ℕ) → is_word (w ++ b ∷ t) ≡ true → is_word (w ++ b ∷ []) ≡ true
word_front [] b t h = and_from (letter b) true (and_parts (letter b) _ h).0 refl
word_front (x ∷ w) b t h =
    let p = and_parts (letter x) (all alnum (w ++ b ∷ t) && leb (length (w ++ b ∷ t)) 11) h in
    let q = and_parts (all alnum (w ++ b ∷ t)) (leb (length (w ++ b ∷ t)) 11) p.1 in
    let l : length (w ++ b ∷ []) ≤ 11 = simp length-append (omega (arith, simp length-append at (leb-true (length (w ++ b ∷ t)) 11 q.1))) in
    and_from (letter x) _ p.0 (and_from (all alnum (w ++ b ∷ [])) _ (all_front w b t q.0) (le-leb (length (w ++ b ∷ [])) 11 l))

abbrev pub Aligned : (w n : List ℕ) (b d : ℕ) (u r : List ℕ) → Type 0
Aligned w n b d u r = ((w ≡ n) × (b ≡ d) × (u ≡ r)) ⊎ ((t : List ℕ) × (n ≡ w ++ b ∷ t))

pub align : (w n : List ℕ) (b d : ℕ) (u r : List ℕ) → all alnum w ≡ true → alnum d ≡ false → w ++ b ∷ u ≡ n ++ d ∷ r → Aligned w n b d u r
align [] [] b d u r hw hd e = inl (refl, cc, cc)
align [] (x ∷ n) b d u r hw hd e = inr (n, cc)
align (y ∷ w) [] b d u r hw hd e =
    let p : y ≡ d = cc in
    absurd (both_ways (alnum y) (subst (λ (z : ℕ). alnum z ≡ false) (sym p) hd) (and_parts (alnum y) (all alnum w) hw).0)
align (y ∷ w) (x ∷ n) b d u r hw hd e =
    let p : y ≡ x = cc in
    let q : w ++ b ∷ u ≡ n ++ d ∷ r = cc in
    more p (align w n b d u r (and_parts (alnum y) (all alnum w) hw).1 hd q)
  where
    more : y ≡ x → Aligned w n b d u r → Aligned (y ∷ w) (x ∷ n) b d u r
    more p (inl h) = inl (cc, h.1, h.2)
    more p (inr h) = let f = h.1 in inr (h.0, cc)

-- where a word cannot go on, it is whole
pub whole : (w n : List ℕ) (b d : ℕ) (u r : List ℕ) → Good w → is_word n ≡ true → alnum d ≡ false → is_word (w ++ b ∷ []) ≡ false → w ++ b ∷ u ≡ n ++ d ∷ r → (w ≡ n) × (b ≡ d) × (u ≡ r)
whole w n b d u r g hn hd no_more e = more (align w n b d u r (alnum_good w g) hd e)
  where
    more : Aligned w n b d u r → (w ≡ n) × (b ≡ d) × (u ≡ r)
    more (inl h) = h
    more (inr h) = absurd (both_ways (is_word (w ++ b ∷ [])) no_more (word_front w b h.0 (subst (λ (x : List ℕ). is_word x ≡ true) h.1 hn)))

-- names
out_name : (c : Sep) (w : List ℕ) (b : ℕ) (s : List Sym) (bs : List ℕ) → Good w → Gen (name c w ∷ s) (b ∷ bs) → After (step (name c w ∷ s) b) bs
out_name c w b s bs good g = go (is_word (w ++ b ∷ [])) refl
  where
    n : List ℕ
    n = g.0.0

    go : (t : Bool) → is_word (w ++ b ∷ []) ≡ t → After (step (name c w ∷ s) b) bs
    go true h = yes! (is_word (w ++ b ∷ [])) _ _ bs h (g.0, g.1, append_assoc w (b ∷ []) bs ∙ g.2, g.3)
    go false h =
        let k = whole w n b (byte c) bs g.1 good (and_parts (is_word n) _ g.0.1).0 (sep_alnum c) h g.2 in
        no! (is_word (w ++ b ∷ [])) _ _ bs h
        (yes! (is_name w) _ _ bs (subst (λ (x : List ℕ). is_name x ≡ true) (sym k.0) g.0.1)
        (yes! (eqb b (byte c)) (Some s) None bs (eq-eqb b (byte c) k.1) (subst (Gen s) (sym k.2) g.3)))

in_name : (c : Sep) (w : List ℕ) (b : ℕ) (s : List Sym) (bs : List ℕ) → After (step (name c w ∷ s) b) bs → Gen (name c w ∷ s) (b ∷ bs)
in_name c w b s bs a =
    split! (is_word (w ++ b ∷ [])) _ _ bs (Gen (name c w ∷ s) (b ∷ bs))
    (λ h g. (g.0, g.1, sym (append_assoc w (b ∷ []) bs) ∙ g.2, g.3))
    (λ _ k. split! (is_name w) _ _ bs (Gen (name c w ∷ s) (b ∷ bs))
    (λ h k2. split! (eqb b (byte c)) (Some s) None bs (Gen (name c w ∷ s) (b ∷ bs))
    (λ e g. ((w, h), bs, ap (λ (x : ℕ). w ++ x ∷ bs) (eqb-true b (byte c) e), g))
    (λ _ f. absurd f)
    k2)
    (λ _ f. absurd f)
    k)
    a

-- shapes
pub same_eq : (x y : List ℕ) → same x y ≡ true → x ≡ y
same_eq [] [] h = refl
same_eq [] (b ∷ y) h = absurd (both_ways false refl h)
same_eq (a ∷ x) [] h = absurd (both_ways false refl h)
same_eq (a ∷ x) (b ∷ y) h =
    let p = and_parts (eqb a b) (same x y) h in
    let e = eqb-true a b p.0 in
    let f = same_eq x y p.1 in
    cc

-- what a word's kind tells of it
abbrev pub Tells : Kind → List ℕ → Type 0
Tells HalfWord w = w ≡ codes "half"
Tells BoxWord w = w ≡ codes "box"
Tells TwoWord w = (o : Two) × (w ≡ two_word o)
Tells MoveWord w = w ≡ codes "move"
Tells OneWord w = (o : One) × (w ≡ one_word o)
Tells NameWord w = is_name w ≡ true
Tells NoWord w = Unit {0}

two_is : (w : List ℕ) → one_of two_words w ≡ true → (o : Two) × (w ≡ two_word o)
two_is w h = go (or_cases (same w (codes "both")) _ h)
  where
    more : (same w (codes "either") ≡ true) ⊎ ((same w (codes "without") || false) ≡ true) → (o : Two) × (w ≡ two_word o)
    more (inl e) = (either, same_eq w _ e)
    more (inr e) = last (or_cases (same w (codes "without")) false e)
      where
        last : (same w (codes "without") ≡ true) ⊎ (false ≡ true) → (o : Two) × (w ≡ two_word o)
        last (inl e) = (without, same_eq w _ e)
        last (inr e) = absurd (both_ways false refl e)

    go : (same w (codes "both") ≡ true) ⊎ ((same w (codes "either") || (same w (codes "without") || false)) ≡ true) → (o : Two) × (w ≡ two_word o)
    go (inl e) = (both, same_eq w _ e)
    go (inr e) = more (or_cases (same w (codes "either")) _ e)

one_is : (w : List ℕ) → one_of one_words w ≡ true → (o : One) × (w ≡ one_word o)
one_is w h = go (or_cases (same w (codes "mirror")) _ h)
  where
    more : (same w (codes "swap") ≡ true) ⊎ ((same w (codes "turn") || false) ≡ true) → (o : One) × (w ≡ one_word o)
    more (inl e) = (swap, same_eq w _ e)
    more (inr e) = last (or_cases (same w (codes "turn")) false e)
      where
        last : (same w (codes "turn") ≡ true) ⊎ (false ≡ true) → (o : One) × (w ≡ one_word o)
        last (inl e) = (turn, same_eq w _ e)
        last (inr e) = absurd (both_ways false refl e)

    go : (same w (codes "mirror") ≡ true) ⊎ ((same w (codes "swap") || (same w (codes "turn") || false)) ≡ true) → (o : One) × (w ≡ one_word o)
    go (inl e) = (mirror, same_eq w _ e)
    go (inr e) = more (or_cases (same w (codes "swap")) _ e)

pub tells : (w : List ℕ) → Tells (kind_of w) w
tells w =
    let P : Kind → Type 0 = λ k. Tells k w in
    cond_both (same w (codes "half")) _ _ P (same_eq w (codes "half"))
    (λ _. cond_both (same w (codes "box")) _ _ P (same_eq w (codes "box"))
    (λ _. cond_both (one_of two_words w) _ _ P (two_is w)
    (λ _. cond_both (same w (codes "move")) _ _ P (same_eq w (codes "move"))
    (λ _. cond_both (one_of one_words w) _ _ P (one_is w)
    (λ _. cond_both (is_name w) _ _ P (λ h. h) (λ _. tt))))))

-- a name is of the kind `NameWord`
not_same : (w k : List ℕ) → is_name w ≡ true → is_name k ≡ false → same w k ≡ false
not_same w k h n = go (same w k) refl
  where
    go : (t : Bool) → same w k ≡ t → same w k ≡ false
    go true e = absurd (both_ways (is_name k) n (subst (λ (x : List ℕ). is_name x ≡ true) (same_eq w k e) h))
    go false e = e

pub kind_name : (w : List ℕ) → is_name w ≡ true → kind_of w ≡ NameWord
kind_name w h =
    cond-false (same w (codes "half")) _ _ (not_same w (codes "half") h refl)
    ∙ cond-false (same w (codes "box")) _ _ (not_same w (codes "box") h refl)
    ∙ cond-false (one_of two_words w) _ _ (or_from _ _ (not_same w (codes "both") h refl) (or_from _ _ (not_same w (codes "either") h refl) (or_from _ _ (not_same w (codes "without") h refl) refl)))
    ∙ cond-false (same w (codes "move")) _ _ (not_same w (codes "move") h refl)
    ∙ cond-false (one_of one_words w) _ _ (or_from _ _ (not_same w (codes "mirror") h refl) (or_from _ _ (not_same w (codes "swap") h refl) (or_from _ _ (not_same w (codes "turn") h refl) refl)))
    ∙ cond-true (is_name w) NameWord NoWord h

-- the end of a word
at_end : (c : Sep) (w k : List ℕ) (b d : ℕ) (s : List Sym) (bs : List ℕ) → w ≡ k → b ≡ d → After (behind (kind_of k) c d s) bs → After (behind (kind_of w) c b s) bs
at_end c w k b d s bs p q a = subst₂ (λ (x : List ℕ) (y : ℕ). After (behind (kind_of x) c y s) bs) (sym p) (sym q) a

pub is_word-two_word : (o : Two) → is_word (two_word o) ≡ true
is_word-two_word both = refl
is_word-two_word either = refl
is_word-two_word without = refl

pub is_word-one_word : (o : One) → is_word (one_word o) ≡ true
is_word-one_word mirror = refl
is_word-one_word swap = refl
is_word-one_word turn = refl

at_two : (c : Sep) (o : Two) (s : List Sym) (bs : List ℕ) → Gen (expr Comma [] ∷ lit 32 ∷ expr Close [] ∷ lit (byte c) ∷ s) bs → After (behind (kind_of (two_word o)) c 40 s) bs
at_two c both s bs g = g
at_two c either s bs g = g
at_two c without s bs g = g

at_one : (c : Sep) (o : One) (s : List Sym) (bs : List ℕ) → Gen (expr Close [] ∷ lit (byte c) ∷ s) bs → After (behind (kind_of (one_word o)) c 40 s) bs
at_one c mirror s bs g = g
at_one c swap s bs g = g
at_one c turn s bs g = g

end_expr : (c : Sep) (w : List ℕ) (b : ℕ) (s : List Sym) (bs : List ℕ) → Good w → is_word (w ++ b ∷ []) ≡ false → (e : Expr) (r : List ℕ) → w ++ b ∷ bs ≡ on_e e (byte c ∷ r) → Gen s r → After (behind (kind_of w) c b s) bs
end_expr c w b s bs good h (half a1 a2 a3 a4) r e g =
    let k = whole w (codes "half") b 32 bs _ good refl refl h e in
    at_end c w (codes "half") b 32 s bs k.0 k.1 (a1, _, k.2, (a2, _, refl, (a3, _, refl, (a4, r, refl, g))))
end_expr c w b s bs good h (box a1 a2 a3 a4 a5 a6) r e g =
    let k = whole w (codes "box") b 32 bs _ good refl refl h e in
    at_end c w (codes "box") b 32 s bs k.0 k.1 (a1, _, k.2, (a2, _, refl, (a3, _, refl, (a4, _, refl, (a5, _, refl, (a6, r, refl, g))))))
end_expr c w b s bs good h (two o e1 e2) r e g =
    let k = whole w (two_word o) b 40 bs _ good (is_word-two_word o) refl h e in
    at_end c w (two_word o) b 40 s bs k.0 k.1 (at_two c o s bs (e1, _, k.2, (_, refl, (e2, _, refl, (r, refl, g)))))
end_expr c w b s bs good h (move a1 a2 a3 e1) r e g =
    let k = whole w (codes "move") b 32 bs _ good refl refl h e in
    at_end c w (codes "move") b 32 s bs k.0 k.1 (a1, _, k.2, (a2, _, refl, (a3, _, refl, (_, refl, (e1, _, refl, (r, refl, g))))))
end_expr c w b s bs good h (one o e1) r e g =
    let k = whole w (one_word o) b 40 bs _ good (is_word-one_word o) refl h e in
    at_end c w (one_word o) b 40 s bs k.0 k.1 (at_one c o s bs (e1, _, k.2, (r, refl, g)))
end_expr c w b s bs good h (called n) r e g =
    let k = whole w n.0 b (byte c) bs r good (and_parts (is_word n.0) _ n.1).0 (sep_alnum c) h e in
    let q : kind_of w ≡ NameWord = ap kind_of k.0 ∙ kind_name n.0 n.1 in
    subst (λ (x : Kind). After (behind x c b s) bs) (sym q) (yes! (eqb b (byte c)) (Some s) None bs (eq-eqb b (byte c) k.1) (subst (Gen s) (sym k.2) g))

out_expr : (c : Sep) (w : List ℕ) (b : ℕ) (s : List Sym) (bs : List ℕ) → Good w → Gen (expr c w ∷ s) (b ∷ bs) → After (step (expr c w ∷ s) b) bs
out_expr c w b s bs good g = go (is_word (w ++ b ∷ [])) refl
  where
    go : (t : Bool) → is_word (w ++ b ∷ []) ≡ t → After (step (expr c w ∷ s) b) bs
    go true h = yes! (is_word (w ++ b ∷ [])) _ _ bs h (g.0, g.1, append_assoc w (b ∷ []) bs ∙ g.2, g.3)
    go false h = no! (is_word (w ++ b ∷ [])) _ _ bs h (end_expr c w b s bs good h g.0 g.1 g.2 g.3)

-- from what is behind the word, back to the shape
in_end : (c : Sep) (w : List ℕ) (b : ℕ) (s : List Sym) (bs : List ℕ) (k : Kind) → Tells k w → After (behind k c b s) bs → Gen (expr c w ∷ s) (b ∷ bs)
in_end c w b s bs HalfWord h a =
    split! (eqb b 32) _ _ bs (Gen (expr c w ∷ s) (b ∷ bs))
    (λ e g. (
      half g.0 g.3.0 g.3.3.0 g.3.3.3.0,
      g.3.3.3.1,
      let p = eqb-true b 32 e in
          let q1 = g.2 in
          let q2 = g.3.2 in
          let q3 = g.3.3.2 in
          let q4 = g.3.3.3.2 in
          cc,
      g.3.3.3.3,
    ))
    (λ _ f. absurd f)
    a
in_end c w b s bs BoxWord h a =
    split! (eqb b 32) _ _ bs (Gen (expr c w ∷ s) (b ∷ bs))
    (λ e g. (
      box g.0 g.3.0 g.3.3.0 g.3.3.3.0 g.3.3.3.3.0 g.3.3.3.3.3.0,
      g.3.3.3.3.3.1,
      let p = eqb-true b 32 e in
          let q0 = g.2 in
          let q1 = g.3.2 in
          let q2 = g.3.3.2 in
          let q3 = g.3.3.3.2 in
          let q4 = g.3.3.3.3.2 in
          let q5 = g.3.3.3.3.3.2 in
          cc,
      g.3.3.3.3.3.3,
    ))
    (λ _ f. absurd f)
    a
in_end c w b s bs TwoWord h a =
    split! (eqb b 40) _ _ bs (Gen (expr c w ∷ s) (b ∷ bs))
    (λ e g. (
      two h.0 g.0 g.3.2.0,
      g.3.2.3.0,
      let p = eqb-true b 40 e in
          let q0 = g.2 in
          let q1 = g.3.1 in
          let q2 = g.3.2.2 in
          let q3 = g.3.2.3.1 in
          cc,
      g.3.2.3.2,
    ))
    (λ _ f. absurd f)
    a
in_end c w b s bs MoveWord h a =
    split! (eqb b 32) _ _ bs (Gen (expr c w ∷ s) (b ∷ bs))
    (λ e g. (
      move g.0 g.3.0 g.3.3.0 g.3.3.3.2.0,
      g.3.3.3.2.3.0,
      let p = eqb-true b 32 e in
          let q0 = g.2 in
          let q1 = g.3.2 in
          let q2 = g.3.3.2 in
          let q3 = g.3.3.3.1 in
          let q4 = g.3.3.3.2.2 in
          let q5 = g.3.3.3.2.3.1 in
          cc,
      g.3.3.3.2.3.2,
    ))
    (λ _ f. absurd f)
    a
in_end c w b s bs OneWord h a =
    split! (eqb b 40) _ _ bs (Gen (expr c w ∷ s) (b ∷ bs))
    (λ e g. (
      one h.0 g.0,
      g.3.0,
      let p = eqb-true b 40 e in
          let q0 = g.2 in
          let q1 = g.3.1 in
          cc,
      g.3.2,
    ))
    (λ _ f. absurd f)
    a
in_end c w b s bs NameWord h a =
    split! (eqb b (byte c)) (Some s) None bs (Gen (expr c w ∷ s) (b ∷ bs))
    (λ e g. (called (w, h), bs, ap (λ (x : ℕ). w ++ x ∷ bs) (eqb-true b (byte c) e), g))
    (λ _ f. absurd f)
    a
in_end c w b s bs NoWord h a = absurd a

in_expr : (c : Sep) (w : List ℕ) (b : ℕ) (s : List Sym) (bs : List ℕ) → After (step (expr c w ∷ s) b) bs → Gen (expr c w ∷ s) (b ∷ bs)
in_expr c w b s bs a =
    split! (is_word (w ++ b ∷ [])) _ _ bs (Gen (expr c w ∷ s) (b ∷ bs))
    (λ h g. (g.0, g.1, sym (append_assoc w (b ∷ []) bs) ∙ g.2, g.3))
    (λ _ k. in_end c w b s bs (kind_of w) (tells w) k)
    a

-- lines
out_p : (b : ℕ) (s : List Sym) (bs r : List ℕ) (l : Line) → 112 ∷ b ∷ bs ≡ on_l l r → Gen s r → After (step (after_p ∷ s) b) bs
out_p b s bs r (part n e) h g =
    let p : b ≡ 97 = cc in
    let q : bs ≡ 114 ∷ 116 ∷ 32 ∷ (n.0 ++ 32 ∷ 61 ∷ 32 ∷ on_e e (10 ∷ r)) = cc in
    yes! (eqb b 97) _ _ bs (eq-eqb b 97 p) (_, q, (_, refl, (_, refl, (n, _, refl, (_, refl, (_, refl, (e, _, refl, g)))))))
out_p b s bs r (place n x y z w) h g =
    let p : b ≡ 108 = cc in
    let q : bs ≡ 97 ∷ 99 ∷ 101 ∷ 32 ∷ (n.0 ++ 32 ∷ (signed x ++ 32 ∷ (signed y ++ 32 ∷ (signed z ++ 32 ∷ (signed w ++ 10 ∷ r))))) = cc in
    no! (eqb b 97) _ _ bs (subst (λ (x : ℕ). eqb x 97 ≡ false) (sym p) refl)
    (yes! (eqb b 108) _ _ bs (eq-eqb b 108 p) (_, q, (_, refl, (_, refl, (_, refl, (n, _, refl, (x, _, refl, (y, _, refl, (z, _, refl, (w, _, refl, g))))))))))
out_p b s bs r (same_as n m) h g = let z : ◌≡◌ {A = ℕ} 112 115 = cc in absurd (omega arith)
out_p b s bs r (meet n m) h g = let z : ◌≡◌ {A = ℕ} 112 109 = cc in absurd (omega arith)
out_p b s bs r (model n) h g = let z : ◌≡◌ {A = ℕ} 112 109 = cc in absurd (omega arith)

out_m : (b : ℕ) (s : List Sym) (bs r : List ℕ) (l : Line) → 109 ∷ b ∷ bs ≡ on_l l r → Gen s r → After (step (after_m ∷ s) b) bs
out_m b s bs r (part n e) h g = let z : ◌≡◌ {A = ℕ} 109 112 = cc in absurd (omega arith)
out_m b s bs r (place n x y z w) h g = let z : ◌≡◌ {A = ℕ} 109 112 = cc in absurd (omega arith)
out_m b s bs r (same_as n m) h g = let z : ◌≡◌ {A = ℕ} 109 115 = cc in absurd (omega arith)
out_m b s bs r (meet n m) h g =
    let p : b ≡ 101 = cc in
    let q : bs ≡ 101 ∷ 116 ∷ 32 ∷ (n.0 ++ 32 ∷ (m.0 ++ 10 ∷ r)) = cc in
    yes! (eqb b 101) _ _ bs (eq-eqb b 101 p) (_, q, (_, refl, (_, refl, (n, _, refl, (m, _, refl, g)))))
out_m b s bs r (model n) h g =
    let p : b ≡ 111 = cc in
    let q : bs ≡ 100 ∷ 101 ∷ 108 ∷ 32 ∷ (n.0 ++ 10 ∷ r) = cc in
    no! (eqb b 101) _ _ bs (subst (λ (x : ℕ). eqb x 101 ≡ false) (sym p) refl)
    (yes! (eqb b 111) _ _ bs (eq-eqb b 111 p) (_, q, (_, refl, (_, refl, (_, refl, (n, _, refl, g))))))

out_line : (b : ℕ) (bs : List ℕ) (ls : List Line) → b ∷ bs ≡ print ls → After (step [] b) bs
out_line b bs [] e = cc
out_line b bs (part n e ∷ ls) h =
    let p : b ≡ 112 = cc in
    yes! (eqb b 112) _ _ bs (eq-eqb b 112 p) (part n e, print ls, ap (λ (x : ℕ). x ∷ bs) (sym p) ∙ h, (ls, refl))
out_line b bs (place n x y z w ∷ ls) h =
    let p : b ≡ 112 = cc in
    yes! (eqb b 112) _ _ bs (eq-eqb b 112 p) (place n x y z w, print ls, ap (λ (x : ℕ). x ∷ bs) (sym p) ∙ h, (ls, refl))
out_line b bs (same_as n m ∷ ls) h =
    let p : b ≡ 115 = cc in
    let q : bs ≡ 97 ∷ 109 ∷ 101 ∷ 32 ∷ (n.0 ++ 32 ∷ (m.0 ++ 10 ∷ print ls)) = cc in
    no! (eqb b 112) _ _ bs (subst (λ (x : ℕ). eqb x 112 ≡ false) (sym p) refl)
    (no! (eqb b 109) _ _ bs (subst (λ (x : ℕ). eqb x 109 ≡ false) (sym p) refl)
    (yes! (eqb b 115) _ _ bs (eq-eqb b 115 p) (_, q, (_, refl, (_, refl, (_, refl, (n, _, refl, (m, _, refl, (ls, refl)))))))))
out_line b bs (meet n m ∷ ls) h =
    let p : b ≡ 109 = cc in
    no! (eqb b 112) _ _ bs (subst (λ (x : ℕ). eqb x 112 ≡ false) (sym p) refl)
    (yes! (eqb b 109) _ _ bs (eq-eqb b 109 p) (meet n m, print ls, ap (λ (x : ℕ). x ∷ bs) (sym p) ∙ h, (ls, refl)))
out_line b bs (model n ∷ ls) h =
    let p : b ≡ 109 = cc in
    no! (eqb b 112) _ _ bs (subst (λ (x : ℕ). eqb x 112 ≡ false) (sym p) refl)
    (yes! (eqb b 109) _ _ bs (eq-eqb b 109 p) (model n, print ls, ap (λ (x : ℕ). x ∷ bs) (sym p) ∙ h, (ls, refl)))

in_p : (b : ℕ) (s : List Sym) (bs : List ℕ) → After (step (after_p ∷ s) b) bs → Gen (after_p ∷ s) (b ∷ bs)
in_p b s bs a =
    split! (eqb b 97) _ _ bs (Gen (after_p ∷ s) (b ∷ bs))
    (λ e g. (
      part g.2.2.2.0 g.2.2.2.3.2.2.0,
      g.2.2.2.3.2.2.1,
      let p = eqb-true b 97 e in
          let q0 = g.1 in
          let q1 = g.2.1 in
          let q2 = g.2.2.1 in
          let q3 = g.2.2.2.2 in
          let q4 = g.2.2.2.3.1 in
          let q5 = g.2.2.2.3.2.1 in
          let q6 = g.2.2.2.3.2.2.2 in
          cc,
      g.2.2.2.3.2.2.3,
    ))
    (λ _ k. split! (eqb b 108) _ _ bs (Gen (after_p ∷ s) (b ∷ bs))
    (λ e g. (
      place g.2.2.2.2.0 g.2.2.2.2.3.0 g.2.2.2.2.3.3.0 g.2.2.2.2.3.3.3.0 g.2.2.2.2.3.3.3.3.0,
      g.2.2.2.2.3.3.3.3.1,
      let p = eqb-true b 108 e in
          let q0 = g.1 in
          let q1 = g.2.1 in
          let q2 = g.2.2.1 in
          let q3 = g.2.2.2.1 in
          let q4 = g.2.2.2.2.2 in
          let q5 = g.2.2.2.2.3.2 in
          let q6 = g.2.2.2.2.3.3.2 in
          let q7 = g.2.2.2.2.3.3.3.2 in
          let q8 = g.2.2.2.2.3.3.3.3.2 in
          cc,
      g.2.2.2.2.3.3.3.3.3,
    ))
    (λ _ f. absurd f)
    k)
    a

in_m : (b : ℕ) (s : List Sym) (bs : List ℕ) → After (step (after_m ∷ s) b) bs → Gen (after_m ∷ s) (b ∷ bs)
in_m b s bs a =
    split! (eqb b 101) _ _ bs (Gen (after_m ∷ s) (b ∷ bs))
    (λ e g. (
      meet g.2.2.2.0 g.2.2.2.3.0,
      g.2.2.2.3.1,
      let p = eqb-true b 101 e in
          let q0 = g.1 in
          let q1 = g.2.1 in
          let q2 = g.2.2.1 in
          let q3 = g.2.2.2.2 in
          let q4 = g.2.2.2.3.2 in
          cc,
      g.2.2.2.3.3,
    ))
    (λ _ k. split! (eqb b 111) _ _ bs (Gen (after_m ∷ s) (b ∷ bs))
    (λ e g. (
      model g.2.2.2.2.0,
      g.2.2.2.2.1,
      let p = eqb-true b 111 e in
          let q0 = g.1 in
          let q1 = g.2.1 in
          let q2 = g.2.2.1 in
          let q3 = g.2.2.2.1 in
          let q4 = g.2.2.2.2.2 in
          cc,
      g.2.2.2.2.3,
    ))
    (λ _ f. absurd f)
    k)
    a

in_line : (b : ℕ) (bs : List ℕ) → After (step [] b) bs → Text (b ∷ bs)
in_line b bs a =
    split! (eqb b 112) _ _ bs (Text (b ∷ bs))
    (λ e g. (g.0 ∷ g.3.0, ap (λ (x : ℕ). x ∷ bs) (eqb-true b 112 e) ∙ g.2 ∙ ap (on_l g.0) g.3.1))
    (λ _ k. split! (eqb b 109) _ _ bs (Text (b ∷ bs))
    (λ e g. (g.0 ∷ g.3.0, ap (λ (x : ℕ). x ∷ bs) (eqb-true b 109 e) ∙ g.2 ∙ ap (on_l g.0) g.3.1))
    (λ _ k2. split! (eqb b 115) _ _ bs (Text (b ∷ bs))
    (λ e g. (
      same_as g.2.2.2.2.0 g.2.2.2.2.3.0 ∷ g.2.2.2.2.3.3.0,
      let p = eqb-true b 115 e in
          let q0 = g.1 in
          let q1 = g.2.1 in
          let q2 = g.2.2.1 in
          let q3 = g.2.2.2.1 in
          let q4 = g.2.2.2.2.2 in
          let q5 = g.2.2.2.2.3.2 in
          let q99 = g.2.2.2.2.3.3.1 in
          cc,
    ))
    (λ _ f. absurd f)
    k2)
    k)
    a

-- stacks whose words so far are words
abbrev pub Sound : List Sym → Type 0
Sound [] = Unit {0}
Sound (lit d ∷ s) = Sound s
Sound (num c ∷ s) = Sound s
Sound (minus c ∷ s) = Sound s
Sound (digits c ∷ s) = Sound s
Sound (after_p ∷ s) = s ≡ []
Sound (after_m ∷ s) = s ≡ []
Sound (name c w ∷ s) = Good w × Sound s
Sound (expr c w ∷ s) = Good w × Sound s

pub out : (s : List Sym) (b : ℕ) (bs : List ℕ) → Sound s → Gen s (b ∷ bs) → After (step s b) bs
out [] b bs h g = out_line b bs g.0 g.1
out (lit d ∷ s) b bs h g = out_lit d b s bs g
out (num c ∷ s) b bs h g = out_num c b s bs (signed g.0) g.1 (signed_num g.0) g.2 g.3
out (after_p ∷ s) b bs h g = out_p b s bs g.1 g.0 g.2 g.3
out (after_m ∷ s) b bs h g = out_m b s bs g.1 g.0 g.2 g.3
out (minus c ∷ s) b bs h g = out_minus c b s bs g.0 g.1 g.2 g.3 g.4
out (digits c ∷ s) b bs h g = out_digits c b s bs g.0 g.1 g.2 g.3 g.4
out (name c w ∷ s) b bs h g = out_name c w b s bs h.0 g
out (expr c w ∷ s) b bs h g = out_expr c w b s bs h.0 g

pub back : (s : List Sym) (b : ℕ) (bs : List ℕ) → After (step s b) bs → Gen s (b ∷ bs)
back [] b bs a = in_line b bs a
back (lit d ∷ s) b bs a = in_lit d b s bs a
back (num c ∷ s) b bs a = in_num c b s bs a
back (after_p ∷ s) b bs a = in_p b s bs a
back (after_m ∷ s) b bs a = in_m b s bs a
back (minus c ∷ s) b bs a = in_minus c b s bs a
back (digits c ∷ s) b bs a = in_digits c b s bs a
back (name c w ∷ s) b bs a = in_name c w b s bs a
back (expr c w ∷ s) b bs a = in_expr c w b s bs a
