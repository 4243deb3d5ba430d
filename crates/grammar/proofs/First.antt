-- Which fault of a text comes first.
use Rattle.std.proofs.Common.{◌≡◌, ℕ, suc, ◌+◌, ◌-◌, ◌<◌, ◌≤◌, Bool, true, false, cond, not, ◌&&◌, eqb, ltb, leb, ◌⊎◌, List, [], ◌∷◌, ◌++◌, length, get_or, take, drop, codes, sym, refl, ap, ◌∙◌, subst, inl, inr, append-nil, arith, length-take, le-ltb}
use Rattle.std.specs.List.{ContainsAt, AllByRecursion}
use Rattle.std.proofs.ByRecursion.{All-append, All-weaker, All-get_or, All-map, all-has, all_kept_by}
use Rattle.std.proofs.lemmas.Bool.{cases_order, cond-false, and_left}
use Rattle.std.proofs.lemmas.List.{take_all}
use Rattle.grammar.specs.Grammar.{same, one_of, is_name, Text, Refused}
use Rattle.grammar.specs.Tokens.{in_tok, tok_at, starts_from, once_if}
use Rattle.grammar.specs.Faults.{Fault, fault, Token, token, tokens, Role, new_name, used_name, shape, measure, scale, of_part, of_place, of_box, scan, if_so, looked, word_faults, beyond, no_scale, most_parts, later, most_bytes, Reaches, seen, Faulty, stuck, long, wrong, Before, FirstFault}
use Rattle.grammar.proofs.Spacing.{Ascends, ascends_all, word_faults_ascend}
use Rattle.grammar.proofs.Laws.{one_place, not_both, shorter}

-- a word begins within the bytes
starts_below : (t : Bool) (i : ℕ) (ys : List ℕ) → AllByRecursion (λ p. p < i + length ys) (starts_from t i ys)
starts_below t i [] = tt
starts_below t i (b ∷ ys) =
    All-append (λ p. p < i + length (b ∷ ys)) (once_if (not t && in_tok b) i) (starts_from (in_tok b) (suc i) ys) (one (not t && in_tok b))
    (All-weaker (λ p. p < suc i + length ys) (λ p. p < i + length (b ∷ ys)) (λ p h. omega arith) (starts_from (in_tok b) (suc i) ys) (starts_below (in_tok b) (suc i) ys))
  where
    one : (u : Bool) → AllByRecursion (λ p. p < i + length (b ∷ ys)) (once_if u i)
    one true = (omega arith, tt)
    one false = tt

pub all_inside : (bs : List ℕ) → AllByRecursion (λ p. p < length bs) (starts_from false 0 bs)
all_inside bs = All-weaker (λ p. p < 0 + length bs) (λ p. p < length bs) (λ p h. omega arith) (starts_from false 0 bs) (starts_below false 0 bs)

pub starts_inside : (bs ps : List ℕ) (k : ℕ) → ps ≡ starts_from false 0 bs → k < length ps → get_or ps k 0 < length bs
starts_inside bs ps k e h = All-get_or (λ p. p < length bs) ps k 0 h (subst (λ (l : List ℕ). AllByRecursion (λ p. p < length bs) l) (sym e) (all_inside bs))

-- a fault is told where a word begins
module _ (P : ℕ → Type 0) where
  so_place : (b : Bool) (k : ℕ) (t : Token) (fs : List Fault) → P t.start → AllByRecursion (λ f. P f.place) fs → AllByRecursion (λ f. P f.place) (if_so b k t ++ fs)
  so_place true k t fs h a = (h, a)
  so_place false k t fs h a = a

  lone : (b : Bool) (k : ℕ) (t : Token) → P t.start → AllByRecursion (λ f. P f.place) (if_so b k t)
  lone true k t h = (h, tt)
  lone false k t h = tt

  scan_places : (names : List (List ℕ)) (rs : List Role) (ts : List Token) → AllByRecursion (λ t. P t.start) ts → AllByRecursion (λ f. P f.place) (scan names rs ts)
  scan_places names [] [] s = tt
  scan_places names (r ∷ rs) [] s = tt
  scan_places names [] (t ∷ ts) s = go (same t.word (codes "part")) (same t.word (codes "place")) (scan_places names of_part ts s.1) (scan_places names of_place ts s.1)
    where
      go : (a b : Bool) → AllByRecursion (λ f. P f.place) (scan names of_part ts) → AllByRecursion (λ f. P f.place) (scan names of_place ts) →
          AllByRecursion (λ f. P f.place) (cond a (if_so (leb most_parts (length names)) 3 t ++ scan names of_part ts) (cond b (scan names of_place ts) (if_so (one_of later t.word) 1 t)))
      go true b p q = so_place (leb most_parts (length names)) 3 t (scan names of_part ts) s.0 p
      go false true p q = q
      go false false p q = lone (one_of later t.word) 1 t s.0
  scan_places names (new_name ∷ rs) (t ∷ ts) s =
      so_place (is_name t.word && one_of names t.word) 2 t (scan (names ++ t.word ∷ []) rs ts) s.0 (scan_places (names ++ t.word ∷ []) rs ts s.1)
  scan_places names (used_name ∷ rs) (t ∷ ts) s = so_place (is_name t.word && not (one_of names t.word)) 2 t (scan names rs ts) s.0 (scan_places names rs ts s.1)
  scan_places names (shape ∷ rs) (t ∷ ts) s = go (same t.word (codes "box")) (scan_places names (of_box ++ rs) ts s.1)
    where
      go : (a : Bool) → AllByRecursion (λ f. P f.place) (scan names (of_box ++ rs) ts) → AllByRecursion (λ f. P f.place) (cond a (scan names (of_box ++ rs) ts) (if_so true 1 t))
      go true p = p
      go false p = (s.0, tt)
  scan_places names (measure ∷ rs) (t ∷ ts) s = so_place (beyond t.word) 4 t (scan names rs ts) s.0 (scan_places names rs ts s.1)
  scan_places names (scale ∷ rs) (t ∷ ts) s = so_place (no_scale t.word) 4 t (scan names rs ts) s.0 (scan_places names rs ts s.1)

-- a fault of words is told within the bytes
pub faults_inside : (read : ℕ) (bs : List ℕ) → AllByRecursion (λ f. f.place < length bs) (word_faults read bs)
faults_inside read bs =
    scan_places (λ p. p < length bs) [] [] (looked read bs)
    (all_kept_by (λ t. leb (t.start + length t.word) read) (λ t. t.start < length bs) (tokens bs)
    (All-map (λ t. t.start < length bs) (λ p. token p (tok_at (drop p bs))) (starts_from false 0 bs) (all_inside bs)))

-- bytes begin a text so far and no farther
pub one_reach : (bs : List ℕ) (p q : ℕ) → Reaches bs p → Reaches bs q → p ≡ q
one_reach bs p q a b = go (cases_order p q)
  where
    far : (p q : ℕ) → Reaches bs p → Reaches bs q → p < q → ⊥
    far p q a b h =
        let k = b.inside in
        let l : p < length bs = omega arith in
        let m : p + 1 ≤ q = omega arith in
        a.no_more l (shorter bs (p + 1) q m b.so_far)

    go : (p ≡ q) ⊎ ((p < q) ⊎ (q < p)) → p ≡ q
    go (inl e) = e
    go (inr (inl h)) = absurd (far p q a b h)
    go (inr (inr h)) = absurd (far q p b a h)

pub reach_refused : (bs : List ℕ) (p : ℕ) → Refused bs p → Reaches bs p
reach_refused bs p r = record { inside = r.inside; so_far = r.so_far; no_more = r.no_more }

pub reach_text : (bs : List ℕ) → Text bs → Reaches bs (length bs)
reach_text bs t = record {
  inside = omega arith;
  so_far = ([], subst Text (sym (append-nil _ ∙ take_all (length bs) bs (omega arith))) t);
  no_more = λ h. absurd (omega arith);
}

-- the first of the words' faults is the first of all
module _ (bs : List ℕ) (p : ℕ) (reach : Reaches (take most_bytes bs) p) where
  abbrev here : List Fault
  here = word_faults (seen bs p) (take p bs)

  inside_limit : p ≤ most_bytes
  inside_limit = let h = reach.inside in omega (arith, length-take most_bytes bs)

  below_reach : AllByRecursion (λ f. f.place < p) here
  below_reach = All-weaker (λ f. f.place < length (take p bs)) (λ f. f.place < p) (λ f h. omega (arith, length-take p bs)) here (faults_inside (seen bs p) (take p bs))

  pub first_word : (f : Fault) (rest : List Fault) → here ≡ f ∷ rest → FirstFault bs f
  first_word f rest e = record {
    so = wrong p reach (subst (λ (l : List Fault). ContainsAt l f) (sym e) (0, omega arith, λ d. refl));
    first = go;
  }
    where
      low : f.place < p
      low = (subst (λ (l : List Fault). AllByRecursion (λ g. g.place < p) l) e below_reach).0

      up : AllByRecursion (λ g. suc f.place ≤ g.place) rest
      up = ascends_all (suc f.place) rest (subst (Ascends 0) e (word_faults_ascend (seen bs p) (take p bs))).1

      each : AllByRecursion (λ g. Before f g) (f ∷ rest)
      each = (inr (refl, omega arith), All-weaker (λ g. suc f.place ≤ g.place) (λ g. Before f g) (λ g h. inl (omega arith)) rest up)

      go : (g : Fault) → Faulty bs g → Before f g
      go g (stuck q i r _) = let e2 : q ≡ p = one_reach (take most_bytes bs) q p (reach_refused (take most_bytes bs) q r) reach in let l = low in let j : g.place ≡ q = ap (λ (x : Fault). x.place) i in inl (omega arith)
      go g (long i h) = let l = low in let k = inside_limit in let j : g.place ≡ most_bytes = ap (λ (x : Fault). x.place) i in inl (omega arith)
      go g (wrong q r h) =
          let e2 : q ≡ p = one_reach (take most_bytes bs) q p r reach in
          all-has (λ x. Before f x) (f ∷ rest) g each (subst (λ (l : List Fault). ContainsAt l g) (ap (λ (n : ℕ). word_faults (seen bs n) (take n bs)) e2 ∙ e) h)

  module _ (none : here ≡ []) where
    no_word : (q : ℕ) (g : Fault) → Reaches (take most_bytes bs) q → ContainsAt (word_faults (seen bs q) (take q bs)) g → ⊥
    no_word q g r h =
        let e2 : q ≡ p = one_reach (take most_bytes bs) q p r reach in
        let k : ContainsAt [] g = subst (λ (l : List Fault). ContainsAt l g) (ap (λ (n : ℕ). word_faults (seen bs n) (take n bs)) e2 ∙ none) h in
        let l = k.1 in
        omega arith

    -- else it is that no text goes on so
    pub first_stuck : Refused (take most_bytes bs) p → (length bs ≤ most_bytes) ⊎ (p < most_bytes) → FirstFault bs (fault 1 p)
    first_stuck ref u = record { so = stuck p refl ref u; first = go }
      where
        behind : (length bs ≤ most_bytes) ⊎ (p < most_bytes) → most_bytes < length bs → p < most_bytes
        behind (inl h) k = absurd (omega arith)
        behind (inr h) k = h

        go : (g : Fault) → Faulty bs g → Before (fault 1 p) g
        go g (stuck q i r _) = let e2 = one_place (take most_bytes bs) q p r ref in inr (ap (λ (x : Fault). x.place) (ap (fault 1) (sym e2) ∙ sym i), le_of (ap (λ (x : Fault). x.number) i))
          where
            le_of : g.number ≡ 1 → 1 ≤ g.number
            le_of e = omega arith
        go g (long i h) = let l = behind u h in let j : g.place ≡ most_bytes = ap (λ (x : Fault). x.place) i in inl (omega arith)
        go g (wrong q r h) = absurd (no_word q g r h)

    -- or that there are too many bytes
    pub first_long : most_bytes < length bs → ((q : ℕ) → Refused (take most_bytes bs) q → q < most_bytes → ⊥) → FirstFault bs (fault 3 most_bytes)
    first_long h far = record { so = long refl h; first = go }
      where
        go : (g : Fault) → Faulty bs g → Before (fault 3 most_bytes) g
        go g (stuck q i r (inl k)) = absurd (omega arith)
        go g (stuck q i r (inr k)) = absurd (far q r k)
        go g (long i k) = inr (sym (ap (λ (x : Fault). x.place) i), le_of (ap (λ (x : Fault). x.number) i))
          where
            le_of : g.number ≡ 3 → 3 ≤ g.number
            le_of e = omega arith
        go g (wrong q r k) = absurd (no_word q g r k)

-- without any, the bytes are a text that is read to its end
pub no_fault : (bs : List ℕ) → Text bs → length bs ≤ most_bytes → word_faults (length bs) bs ≡ [] → (g : Fault) → Faulty bs g → ⊥
no_fault bs t h e g (stuck p i r u) = not_both bs p t (subst (λ (l : List ℕ). Refused l p) (take_all most_bytes bs h) r)
no_fault bs t h e g (long i k) = omega arith
no_fault bs t h e g (wrong p r k) =
    let b : take most_bytes bs ≡ bs = take_all most_bytes bs h in
    let q : p ≡ length bs = one_reach bs p (length bs) (subst (λ (l : List ℕ). Reaches l p) b r) (reach_text bs t) in
    let s : seen bs p ≡ p = cond-false (ltb most_bytes (length bs) && eqb p most_bytes) (p - 1) p (and_left (ltb most_bytes (length bs)) (eqb p most_bytes) (le-ltb _ _ h)) in
    let m : word_faults (seen bs p) (take p bs) ≡ [] = ap (λ (n : ℕ). word_faults n (take p bs)) s ∙ ap (λ (n : ℕ). word_faults n (take n bs)) q ∙ ap (word_faults (length bs)) (take_all (length bs) bs (omega arith)) ∙ e in
    let z : ContainsAt [] g = subst (λ (l : List Fault). ContainsAt l g) m k in
    let l = z.1 in
    omega arith
