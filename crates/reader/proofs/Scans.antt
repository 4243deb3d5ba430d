-- The scan of words, one word at a time.
use Rattle.std.proofs.Common.{◌≡◌, ℕ, zero, suc, ◌-◌, ◌<◌, Bool, true, false, not, ◌&&◌, leb, List, [], ◌∷◌, ◌++◌, length, replicate, codes, sym, ap, ◌∙◌, sub-one, arith}
use Rattle.std.proofs.lemmas.Bool.{cond-true, cond-false}
use Rattle.grammar.specs.Grammar.{same, one_of, is_name}
use Rattle.grammar.specs.Faults.{Fault, fault, Token, Role, shape, measure, scale, of_part, of_place, of_box, scan, if_so, beyond, no_scale, most_parts}

-- a fault told, and none
so_wrong : (b : Bool) (n : ℕ) (t : Token) (r : List Fault) → b ≡ true → if_so b n t ++ r ≡ fault n t.start ∷ r
so_wrong b n t r e = ap (λ (x : Bool). if_so x n t ++ r) e

so_right : (b : Bool) (n : ℕ) (t : Token) (r : List Fault) → b ≡ false → if_so b n t ++ r ≡ r
so_right b n t r e = ap (λ (x : Bool). if_so x n t ++ r) e

pub replicate_measure : (k : ℕ) → 0 < k → replicate k measure ≡ measure ∷ replicate (k - 1) measure
replicate_measure zero h = absurd (omega arith)
replicate_measure (suc k) h = ap (λ (n : ℕ). measure ∷ replicate n measure) (sym (sub-one (suc k)))

module _ (names : List (List ℕ)) (t : Token) (ts : List Token) where
  -- a number, with others behind it
  module _ (rs : List Role) where
    pub number_wrong : beyond t.word ≡ true → scan names (measure ∷ rs) (t ∷ ts) ≡ fault 4 t.start ∷ scan names rs ts
    number_wrong e = so_wrong (beyond t.word) 4 t (scan names rs ts) e

    pub number_right : beyond t.word ≡ false → scan names (measure ∷ rs) (t ∷ ts) ≡ scan names rs ts
    number_right e = so_right (beyond t.word) 4 t (scan names rs ts) e

  pub scale_wrong : no_scale t.word ≡ true → scan names (scale ∷ []) (t ∷ ts) ≡ fault 4 t.start ∷ scan names [] ts
  scale_wrong e = so_wrong (no_scale t.word) 4 t (scan names [] ts) e

  pub scale_right : no_scale t.word ≡ false → scan names (scale ∷ []) (t ∷ ts) ≡ scan names [] ts
  scale_right e = so_right (no_scale t.word) 4 t (scan names [] ts) e

  pub new_wrong : (is_name t.word && one_of names t.word) ≡ true → scan names of_part (t ∷ ts) ≡ fault 2 t.start ∷ scan (names ++ t.word ∷ []) (shape ∷ []) ts
  new_wrong e = so_wrong (is_name t.word && one_of names t.word) 2 t (scan (names ++ t.word ∷ []) (shape ∷ []) ts) e

  pub new_right : (is_name t.word && one_of names t.word) ≡ false → scan names of_part (t ∷ ts) ≡ scan (names ++ t.word ∷ []) (shape ∷ []) ts
  new_right e = so_right (is_name t.word && one_of names t.word) 2 t (scan (names ++ t.word ∷ []) (shape ∷ []) ts) e

  pub used_wrong : (is_name t.word && not (one_of names t.word)) ≡ true → scan names of_place (t ∷ ts) ≡ fault 2 t.start ∷ scan names (measure ∷ measure ∷ measure ∷ scale ∷ []) ts
  used_wrong e = so_wrong (is_name t.word && not (one_of names t.word)) 2 t (scan names (measure ∷ measure ∷ measure ∷ scale ∷ []) ts) e

  pub used_right : (is_name t.word && not (one_of names t.word)) ≡ false → scan names of_place (t ∷ ts) ≡ scan names (measure ∷ measure ∷ measure ∷ scale ∷ []) ts
  used_right e = so_right (is_name t.word && not (one_of names t.word)) 2 t (scan names (measure ∷ measure ∷ measure ∷ scale ∷ []) ts) e

  pub shape_wrong : same t.word (codes "box") ≡ false → (rs : List Role) → scan names (shape ∷ rs) (t ∷ ts) ≡ fault 1 t.start ∷ []
  shape_wrong e rs = cond-false (same t.word (codes "box")) _ _ e

  pub shape_right : same t.word (codes "box") ≡ true → (rs : List Role) → scan names (shape ∷ rs) (t ∷ ts) ≡ scan names (of_box ++ rs) ts
  shape_right e rs = cond-true (same t.word (codes "box")) _ _ e

  -- the word that a part begins with
  pub part_wrong : same t.word (codes "part") ≡ true → leb most_parts (length names) ≡ true → scan names [] (t ∷ ts) ≡ fault 3 t.start ∷ scan names of_part ts
  part_wrong e f = cond-true (same t.word (codes "part")) _ _ e ∙ so_wrong (leb most_parts (length names)) 3 t (scan names of_part ts) f

  pub part_right : same t.word (codes "part") ≡ true → leb most_parts (length names) ≡ false → scan names [] (t ∷ ts) ≡ scan names of_part ts
  part_right e f = cond-true (same t.word (codes "part")) _ _ e ∙ so_right (leb most_parts (length names)) 3 t (scan names of_part ts) f
