-- What one word is found to be: wrong, or right, and then what is expected behind it.
use Rattle.std.proofs.Common.{◌≡◌, ℕ, ◌-◌, ◌<◌, Bool, true, false, cond, not, ◌&&◌, leb, List, [], ◌∷◌, ◌++◌, length, codes, Some, None, Ok, Err, Option, Result, sym, refl, ap, ◌∙◌}
use Rattle.std.proofs.lemmas.Bool.{cond-true, not-true, not-false}
use Rattle.grammar.specs.Grammar.{same, one_of, is_name}
use Rattle.grammar.specs.Faults.{Token, Role, scale, scan, beyond, no_scale, most_parts}
use Rattle.reader.specs.declared.types.Refusal.{Refusal}
use Rattle.reader.specs.declared.types.Refusal.TheVariants.{Grammar, Name, Limit, Range}
use Rattle.reader.specs.declared.types.Expect.{Expect}
use Rattle.reader.specs.declared.types.Expect.TheVariants.{AtLine, AtNewName, AtShape, InBox, AtUsedName, InPlace}
use Rattle.reader.specs.Scan.{Looked, named_in}
use Rattle.reader.proofs.Scans.{replicate_measure, number_wrong, number_right, scale_wrong, scale_right, new_wrong, new_right, used_wrong, used_right, shape_wrong, shape_right, part_wrong, part_right}

-- the answer of a test
abbrev pub answer : Bool → Refusal → Expect → Result (Option Expect) Refusal
answer wrong r next = cond wrong (Err r) (Ok (Some next))

module _ (names : List (List ℕ)) (t : Token) where
  by_test : (e next : Expect) (r : Refusal) (wrong : Bool) → (wrong ≡ true → Looked (Err r) e names t) → (wrong ≡ false → Looked (Ok (Some next)) e names t) → Looked (answer wrong r next) e names t
  by_test e next r true f g = f refl
  by_test e next r false f g = g refl

  pub looked_part : (wrong : Bool) → same t.word (codes "part") ≡ true → wrong ≡ leb most_parts (length names) → Looked (answer wrong (Limit t.start) AtNewName) AtLine names t
  looked_part wrong s e =
      by_test AtLine AtNewName (Limit t.start) wrong
      (λ h ts. (_, part_wrong names t ts s (sym e ∙ h)))
      (λ h ts. (part_right names t ts s (sym e ∙ h), cond-true (same t.word (codes "part")) _ _ s))

  pub looked_new : (wrong : Bool) → wrong ≡ (is_name t.word && one_of names t.word) → Looked (answer wrong (Name t.start) AtShape) AtNewName names t
  looked_new wrong e =
      by_test AtNewName AtShape (Name t.start) wrong (λ h ts. (_, new_wrong names t ts (sym e ∙ h))) (λ h ts. (new_right names t ts (sym e ∙ h), refl))

  pub looked_used : (wrong : Bool) → wrong ≡ (is_name t.word && not (one_of names t.word)) → Looked (answer wrong (Name t.start) (InPlace 3)) AtUsedName names t
  looked_used wrong e =
      by_test AtUsedName (InPlace 3) (Name t.start) wrong (λ h ts. (_, used_wrong names t ts (sym e ∙ h))) (λ h ts. (used_right names t ts (sym e ∙ h), refl))

  pub looked_shape : (wrong : Bool) → wrong ≡ not (same t.word (codes "box")) → Looked (answer wrong (Grammar t.start) (InBox 6)) AtShape names t
  looked_shape true e = λ ts. (_, shape_wrong names t ts (not-true (same t.word (codes "box")) (sym e)) [])
  looked_shape false e = let s = not-false (same t.word (codes "box")) (sym e) in λ ts. (shape_right names t ts s [], cond-true (same t.word (codes "box")) _ _ s)

  pub looked_box : (k : ℕ) → 0 < k → (wrong : Bool) → wrong ≡ beyond t.word → Looked (answer wrong (Range t.start) (InBox (k - 1))) (InBox k) names t
  looked_box k h wrong e =
      let m = replicate_measure k h in
      by_test (InBox k) (InBox (k - 1)) (Range t.start) wrong
      (λ g ts. (_, ap (λ (rs : List Role). scan names rs (t ∷ ts)) m ∙ number_wrong names t ts _ (sym e ∙ g)))
      (λ g ts. (ap (λ (rs : List Role). scan names rs (t ∷ ts)) m ∙ number_right names t ts _ (sym e ∙ g), ap (λ (rs : List Role). named_in rs (t ∷ ts)) m))

  pub looked_scale : (wrong : Bool) → wrong ≡ no_scale t.word → Looked (answer wrong (Range t.start) AtLine) (InPlace 0) names t
  looked_scale wrong e =
      by_test (InPlace 0) AtLine (Range t.start) wrong (λ h ts. (_, scale_wrong names t ts (sym e ∙ h))) (λ h ts. (scale_right names t ts (sym e ∙ h), refl))

  pub looked_place : (k : ℕ) → 0 < k → (wrong : Bool) → wrong ≡ beyond t.word → Looked (answer wrong (Range t.start) (InPlace (k - 1))) (InPlace k) names t
  looked_place k h wrong e =
      let m = replicate_measure k h in
      by_test (InPlace k) (InPlace (k - 1)) (Range t.start) wrong
      (λ g ts. (_, ap (λ (rs : List Role). scan names (rs ++ scale ∷ []) (t ∷ ts)) m ∙ number_wrong names t ts _ (sym e ∙ g)))
      (λ g ts. (
        ap (λ (rs : List Role). scan names (rs ++ scale ∷ []) (t ∷ ts)) m ∙ number_right names t ts _ (sym e ∙ g),
        ap (λ (rs : List Role). named_in (rs ++ scale ∷ []) (t ∷ ts)) m,
      ))

  -- a box without numbers left is where a line begins
  pub looked_over : (r : Result (Option Expect) Refusal) → Looked r AtLine names t → Looked r (InBox 0) names t
  looked_over (Err f) h = h
  looked_over (Ok (Some e)) h = h
  looked_over (Ok None) h = h
