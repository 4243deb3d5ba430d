-- From the grammar's word on bytes, and the words' faults, to what is told of a text.
use Rattle.std.proofs.Common.{◌≡◌, ℕ, ◌-◌, ◌<◌, ◌≤◌, min, true, false, ◌&&◌, eqb, ltb, ◌⊎◌, List, [], length, take, Ok, Err, Result, sym, refl, ap, ◌∙◌, subst, subst₂, inl, inr, arith, length-take, le-ltb}
use Rattle.std.specs.Bool.{⊤}
use Rattle.std.specs.Option.{unwrap_or}
use Rattle.std.specs.Result.{result_err, MatchResult, IsErrAnd}
use Rattle.std.proofs.lemmas.Result.{err_from_is_err_and}
use Rattle.std.proofs.lemmas.List.{take_all}
use Rattle.std.proofs.lemmas.Bool.{cases_lt, cond-false, and_left}
use Rattle.grammar.specs.Grammar.{Text, Refused}
use Rattle.grammar.specs.Tokens.{starts_from}
use Rattle.grammar.specs.Faults.{fault, word_faults, looked, most_bytes, Reaches, seen, FirstFault}
use Rattle.grammar.specs.Meaning.{fine}
use Rattle.grammar.proofs.First.{first_stuck, first_long, reach_text, reach_refused, one_reach}
use Rattle.grammar.proofs.Fine.{fine_from, text_words}
use Rattle.grammar.proofs.Tokens.{text_code, placed}
use Rattle.reader.specs.declared.word_list.Found.{Found}
use Rattle.reader.specs.declared.types.Refusal.{Refusal}
use Rattle.reader.specs.declared.types.Refusal.TheVariants.{Grammar}
use Rattle.reader.specs.Reading.{Says, Reached, Words, Examined, Last}
use Rattle.reader.proofs.Naming.{names_are}

-- the bytes that are read, by the shorter of two lengths
pub front : (bs : List ℕ) (n : ℕ) → n ≡ min (length bs) most_bytes → take n bs ≡ take most_bytes bs
front bs n e = go (cases_lt most_bytes (length bs))
  where
    go : (most_bytes < length bs) ⊎ (length bs ≤ most_bytes) → take n bs ≡ take most_bytes bs
    go (inl h) = let m : n ≡ most_bytes = omega arith in ap (λ (k : ℕ). take k bs) m
    go (inr h) = take_all n bs (omega arith) ∙ sym (take_all most_bytes bs h)

-- how far the bytes begin a text, by what is said of those that are read
abbrev pub far : Result ⊤ ℕ → ℕ → ℕ
far (Ok _) end = end
far (Err p) end = p

pub reached : (bs : List ℕ) (r : Result ⊤ ℕ) (n : ℕ) → n ≡ min (length bs) most_bytes → Says r (take most_bytes bs) → Reached r (far r n) bs
reached bs (Ok u) n e v =
    let l : length (take most_bytes bs) ≡ n = omega (arith, length-take most_bytes bs) in
    record { inside = omega arith; reaches = subst (Reaches (take most_bytes bs)) l (reach_text (take most_bytes bs) v); said = v }
reached bs (Err p) n e v =
    let i = v.inside in
    record { inside = omega (arith, length-take most_bytes bs); reaches = reach_refused (take most_bytes bs) p v; said = v }

-- what is told of bytes whose words have no fault
module _ (bs : List ℕ) (at : ℕ) where
  pub last_long : (r : Result ⊤ ℕ) → Reached r at bs → word_faults (seen bs at) (take at bs) ≡ [] → at ≡ most_bytes → most_bytes < length bs → FirstFault bs (fault 3 most_bytes)
  last_long r reached clean e h =
      first_long bs at reached.reaches clean h
      (λ q f k. let o : q ≡ at = one_reach (take most_bytes bs) q at (reach_refused (take most_bytes bs) q f) reached.reaches in omega arith)

  -- what the grammar says is told
  abbrev pub as_told : Result ⊤ ℕ → Result ⊤ Refusal
  as_told (Ok u) = Ok u
  as_told (Err p) = Err (Grammar p)

  pub last_said : (r : Result ⊤ ℕ) → Reached r at bs → word_faults (seen bs at) (take at bs) ≡ [] → (length bs ≤ most_bytes) ⊎ (at < most_bytes) → Last (as_told r) bs
  last_said (Ok u) reached clean (inl h) = (subst Text (take_all most_bytes bs h) reached.said, h)
  last_said (Ok u) reached clean (inr h) =
      let o : at ≡ length (take most_bytes bs) = one_reach (take most_bytes bs) at _ reached.reaches (reach_text (take most_bytes bs) reached.said) in
      let l : length bs ≤ most_bytes = omega (arith, length-take most_bytes bs) in
      (subst Text (take_all most_bytes bs l) reached.said, l)
  last_said (Err p) reached clean u =
      let o : p ≡ at = one_reach (take most_bytes bs) p at (reach_refused (take most_bytes bs) p reached.said) reached.reaches in
      subst (λ (q : ℕ). FirstFault bs (fault 1 q)) (sym o) (first_stuck bs at reached.reaches clean (subst (λ (q : ℕ). Refused (take most_bytes bs) q) o reached.said) u)

-- what `err` and `unwrap_or` make of it
pub far_is : (r : Result ⊤ ℕ) (end : ℕ) → unwrap_or (result_err r) end ≡ far r end
far_is (Ok u) end = refl
far_is (Err p) end = refl

-- what `map_err` makes of it
pub told_mapped : (Q : ℕ → Refusal → Type 0) (r : Result ⊤ ℕ) (s : Result ⊤ Refusal) → MatchResult r (λ x. s ≡ Ok x) (λ e. IsErrAnd s (Q e)) →
    ((e : ℕ) (x : Refusal) → Q e x → x ≡ Grammar e) → s ≡ as_told [] 0 r
told_mapped Q (Ok u) s m f = m
told_mapped Q (Err p) s m f = let e = err_from_is_err_and s m in e.1 ∙ ap (λ (x : Refusal). Err x) (f p _ e.2)

pub not_cut : (bs : List ℕ) (at : ℕ) (r : Result ⊤ ℕ) → Reached r at bs → ((most_bytes < length bs) × (at ≡ most_bytes) → ⊥) → (length bs ≤ most_bytes) ⊎ (at < most_bytes)
not_cut bs at r reached n = go (cases_lt most_bytes (length bs)) (cases_lt at most_bytes)
  where
    go : (most_bytes < length bs) ⊎ (length bs ≤ most_bytes) → (at < most_bytes) ⊎ (most_bytes ≤ at) → (length bs ≤ most_bytes) ⊎ (at < most_bytes)
    go (inr h) l = inl h
    go (inl h) (inl l) = inr l
    go (inl h) (inr l) = let i = reached.reaches.inside in let e : at ≡ most_bytes = omega (arith, length-take most_bytes bs) in absurd (n (h, e))

-- a text without a fault
module _ (bs : List ℕ) (at : ℕ) (r : Result ⊤ ℕ) (f : Found) (reached : Reached r at bs) (t : Text bs) (short : length bs ≤ most_bytes) (w : Words (Ok f) (seen bs at) (take at bs)) where
  all_read : at ≡ length bs
  all_read = one_reach bs at (length bs) (subst (λ (l : List ℕ). Reaches l at) (take_all most_bytes bs short) reached.reaches) (reach_text bs t)

  whole : take at bs ≡ bs
  whole = take_all at bs (omega (arith, all_read))

  seen_all : seen bs at ≡ length bs
  seen_all = cond-false (ltb most_bytes (length bs) && eqb at most_bytes) (at - 1) at (and_left (ltb most_bytes (length bs)) (eqb at most_bytes) (le-ltb _ _ short)) ∙ all_read

  words_all : Words (Ok f) (length bs) bs
  words_all = subst₂ (λ n l. Words (Ok f) n l) seen_all whole w

  pub taken : Examined (Ok f) bs
  taken =
      let sound : fine [] t.0 ≡ true = fine_from bs t.0 t.1 words_all.0 in (
        record {
          lines = t.0;
          sound = sound;
          read = words_all.1 ∙ text_code bs t.0 t.1 (starts_from false 0 bs) (placed bs (starts_from false 0 bs) refl);
          named = words_all.2 ∙ names_are (looked (length bs) bs) t.0 (text_words bs t.0 t.1) sound;
        },
        t.1,
        words_all.3,
      )
