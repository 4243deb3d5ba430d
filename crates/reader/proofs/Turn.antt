-- One turn of the reader's loop.
use Rattle.std.proofs.Common.{◌≡◌, ℕ, ◌+◌, ◌-◌, ◌*◌, ◌<◌, ◌≤◌, true, ◌&&◌, List, [], ◌∷◌, ◌++◌, length, get_or, take, sym, refl, ap, ◌∙◌, subst, arith, length-take, Option, Some, None, Err, ok_or}
use Rattle.std.specs.List.{between}
use Rattle.std.proofs.lemmas.List.{take_all}
use Rattle.std.proofs.lemmas.List.Edits.{between_none, between_more}
use Rattle.grammar.specs.Grammar.{is_word, Text, Refused}
use Rattle.grammar.specs.Machine.{step, run, Good}
use Rattle.reader.specs.declared.types.Want.{Want}
use Rattle.reader.specs.Stack.{symbols, takes_word}
use Rattle.grammar.proofs.Whole.{start, run_more, good_more, refused_here, refused_end, text_from_run, keep_run, SoundO}
use Rattle.grammar.proofs.Exact.{Sound}
use Rattle.reader.proofs.Grow.{deeper}
use Rattle.reader.proofs.Words.{goes_on}

-- what is told where a byte can't stand
pub told_none : (o : Option Unit) (i j : ℕ) → ok_or o i ≡ Err j → (o ≡ None) × (j ≡ i)
told_none None i j e = (refl, cc)
told_none (Some _) i j e = cc

module _ (bs : List ℕ) (xs : List Want) (i s : ℕ) (l : i < length bs) (inv : run start (take i bs) ≡ Some (symbols xs (between s i bs))) where
  pub turn_on : (ys : List Want) → step (symbols xs (between s i bs)) (get_or bs i 0) ≡ Some (symbols ys []) → run start (take (i + 1) bs) ≡ Some (symbols ys (between (i + 1) (i + 1) bs))
  turn_on ys e = run_more bs i _ l inv ∙ e ∙ ap (λ (w : List ℕ). Some (symbols ys w)) (sym (between_none bs (i + 1)))

  pub turn_depth : (ys : List Want) → s ≤ i → length xs ≤ 2 * s + 9 → step (symbols xs (between s i bs)) (get_or bs i 0) ≡ Some (symbols ys []) → length ys ≤ 2 * (i + 1) + 9
  turn_depth ys h k e =
      let sound : Sound (symbols xs (between s i bs)) = subst SoundO inv (keep_run (take i bs) start tt) in
      let len : length (between s i bs) ≤ i - s = simp length-take (omega arith) in
      deeper xs ys (between s i bs) (get_or bs i 0) (2 * (i + 1) + 9) sound e (omega arith) (omega arith)

  pub turn_word : s ≤ i → (takes_word xs && is_word (between s i bs ++ get_or bs i 0 ∷ [])) ≡ true → run start (take (i + 1) bs) ≡ Some (symbols xs (between s (i + 1) bs))
  turn_word h e = run_more bs i _ l inv ∙ goes_on xs (between s i bs) (get_or bs i 0) e ∙ ap (λ (w : List ℕ). Some (symbols xs w)) (sym (between_more bs s i 0 h l))

  pub turn_stuck : step (symbols xs (between s i bs)) (get_or bs i 0) ≡ None → Refused bs i
  turn_stuck e = refused_here bs i _ l inv e

pub good_none : (s : ℕ) (bs : List ℕ) → Good (between s s bs)
good_none s bs = subst Good (sym (between_none bs s)) tt

pub good_word : (s i : ℕ) (bs : List ℕ) → s ≤ i → i < length bs → is_word (between s i bs ++ get_or bs i 0 ∷ []) ≡ true → Good (between s (i + 1) bs)
good_word s i bs h l e = subst Good (sym (between_more bs s i 0 h l)) (good_more (between s i bs) (get_or bs i 0) e)

-- the end
pub end_whole : (bs w : List ℕ) (xs : List Want) (i : ℕ) → length bs ≤ i → run start (take i bs) ≡ Some (symbols xs w) → xs ≡ [] → Text bs
end_whole bs w xs i h e z =
    text_from_run bs (ap (run start) (sym (take_all i bs h)) ∙ e ∙ ap (λ (ys : List Want). Some (symbols ys w)) z)

some_symbols : (xs : List Want) (w : List ℕ) → (xs ≡ [] → ⊥) → symbols xs w ≡ [] → ⊥
some_symbols [] w n e = n refl
some_symbols (x ∷ xs) w n e = cc

pub end_bad : (bs w : List ℕ) (xs : List Want) (i : ℕ) → length bs ≤ i → run start (take i bs) ≡ Some (symbols xs w) → (xs ≡ [] → ⊥) → Refused bs (length bs)
end_bad bs w xs i h e n =
    refused_end bs (symbols xs w) (ap (run start) (sym (take_all i bs h)) ∙ e) (some_symbols xs w n)
