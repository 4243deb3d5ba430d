-- From what a drawing holds to what is told of it.
use Rattle.std.proofs.Common.{◌≡◌, ℕ, ◌+◌, ◌*◌, ◌/◌, ◌<◌, ◌≤◌, true, List, [], length, get_or, take, drop, ℤ, Some, Ok, sym, refl, ap, ◌∙◌, subst, arith, to_z-of_z, w64, to_z, of_z}
use mathlib.Core.Bool.{Bool-discrete}
use mathlib.Core.Logic.{∥∥₁_elim}
use mathlib.Core.HLevel.{hedberg}
use native.Mathlib.Bridge.{le_prop}
use native.Mathlib.Decide.{ℕ_discrete}
use Rattle.arith.specs.Bounds.{Short}
use Rattle.arith.proofs.Sized.{short_fits}
use Rattle.plane.specs.declared.types.Place.{Place}
use Rattle.plane.specs.Limits.{SmallPlace, coordinate_limit}
use Rattle.solid.specs.Shapes.{Shape, Fits}
use Rattle.solid.specs.Steps.{words}
use Rattle.solid.proofs.Unique.{words_set, short_prop, coded_prop}
use Rattle.solid.proofs.Values.{words-length}
use Rattle.grammar.specs.Grammar.{Line, print}
use Rattle.grammar.specs.Meaning.{fine, questions, Question, model_of, nothing}
use Rattle.grammar.proofs.Once.{once}
use Rattle.reader.specs.declared.types.Layout.{Layout}
use Rattle.reader.specs.Layout.{Laid}
use Rattle.reader.specs.Asked.{Lies}
use Rattle.reader.proofs.Asked.{laid_lies}
use Rattle.modeller.specs.Drawings.{Drawn}
use Rattle.modeller.specs.declared.types.Reply.{Reply}
use Rattle.modeller.specs.declared.types.Reply.TheVariants.{Place as AtPlace}
use Rattle.solid.specs.Examples.{told}
use Rattle.modeller.specs.Replies.{Ready, place_in, steps_in, work_needed, Replied, Answers}

-- each of these is a proposition
laid_prop : (ls : List Line) (l : Layout) → IsProp (Laid ls l)
laid_prop ls l a b = λ i. record {
  steps_are = words_set _ _ a.steps_are b.steps_are i;
  asked_are = words_set _ _ a.asked_are b.asked_are i;
  count = hedberg ℕ_discrete _ _ a.count b.count i;
}

small_prop : (q : Place) → IsProp (SmallPlace q)
small_prop q a b = λ i. record {
  x = short_prop _ _ a.x b.x i;
  y = short_prop _ _ a.y b.y i;
  z = short_prop _ _ a.z b.z i;
  w = le_prop a.w b.w i;
  real = le_prop a.real b.real i;
}

ready_prop : (steps asked : List ℕ) (k : ℕ) → IsProp (Ready steps asked k)
ready_prop steps asked k a b = λ i. record {
  inside = le_prop a.inside b.inside i;
  steps_inside = le_prop a.steps_inside b.steps_inside i;
  coded = coded_prop (steps_in steps asked k) a.coded b.coded i;
  small = small_prop (place_in asked k) a.small b.small i;
  few = le_prop a.few b.few i;
}

-- what lies in the words for a question
module _ (steps asked : List ℕ) (k : ℕ) (q : Question) (l : Lies steps asked k q) where
  back : (z : ℤ) (n : ℕ) → n ≡ of_z w64 z → Short z coordinate_limit → to_z w64 n ≡ z
  back z n e s = ap (to_z w64) e ∙ to_z-of_z (short_fits s tt)

  pub place_is : place_in asked k ≡ l.place
  place_is =
      let x = back l.place.x (get_or asked (6 * k + 2) 0) l.x_is l.small.x in
      let y = back l.place.y (get_or asked (6 * k + 3) 0) l.y_is l.small.y in
      let z = back l.place.z (get_or asked (6 * k + 4) 0) l.z_is l.small.z in
      λ i. record { x = x i; y = y i; z = z i; w = l.w_is i }

  pub steps_are : steps_in steps asked k ≡ words l.shape
  steps_are = ap (λ (n : ℕ). take n (drop (get_or asked (6 * k) 0) steps)) l.count_is ∙ ap (λ (n : ℕ). take l.count (drop n steps)) l.from_is ∙ l.steps_are

  pub ready : Ready steps asked k
  ready = record {
    inside = l.inside;
    steps_inside = let h = l.steps_inside in omega (arith, l.from_is, l.count_is);
    coded = record { shape = l.shape; is = steps_are; fits = l.fits };
    small = subst SmallPlace (sym place_is) l.small;
    few = let h = l.fits.few in omega (arith, l.count_is, l.long, words-length l.shape);
  }

-- a text that is taken
module _ (text : List ℕ) (l : Layout) (d : ∥ Drawn text l ∥₁) where
  pub drawn_ready : (n k : ℕ) → ((ls : List Line) → text ≡ print ls → n ≡ length (questions [] ls)) → k < n → Ready l.steps.now l.asked.now k
  drawn_ready n k f h =
      ∥∥₁_elim d (ready_prop l.steps.now l.asked.now k)
      (λ t. ready l.steps.now l.asked.now k _ (laid_lies t.0 l t.3 t.2 k (omega (arith, f t.0 t.1)) (model_of nothing)))

  pub drawn_fine : (ls : List Line) → text ≡ print ls → fine [] ls ≡ true
  drawn_fine ls e = ∥∥₁_elim d (hedberg Bool-discrete _ _) (λ t. subst (λ (ms : List Line). fine [] ms ≡ true) (once t.0 ls (sym t.1 ∙ e)) t.2)

  pub drawn_laid : (ls : List Line) → text ≡ print ls → Laid ls l
  drawn_laid ls e = ∥∥₁_elim d (laid_prop ls l) (λ t. subst (λ (ms : List Line). Laid ms l) (once t.0 ls (sym t.1 ∙ e)) t.3)

  -- how many questions there are
  pub asked_count : (ls : List Line) → text ≡ print ls → length l.asked.now / 6 ≡ length (questions [] ls)
  asked_count ls e = omega (arith, (drawn_laid ls e).count)

  module _ (n work k : ℕ) (f : (ls : List Line) → text ≡ print ls → n ≡ length (questions [] ls)) (m : work_needed ≤ work) where
    -- a question about a place
    pub reply_place : (r : Reply) → k < n → ((s : Shape) → Fits s → steps_in l.steps.now l.asked.now k ≡ words s → r ≡ AtPlace (told s (place_in l.asked.now k))) → Replied text work k (Ok (Some r))
    reply_place r h g = record {
      few = λ w. absurd (omega arith);
      none = λ ls _ e b. absurd (omega (arith, f ls e));
      some = λ ls q _ e b a. (
        r,
        refl,
        let lies = laid_lies ls l (drawn_laid ls e) (drawn_fine ls e) k b q in
            let place = place_is l.steps.now l.asked.now k _ lies in
            let x : r ≡ AtPlace (told lies.shape lies.place) =
            g lies.shape lies.fits (steps_are l.steps.now l.asked.now k _ lies) ∙ ap (λ (p : Place). AtPlace (told lies.shape p)) place in
            let P : Question → Type 0 = λ u. Answers u r in
            subst P (sym lies.is ∙ a) x,
      );
    }
