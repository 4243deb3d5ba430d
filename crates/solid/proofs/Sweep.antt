-- The planes of a shape, met one after the other in its words.
--     words-planes, coded_planes                     the planes of the words are the shape's
--     word_planes-any                                a place on a plane of the words
use Rattle.std.proofs.Common.{◌≡◌, ℕ, ◌||◌, List, [], ◌∷◌, ◌++◌, sym, refl, ap, ◌∙◌, ap₂, append_assoc}
use Rattle.std.proofs.lemmas.List.{append-nil}
use Rattle.std.specs.List.{list_any}
use Rattle.plane.specs.declared.types.Plane.{Plane}
use Rattle.plane.specs.declared.types.Place.{Place}
use Rattle.solid.specs.declared.types.Step.{Step}
use Rattle.solid.specs.declared.types.Step.TheVariants.{Half, Both, Either, Without}
use Rattle.solid.specs.Shapes.{Shape, half, both, either, without, planes, Fits}
use Rattle.solid.specs.Steps.{word, step, words, FitsStep}
use Rattle.solid.specs.Stacks.{plane_of_step, word_planes}
use Rattle.solid.specs.Examples.{on_some}
use Rattle.solid.proofs.Members.{has_here}
use Rattle.solid.proofs.Digits.{step-word}
use Rattle.solid.proofs.Machine.{AllFit, fit_left, fit_right}
use Rattle.solid.proofs.Touching.{on_some-append}

word_planes-append : (us vs : List ℕ) → word_planes (us ++ vs) ≡ word_planes us ++ word_planes vs
unfolding word_planes
word_planes-append [] vs = refl
word_planes-append (w ∷ us) vs = ap (λ (l : List Plane). plane_of_step (step w) ++ l) (word_planes-append us vs) ∙ sym (append_assoc (plane_of_step (step w)) (word_planes us) (word_planes vs))

one_word : (x : Step) → FitsStep x → word_planes (word x ∷ []) ≡ plane_of_step x
unfolding word_planes
one_word x f = append-nil (plane_of_step (step (word x))) ∙ ap (λ (y : Step). plane_of_step y) (step-word x f)

joint_planes : (x : Step) → FitsStep x → plane_of_step x ≡ [] → (us vs : List ℕ) (ps qs : List Plane) → word_planes us ≡ ps → word_planes vs ≡ qs → word_planes (us ++ (vs ++ (word x ∷ []))) ≡ ps ++ qs
joint_planes x f n us vs ps qs a b =
    word_planes-append us (vs ++ (word x ∷ []))
    ∙ ap₂ ◌++◌ a (word_planes-append vs (word x ∷ []) ∙ ap₂ ◌++◌ b (one_word x f ∙ n) ∙ append-nil qs)

fit_planes : (s : Shape) → AllFit (planes s) → word_planes (words s) ≡ planes s
unfolding words planes
fit_planes (half p) f = one_word (Half p) (f p (has_here p []))
fit_planes (both s t) f = joint_planes Both tt refl (words s) (words t) (planes s) (planes t) (fit_planes s (fit_left (planes s) (planes t) f)) (fit_planes t (fit_right (planes s) (planes t) f))
fit_planes (either s t) f = joint_planes Either tt refl (words s) (words t) (planes s) (planes t) (fit_planes s (fit_left (planes s) (planes t) f)) (fit_planes t (fit_right (planes s) (planes t) f))
fit_planes (without s t) f = joint_planes Without tt refl (words s) (words t) (planes s) (planes t) (fit_planes s (fit_left (planes s) (planes t) f)) (fit_planes t (fit_right (planes s) (planes t) f))

pub words-planes : (s : Shape) → Fits s → word_planes (words s) ≡ planes s
words-planes s f = fit_planes s f.each

pub coded_planes : (ws : List ℕ) (s : Shape) → Fits s → ws ≡ words s → word_planes ws ≡ planes s
coded_planes ws s f e = ap word_planes e ∙ words-planes s f

-- a place is on some plane of the words: on that of one of them
pub word_planes-any : (q : Place) (ws : List ℕ) → list_any (λ w. on_some (plane_of_step (step w)) q) ws ≡ on_some (word_planes ws) q
unfolding word_planes on_some
word_planes-any q [] = refl
word_planes-any q (w ∷ ws) =
    ap (λ b. on_some (plane_of_step (step w)) q || b) (word_planes-any q ws) ∙ sym (on_some-append q (plane_of_step (step w)) (word_planes ws))
