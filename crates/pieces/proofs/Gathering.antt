-- The planes of steps, one after the other.
use Rattle.std.proofs.Common.{◌≡◌, ℕ, ◌+◌, ◌<◌, ◌≤◌, List, [], ◌∷◌, ◌++◌, length, get_or, drop, sym, refl, ap, ◌∙◌, append_assoc, append-nil}
use Rattle.std.proofs.lemmas.List.{drop_more, drop_all}
use Rattle.plane.specs.declared.types.Plane.{Plane}
use Rattle.solid.specs.declared.types.Step.{Step}
use Rattle.solid.specs.declared.types.Step.TheVariants.{Half, Both, Either, Without}
use Rattle.solid.specs.Steps.{step}
use Rattle.solid.specs.Stacks.{plane_of_step, word_planes}

none_of : (s : Step) → ((p : Plane) → s ≡ Half p → ⊥) → plane_of_step s ≡ []
none_of (Half p) h = absurd (h p refl)
none_of Both h = refl
none_of Either h = refl
none_of Without h = refl

module _ (ws : List ℕ) (qs : List Plane) (i : ℕ) (h : i < length ws) (all : List Plane) (inv : qs ++ word_planes (drop i ws) ≡ all) where
  here : word_planes (drop i ws) ≡ plane_of_step (step (get_or ws i 0)) ++ word_planes (drop (i + 1) ws)
  unfolding word_planes
  here = ap word_planes (drop_more ws i 0 h)

  more : (s : Step) → s ≡ step (get_or ws i 0) → qs ++ (plane_of_step s ++ word_planes (drop (i + 1) ws)) ≡ all
  more s e =
      ap (λ (x : Step). qs ++ (plane_of_step x ++ word_planes (drop (i + 1) ws))) e
      ∙ ap (λ (ps : List Plane). qs ++ ps) (sym here) ∙ inv

  pub one_plane : (p : Plane) (s : Step) → s ≡ step (get_or ws i 0) → s ≡ Half p → (qs ++ p ∷ []) ++ word_planes (drop (i + 1) ws) ≡ all
  one_plane p s e f = append_assoc qs (p ∷ []) (word_planes (drop (i + 1) ws)) ∙ more (Half p) (sym f ∙ e)

  pub no_plane : (s : Step) → s ≡ step (get_or ws i 0) → ((p : Plane) → s ≡ Half p → ⊥) → qs ++ word_planes (drop (i + 1) ws) ≡ all
  no_plane s e f = ap (λ (ps : List Plane). qs ++ (ps ++ word_planes (drop (i + 1) ws))) (sym (none_of s f)) ∙ more s e

pub no_more : (ws : List ℕ) (qs : List Plane) (i : ℕ) (all : List Plane) → length ws ≤ i → qs ++ word_planes (drop i ws) ≡ all → qs ≡ all
unfolding word_planes
no_more ws qs i all h inv = sym (append-nil qs) ∙ ap (λ (l : List ℕ). qs ++ word_planes l) (sym (drop_all i ws h)) ∙ inv
