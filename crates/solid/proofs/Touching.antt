-- Places on and below the planes of a list.
--     off_each, off_all, on_one, one_on              on_some as said of each plane or of one
--     on_some-append                                 on some plane of an append
--     below_each, below_all                          all_below as said of each plane
use Rattle.std.proofs.Common.{◌≡◌, true, false, ◌||◌, List, [], ◌∷◌, ◌++◌, sym, refl, ap, ◌∙◌, subst, inl, inr}
use Rattle.std.proofs.Math.Bool.{or_assoc}
use Rattle.std.proofs.lemmas.Bool.{false≢true, or_cases, or_parts, or_from, or_left, or_right, and_parts, and_from}
use Rattle.plane.specs.declared.types.Plane.{Plane}
use Rattle.plane.specs.declared.types.Place.{Place}
use Rattle.plane.specs.Planes.{below, on}
use Rattle.solid.specs.Shapes.{Has}
use Rattle.solid.specs.Models.{all_below}
use Rattle.solid.specs.Examples.{on_some}
use Rattle.solid.proofs.Members.{has_none, has_here, has_there, has_either}

module _ (q : Place) where
  -- on none of the planes: on no one of them
  pub off_each : (ps : List Plane) → on_some ps q ≡ false → (p : Plane) → Has ps p → on p q ≡ false
  unfolding on_some
  off_each [] e p h = absurd (has_none p h)
  off_each (r ∷ ps) e p h =
      let k = or_parts (on r q) (on_some ps q) e in
      elim (has_either r p ps h) [ inl i ↦ subst (λ s. on s q ≡ false) i k.0 | inr l ↦ off_each ps k.1 p l ]

  pub off_all : (ps : List Plane) → ((p : Plane) → Has ps p → on p q ≡ false) → on_some ps q ≡ false
  unfolding on_some
  off_all [] f = refl
  off_all (p ∷ ps) f = or_from (on p q) (on_some ps q) (f p (has_here p ps)) (off_all ps (λ r h. f r (has_there p r ps h)))

  -- on some of the planes: on one of them
  pub on_one : (ps : List Plane) → on_some ps q ≡ true → (p : Plane) × Has ps p × (on p q ≡ true)
  unfolding on_some
  on_one [] e = absurd (false≢true e)
  on_one (p ∷ ps) e = elim (or_cases (on p q) (on_some ps q) e) [
    | inl h ↦ (p, has_here p ps, h)
    | inr h ↦ let r = on_one ps h in (r.0, has_there p r.0 ps r.1, r.2)
  ]

  pub one_on : (ps : List Plane) (p : Plane) → Has ps p → on p q ≡ true → on_some ps q ≡ true
  unfolding on_some
  one_on [] p h e = absurd (has_none p h)
  one_on (r ∷ ps) p h e = elim (has_either r p ps h) [
    | inl i ↦ or_left (on r q) (on_some ps q) (subst (λ s. on s q ≡ true) (sym i) e)
    | inr l ↦ or_right (on r q) (on_some ps q) (one_on ps p l e)
  ]

  pub on_some-append : (ps rs : List Plane) → on_some (ps ++ rs) q ≡ (on_some ps q || on_some rs q)
  unfolding on_some
  on_some-append [] rs = refl
  on_some-append (p ∷ ps) rs = ap (λ x. on p q || x) (on_some-append ps rs) ∙ sym (or_assoc (on p q) (on_some ps q) (on_some rs q))

  -- below all of the planes: below each one
  pub below_each : (ps : List Plane) → all_below ps q ≡ true → (p : Plane) → Has ps p → below p q ≡ true
  unfolding all_below
  below_each [] e p h = absurd (has_none p h)
  below_each (r ∷ ps) e p h =
      let k = and_parts (below r q) (all_below ps q) e in
      elim (has_either r p ps h) [ inl i ↦ subst (λ s. below s q ≡ true) i k.0 | inr l ↦ below_each ps k.1 p l ]

  pub below_all : (ps : List Plane) → ((p : Plane) → Has ps p → below p q ≡ true) → all_below ps q ≡ true
  unfolding all_below
  below_all [] f = refl
  below_all (p ∷ ps) f = and_from (below p q) (all_below ps q) (f p (has_here p ps)) (below_all ps (λ r h. f r (has_there p r ps h)))
