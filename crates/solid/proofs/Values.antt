-- A shape's value, its planes and its words.
--     by_same                                        the value depends on what is said of the shape's planes alone
--     by_with, planes_with                           the value and the planes of a shape with changed planes
--     words-length                                   how many words and planes there are
use Rattle.std.proofs.Common.{◌≡◌, ℕ, ◌+◌, ◌*◌, Bool, not, ◌&&◌, ◌||◌, List, [], ◌∷◌, ◌++◌, map, length, sym, refl, ◌∙◌, ap₂, arith, length-append}
use Rattle.std.proofs.lemmas.List.{map-append}
use Rattle.plane.specs.declared.types.Plane.{Plane}
use Rattle.solid.specs.Shapes.{Shape, half, both, either, without, by, planes, with_planes, Has}
use Rattle.solid.specs.Steps.{words}
use Rattle.solid.proofs.Members.{has_here, has_left, has_right}

-- two sayings agree on some planes
abbrev Agree : (Plane → Bool) → (Plane → Bool) → List Plane → Type 0
Agree f g ps = (p : Plane) → Has ps p → f p ≡ g p

module _ (f g : Plane → Bool) where
  first : (ps qs : List Plane) → Agree f g (ps ++ qs) → Agree f g ps
  first ps qs a p h = a p (has_left p ps qs h)

  second : (ps qs : List Plane) → Agree f g (ps ++ qs) → Agree f g qs
  second ps qs a p h = a p (has_right p ps qs h)

  pub by_same : (s : Shape) → ((p : Plane) → Has (planes s) p → f p ≡ g p) → by f s ≡ by g s
  unfolding by planes
  by_same (half p) a = a p (has_here p [])
  by_same (both s t) a = ap₂ ◌&&◌ (by_same s (first (planes s) (planes t) a)) (by_same t (second (planes s) (planes t) a))
  by_same (either s t) a = ap₂ ◌||◌ (by_same s (first (planes s) (planes t) a)) (by_same t (second (planes s) (planes t) a))
  by_same (without s t) a = ap₂ (λ x y. x && not y) (by_same s (first (planes s) (planes t) a)) (by_same t (second (planes s) (planes t) a))

-- changed planes
pub by_with : (f : Plane → Bool) (g : Plane → Plane) (s : Shape) → by f (with_planes g s) ≡ by (λ p. f (g p)) s
unfolding by with_planes
by_with f g (half p) = refl
by_with f g (both s t) = ap₂ ◌&&◌ (by_with f g s) (by_with f g t)
by_with f g (either s t) = ap₂ ◌||◌ (by_with f g s) (by_with f g t)
by_with f g (without s t) = ap₂ (λ x y. x && not y) (by_with f g s) (by_with f g t)

pub planes_with : (g : Plane → Plane) (s : Shape) → planes (with_planes g s) ≡ map g (planes s)
unfolding planes with_planes
planes_with g (half p) = refl
planes_with g (both s t) = ap₂ ◌++◌ (planes_with g s) (planes_with g t) ∙ sym (map-append g (planes s) (planes t))
planes_with g (either s t) = ap₂ ◌++◌ (planes_with g s) (planes_with g t) ∙ sym (map-append g (planes s) (planes t))
planes_with g (without s t) = ap₂ ◌++◌ (planes_with g s) (planes_with g t) ∙ sym (map-append g (planes s) (planes t))

-- a plane each other word, and one more plane than joints
joint_length : (ps qs : List Plane) (us vs : List ℕ) (w : ℕ) → length us + 1 ≡ 2 * length ps → length vs + 1 ≡ 2 * length qs → length (us ++ (vs ++ (w ∷ []))) + 1 ≡ 2 * length (ps ++ qs)
joint_length ps qs us vs w a b = simp length-append (omega arith)

pub words-length : (s : Shape) → length (words s) + 1 ≡ 2 * length (planes s)
unfolding words planes
words-length (half p) = refl
words-length (both s t) = joint_length (planes s) (planes t) (words s) (words t) _ (words-length s) (words-length t)
words-length (either s t) = joint_length (planes s) (planes t) (words s) (words t) _ (words-length s) (words-length t)
words-length (without s t) = joint_length (planes s) (planes t) (words s) (words t) _ (words-length s) (words-length t)
