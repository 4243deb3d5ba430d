-- The stack machine's inside: the shapes on its stack, and their values.
use Rattle.std.specs.Prelude.{◌≡◌, ℕ, ◌≤◌, Bool, List, [], ◌∷◌, ◌++◌, length, pos}
use Rattle.plane.specs.declared.types.Plane.{Plane}
use Rattle.plane.specs.declared.types.Place.{Place}
use Rattle.solid.specs.declared.types.Step.{Step}
use Rattle.solid.specs.declared.types.Step.TheVariants.{Half, Both, Either, Without}
use Rattle.solid.specs.Shapes.{Shape, half, both, either, without, holds, plane}
use Rattle.solid.specs.Steps.{step, FitsStep}

-- the shapes on the stack after a step, the newest first; none where there are too few
abbrev pub after : Step → List Shape → List Shape
after (Half p) st = half p ∷ st
after Both [] = []
after Both (t ∷ []) = []
after Both (t ∷ (s ∷ st)) = both s t ∷ st
after Either [] = []
after Either (t ∷ []) = []
after Either (t ∷ (s ∷ st)) = either s t ∷ st
after Without [] = []
after Without (t ∷ []) = []
after Without (t ∷ (s ∷ st)) = without s t ∷ st

-- how many shapes a step takes from the stack
abbrev pub taken : Step → ℕ
taken (Half p) = 0
taken Both = 2
taken Either = 2
taken Without = 2

-- a step in range finds enough among n shapes
pub record Enough (x : Step) (n : ℕ) : Type 0 where
  pub fits : FitsStep x
  pub many : taken x ≤ n

-- the shapes on the stack after words, and the shape that they leave on top
abbrev pub run : List ℕ → List Shape → List Shape
run [] st = st
run (w ∷ ws) st = run ws (after (step w) st)

abbrev pub top : List Shape → Shape
top [] = half (plane (pos 1) (pos 0) (pos 0) (pos 0))
top (s ∷ st) = s

-- the shape of steps
unfoldable pub shape_of : List ℕ → Shape
shape_of ws = top (run ws [])

-- from the shapes on the stack, the words make one shape and leave no other
abbrev pub Makes : Shape → List ℕ → List Shape → Type 0
Makes s [] st = st ≡ s ∷ []
Makes s (w ∷ ws) st = Enough (step w) (length st) × Makes s ws (after (step w) st)

-- the values of the shapes on the stack at a place, the newest last
abbrev pub values_at : Place → List Shape → List Bool
values_at q [] = []
values_at q (s ∷ st) = values_at q st ++ (holds s q ∷ [])

-- the planes of a step, and of words
abbrev pub plane_of_step : Step → List Plane
plane_of_step (Half p) = p ∷ []
plane_of_step Both = []
plane_of_step Either = []
plane_of_step Without = []

unfoldable pub word_planes : List ℕ → List Plane
word_planes [] = []
word_planes (w ∷ ws) = plane_of_step (step w) ++ word_planes ws
