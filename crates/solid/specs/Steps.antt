-- A shape as steps, each a word: what a stack machine does to find the shape's value, the operands first.
use Rattle.std.specs.Prelude.{◌≡◌, ℕ, ◌+◌, ◌-◌, ◌*◌, ◌/◌, ◌%◌, cond, List, [], ◌∷◌, ◌++◌, ℤ, pos, ◌+ℤ◌, ◌-ℤ◌, ◌==◌, unsigned_abs}
use Rattle.plane.specs.declared.types.Plane.{Plane}
use Rattle.plane.specs.Limits.{slope_limit, offset_limit, FitsPlane}
use Rattle.solid.specs.declared.types.Step.{Step}
use Rattle.solid.specs.declared.types.Step.TheVariants.{Half, Both, Either, Without}
use Rattle.solid.specs.Shapes.{Shape, half, both, either, without, Fits}

-- how many numbers there are from -n to n
abbrev pub span : ℕ → ℕ
span n = 2 * n + 1

-- a number from -n to n, counted from 0, and back
abbrev pub raised : ℕ → ℤ → ℕ
raised n z = unsigned_abs (z +ℤ pos n)

abbrev pub lowered : ℕ → ℕ → ℤ
lowered n k = pos k -ℤ pos n

-- a plane as one number, whose digits are its slopes and its offset, and back
unfoldable pub plane_number : Plane → ℕ
plane_number p =
    raised slope_limit p.a
    + span slope_limit * (raised slope_limit p.b + span slope_limit * (raised slope_limit p.c + span slope_limit * raised offset_limit p.d))

unfoldable pub numbered_plane : ℕ → Plane
numbered_plane n =
    record {
      a = lowered slope_limit (n % span slope_limit);
      b = lowered slope_limit (n / span slope_limit % span slope_limit);
      c = lowered slope_limit (n / span slope_limit / span slope_limit % span slope_limit);
      d = lowered offset_limit (n / span slope_limit / span slope_limit / span slope_limit % span offset_limit);
    }

unfoldable pub word : Step → ℕ
word Both = 0
word Either = 1
word Without = 2
word (Half p) = 3 + plane_number p

unfoldable pub step : ℕ → Step
step w = cond (w == 0) Both (cond (w == 1) Either (cond (w == 2) Without (Half (numbered_plane (w - 3)))))

unfoldable pub words : Shape → List ℕ
words (half p) = word (Half p) ∷ []
words (both s t) = words s ++ (words t ++ (word Both ∷ []))
words (either s t) = words s ++ (words t ++ (word Either ∷ []))
words (without s t) = words s ++ (words t ++ (word Without ∷ []))

-- a step in range
abbrev pub FitsStep : Step → Type 0
FitsStep (Half p) = FitsPlane p
FitsStep Both = Unit {0}
FitsStep Either = Unit {0}
FitsStep Without = Unit {0}

-- the steps of a shape in range
pub record Coded (ws : List ℕ) : Type 0 where
  pub shape : Shape
  pub is : ws ≡ words shape
  pub fits : Fits shape
