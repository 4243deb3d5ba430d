-- What is told of a place, and some examples.
use Rattle.std.specs.Prelude.{◌≡◌, ℕ, Bool, false, cond, ◌||◌, List, [], ◌∷◌, ℤ, pos}
use Rattle.plane.specs.declared.types.Plane.{Plane}
use Rattle.plane.specs.declared.types.Place.{Place}
use Rattle.plane.specs.Planes.{on}
use Rattle.solid.specs.declared.types.Told.{Told}
use Rattle.solid.specs.declared.types.Told.TheVariants.{In, Out, On}
use Rattle.solid.specs.Shapes.{Shape, half, both, box, holds, planes, solid, plane}

unfoldable pub on_some : List Plane → Place → Bool
on_some [] q = false
on_some (p ∷ ps) q = on p q || on_some ps q

-- on, if the place is on a plane of the shape or of the workshop; else whether it is in the solid
unfoldable pub told : Shape → Place → Told
told s q = cond (on_some (planes (solid s)) q) On (cond (holds (solid s) q) In Out)

pub record Example : Type 0 where
  pub shape : Shape
  pub place : Place
  pub answer : Told

abbrev pub at : ℤ → ℤ → ℤ → ℕ → Place
at x y z w = record { x = x; y = y; z = z; w = w }

-- a cube of two, and what of it lies below x + z = 2
abbrev pub cube : Shape
cube = box (pos 0) (pos 2) (pos 0) (pos 2) (pos 0) (pos 2)

abbrev pub wedge : Shape
wedge = both cube (half (plane (pos 1) (pos 0) (pos 1) (pos 2)))

abbrev pub examples : List Example
examples =
    record { shape = cube; place = at (pos 1) (pos 1) (pos 1) 1; answer = In }
    ∷ record { shape = cube; place = at (pos 2) (pos 1) (pos 1) 1; answer = On }
    ∷ record { shape = cube; place = at (pos 5) (pos 2) (pos 2) 2; answer = Out }
    ∷ record { shape = wedge; place = at (pos 1) (pos 1) (pos 1) 2; answer = In }
    ∷ record { shape = wedge; place = at (pos 3) (pos 1) (pos 3) 2; answer = Out }
    ∷ []

-- each is told as it says
abbrev pub AllTold : List Example → Type 0
AllTold [] = Unit {0}
AllTold (e ∷ es) = (told e.shape e.place ≡ e.answer) × AllTold es
