-- Level planes: x, y or z at a number. Where it matters, a place is told by its coordinates doubled, so that a whole number and the middle
-- between two are whole.
use Rattle.std.specs.Prelude.{◌≡◌, ℕ, zero, suc, ◌+◌, ◌*◌, List, [], ◌∷◌, ◌++◌, map, ℤ, pos, negsuc, ◌+ℤ◌, ◌*ℤ◌, neg_ℤ, Some, None, Option, unsigned_abs}
use Rattle.std.specs.Int.{w64, cast_signed}
use Rattle.arith.specs.Bounds.{Short}
use Rattle.plane.specs.declared.types.Plane.{Plane}
use Rattle.plane.specs.declared.types.Place.{Place}
use Rattle.plane.specs.Limits.{FitsPlane, offset_limit}
use Rattle.solid.specs.Shapes.{Has}
use Rattle.search.specs.declared.levels.Axis.{Axis}
use Rattle.search.specs.declared.levels.Axis.TheVariants.{X, Y, Z}

-- one of a, b and c is 1 or -1, and the others are 0
abbrev pub Level : Plane → Type 0
Level p = unsigned_abs p.a + unsigned_abs p.b + unsigned_abs p.c ≡ 1

abbrev pub slope_along : Axis → Plane → ℤ
slope_along X p = p.a
slope_along Y p = p.b
slope_along Z p = p.c

abbrev pub coordinate : Axis → Place → ℤ
coordinate X q = q.x
coordinate Y q = q.y
coordinate Z q = q.z

-- d, or its opposite where the slope is -1; nothing for a slope of 0
abbrev pub number_by : ℤ → ℤ → Option ℤ
number_by (pos zero) d = None
number_by (pos (suc n)) d = Some (pos (suc n) *ℤ d)
number_by (negsuc n) d = Some (negsuc n *ℤ d)

-- at which number of the axis the plane is
abbrev pub number_along : Axis → Plane → Option ℤ
number_along x p = number_by (slope_along x p) p.d

-- the middle behind a number, doubled
abbrev pub behind : Option ℤ → List ℤ
behind None = []
behind (Some v) = (pos 2 *ℤ v +ℤ pos 1) ∷ []

abbrev pub behind_each : Axis → List Plane → List ℤ
behind_each x [] = []
behind_each x (p ∷ ps) = behind (number_along x p) ++ behind_each x ps

-- no plane in range is this far down
abbrev pub spot_limit : ℕ
spot_limit = 2 * offset_limit + 1

abbrev pub lowest : ℤ
lowest = neg_ℤ (pos spot_limit)

-- a coordinate for each way to lie between the planes of an axis
abbrev pub middles : Axis → List Plane → List ℤ
middles x ps = lowest ∷ behind_each x ps

-- the same, or where the base is if it is of that axis
abbrev pub base_along : Axis → Option Plane → Option ℤ
base_along x None = None
base_along x (Some p) = number_along x p

abbrev pub spots_by : Option ℤ → List ℤ → List ℤ
spots_by None ms = ms
spots_by (Some v) ms = (pos 2 *ℤ v) ∷ []

abbrev pub spots : Option Plane → List Plane → Axis → List ℤ
spots o ps x = spots_by (base_along x o) (middles x ps)

-- the signed numbers in words
abbrev pub numbers : List ℕ → List ℤ
numbers ws = map (cast_signed w64) ws

-- planes in range and level
abbrev pub AllLevel : List Plane → Type 0
AllLevel ps = (p : Plane) → Has ps p → FitsPlane p × Level p

abbrev pub BaseLevel : Option Plane → Type 0
BaseLevel o = (p : Plane) → o ≡ Some p → FitsPlane p × Level p

-- planes, and a base to stay on, if there is one
pub record Grid : Type 0 where
  pub base : Option Plane
  pub planes : List Plane

-- doubled coordinates in range
abbrev pub AllShort : List ℤ → Type 0
AllShort ms = (m : ℤ) → Has ms m → Short m spot_limit

-- the place with these doubled coordinates
abbrev pub halved : ℤ → ℤ → ℤ → Place
halved x y z = record { x = x; y = y; z = z; w = 2 }

-- one with doubled coordinates of three lists
pub record Listed (ks ls ms : List ℤ) (q : Place) : Type 0 where
  pub x : Has ks q.x
  pub y : Has ls q.y
  pub z : Has ms q.z
  pub w : q.w ≡ 2

-- the places that stand for all others
abbrev pub Standing : Option Plane → List Plane → Place → Type 0
Standing o ps q = Listed (spots o ps X) (spots o ps Y) (spots o ps Z) q
