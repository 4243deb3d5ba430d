-- The largest numbers. All other bounds are computed from these.
use Rattle.std.specs.Prelude.{◌≡◌, ℕ, ◌-◌, ◌*◌, ◌^◌, ◌<◌, ◌≤◌, pos, Option, MatchOption}
use Rattle.arith.specs.Bounds.{Short}
use Rattle.plane.specs.declared.types.Plane.{Plane}
use Rattle.plane.specs.declared.types.Place.{Place}
use Rattle.plane.specs.declared.types.Shift.{Shift}

-- a, b and c of a plane are from -6 to 6
abbrev pub slope_limit : ℕ
slope_limit = 6

-- the workshop ends at 16,384 in all six directions
abbrev pub reach : ℕ
reach = 16384

-- d of a plane is from -294,912 to 294,912: each plane that has a place in the workshop is among these
abbrev pub offset_limit : ℕ
offset_limit = 3 * slope_limit * reach

-- x, y and z of a place are below 2^56 in size, and w is below 2^42
abbrev pub coordinate_limit : ℕ
coordinate_limit = 2 ^ 56 - 1

abbrev pub scale_limit : ℕ
scale_limit = 2 ^ 42 - 1

-- the slopes are not all 0
abbrev pub Sloped : Plane → Type 0
Sloped p = (p.a ≡ pos 0) × (p.b ≡ pos 0) × (p.c ≡ pos 0) → ⊥

-- the slopes are in range
abbrev pub Gentle : Plane → Type 0
Gentle p = Short p.a slope_limit × Short p.b slope_limit × Short p.c slope_limit

-- a plane in range
pub record FitsPlane (p : Plane) : Type 0 where
  pub a : Short p.a slope_limit
  pub b : Short p.b slope_limit
  pub c : Short p.c slope_limit
  pub d : Short p.d offset_limit
  pub sloped : Sloped p

-- the plane if it is in range, and nothing if it isn't
abbrev pub IfFits : Plane → Option Plane → Type 0
IfFits p r = MatchOption r (FitsPlane p → ⊥) (λ q. (q ≡ p) × FitsPlane q)

-- a place in range
pub record SmallPlace (q : Place) : Type 0 where
  pub x : Short q.x coordinate_limit
  pub y : Short q.y coordinate_limit
  pub z : Short q.z coordinate_limit
  pub w : q.w ≤ scale_limit
  pub real : 0 < q.w

-- a shift in range: numbers of a text are
pub record FitsShift (t : Shift) : Type 0 where
  pub x : Short t.x offset_limit
  pub y : Short t.y offset_limit
  pub z : Short t.z offset_limit

-- the determinant of three rows of slopes: six products of three
abbrev pub determinant_limit : ℕ
determinant_limit = 6 * slope_limit ^ 3

-- the same with a column of offsets in the place of one of slopes
abbrev pub corner_limit : ℕ
corner_limit = 6 * (offset_limit * slope_limit ^ 2)

-- how far two rows of slopes go together: three products of two
abbrev pub along_limit : ℕ
along_limit = 3 * slope_limit ^ 2

-- slopes times coordinates: three products of two
abbrev pub weight_limit : ℕ
weight_limit = 3 * (slope_limit * coordinate_limit)
