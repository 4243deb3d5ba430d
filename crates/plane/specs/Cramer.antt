-- Cramer's rule: each coordinate of the place where three planes meet is a quotient of two determinants.
use Rattle.std.specs.Prelude.{zero, suc, ℤ, pos, negsuc, neg_ℤ, Some, None, Option}
use Rattle.arith.specs.Bounds.{Short}
use Rattle.plane.specs.declared.types.Plane.{Plane}
use Rattle.plane.specs.declared.types.Place.{Place}
use Rattle.plane.specs.Limits.{slope_limit, offset_limit}
use Rattle.plane.specs.Meets.{determinant}
use Rattle.plane.specs.Moves.{rolled_plane}

-- the offset in the place of the first slope
unfoldable pub offset_first : Plane → Plane
offset_first p = record { a = p.d; b = p.b; c = p.c; d = p.d }

-- a row of a determinant: its first number may be an offset
pub record FitsRow (p : Plane) : Type 0 where
  pub a : Short p.a offset_limit
  pub b : Short p.b slope_limit
  pub c : Short p.c slope_limit

-- x, z and y of the place, times the determinant
unfoldable pub numerator_x : Plane → Plane → Plane → ℤ
numerator_x p q r = determinant (offset_first p) (offset_first q) (offset_first r)

unfoldable pub numerator_z : Plane → Plane → Plane → ℤ
numerator_z p q r = numerator_x (rolled_plane p) (rolled_plane q) (rolled_plane r)

unfoldable pub numerator_y : Plane → Plane → Plane → ℤ
numerator_y p q r = numerator_z (rolled_plane p) (rolled_plane q) (rolled_plane r)

-- the place (x / w, y / w, z / w), if w is not 0
unfoldable pub over : ℤ → ℤ → ℤ → ℤ → Option Place
over x y z (pos zero) = None
over x y z (pos (suc n)) = Some (record { x = x; y = y; z = z; w = suc n })
over x y z (negsuc n) = Some (record { x = neg_ℤ x; y = neg_ℤ y; z = neg_ℤ z; w = suc n })
