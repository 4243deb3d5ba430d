-- The determinant of three planes: its rows and its columns in turn, and its size.
use Rattle.std.proofs.Common.{◌≡◌, ℕ, ◌+◌, ◌*◌, refl}
use Rattle.arith.specs.Bounds.{Short}
use Rattle.arith.proofs.Sized.{is_self, is_mul, is_add, is_sub, is_short}
use Rattle.arith.proofs.Solve.{solve, ◌:=◌}
use Rattle.plane.specs.declared.types.Plane.{Plane}
use Rattle.plane.specs.Limits.{FitsPlane, slope_limit, offset_limit, determinant_limit, corner_limit}
use Rattle.plane.specs.Moves.{rolled_plane}
use Rattle.plane.specs.Meets.{determinant}
use Rattle.plane.specs.Cramer.{offset_first, numerator_x, numerator_y, numerator_z}
use Rattle.plane.proofs.Formulas.{Determinant}
use Rattle.plane.proofs.Ranges.{rolled_fits}

pub turn_rows : (p q r : Plane) → determinant q r p ≡ determinant p q r
unfolding determinant
turn_rows p q r =
    solve 9 (λ a b c e f g i j k. Determinant e f g i j k a b c := Determinant a b c e f g i j k) refl
    p.a p.b p.c q.a q.b q.c r.a r.b r.c

pub turn_columns : (p q r : Plane) → determinant (rolled_plane p) (rolled_plane q) (rolled_plane r) ≡ determinant p q r
unfolding determinant rolled_plane
turn_columns p q r =
    solve 9 (λ a b c e f g i j k. Determinant c a b g e f k i j := Determinant a b c e f g i j k) refl
    p.a p.b p.c q.a q.b q.c r.a r.b r.c

-- ---- sizes: the first column is at most n
record Row (n : ℕ) (p : Plane) : Type 0 where
  a : Short p.a n
  b : Short p.b slope_limit
  c : Short p.c slope_limit

abbrev sum_limit : ℕ → ℕ
sum_limit n =
    (n * (slope_limit * slope_limit + slope_limit * slope_limit) + slope_limit * (slope_limit * n + n * slope_limit))
    + slope_limit * (n * slope_limit + slope_limit * n)

determinant_short : (n : ℕ) {p q r : Plane} → Row n p → Row n q → Row n r → Short (determinant p q r) (sum_limit n)
unfolding determinant
determinant_short n f g h =
    let i = is_sub (is_mul (is_self g.b) (is_self h.c)) (is_mul (is_self g.c) (is_self h.b)) in
    let j = is_sub (is_mul (is_self g.c) (is_self h.a)) (is_mul (is_self g.a) (is_self h.c)) in
    let k = is_sub (is_mul (is_self g.a) (is_self h.b)) (is_mul (is_self g.b) (is_self h.a)) in
    is_short (is_add (is_add (is_mul (is_self f.a) i) (is_mul (is_self f.b) j)) (is_mul (is_self f.c) k))

slopes : {p : Plane} → FitsPlane p → Row slope_limit p
slopes f = record { a = f.a; b = f.b; c = f.c }

pub determinant_small : {p q r : Plane} → FitsPlane p → FitsPlane q → FitsPlane r → Short (determinant p q r) determinant_limit
determinant_small f g h = determinant_short slope_limit (slopes f) (slopes g) (slopes h)

offset : {p : Plane} → FitsPlane p → Row offset_limit (offset_first p)
unfolding offset_first
offset f = record { a = f.d; b = f.b; c = f.c }

pub x_short : {p q r : Plane} → FitsPlane p → FitsPlane q → FitsPlane r → Short (numerator_x p q r) corner_limit
unfolding numerator_x
x_short f g h = determinant_short offset_limit (offset f) (offset g) (offset h)

pub z_short : {p q r : Plane} → FitsPlane p → FitsPlane q → FitsPlane r → Short (numerator_z p q r) corner_limit
unfolding numerator_z
z_short f g h = x_short (rolled_fits f) (rolled_fits g) (rolled_fits h)

pub y_short : {p q r : Plane} → FitsPlane p → FitsPlane q → FitsPlane r → Short (numerator_y p q r) corner_limit
unfolding numerator_y
y_short f g h = z_short (rolled_fits f) (rolled_fits g) (rolled_fits h)
