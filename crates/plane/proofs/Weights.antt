-- a x + b y + c z: its size, and its value where x, y and z are read from 64 bits.
use Rattle.std.proofs.Common.{◌≡◌, ℕ, ◌+◌, ◌*◌, ◌^◌, T, ltb, ℤ}
use Rattle.arith.specs.Bounds.{Short}
use Rattle.arith.proofs.Sized.{Is, is_self, is_num, is_mul, is_add, is_via}
use Rattle.arith.proofs.Steps.{back}
use Rattle.plane.specs.declared.types.Plane.{Plane}
use Rattle.plane.specs.Limits.{FitsPlane, slope_limit}
use Rattle.plane.specs.Planes.{weight}

abbrev pub three : ℕ → ℕ
three n = (slope_limit * n + slope_limit * n) + slope_limit * n

pub is_weight : {t x y z : ℤ} {n : ℕ} (p : Plane) → t ≡ weight p (back x) (back y) (back z) → FitsPlane p → Short x n → Short y n → Short z n → T (ltb n (2 ^ 63)) → Is t (weight p x y z) (three n)
is_weight p e f x y z h =
    is_via e (is_add (is_add (is_mul (is_self f.a) (is_num x h)) (is_mul (is_self f.b) (is_num y h))) (is_mul (is_self f.c) (is_num z h)))
