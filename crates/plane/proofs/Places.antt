-- Places over an integer: (x / k, y / k, z / k) for a k above 0.
use Rattle.std.proofs.Common.{◌≡◌, ◌<◌, ℤ, pos, ◌-ℤ◌, ◌*ℤ◌, nat_abs, ◌<ℤ◌, ap, arith}
use Rattle.std.proofs.lemmas.Int.{ints}
use Rattle.plane.specs.declared.types.Plane.{Plane}
use Rattle.plane.specs.declared.types.Place.{Place}
use Rattle.plane.specs.Planes.{height, weight}

abbrev pub place : ℤ → ℤ → ℤ → ℤ → Place
place x y z k = record { x = x; y = y; z = z; w = nat_abs k }

-- the height, with an integer in the place of w
abbrev pub height_over : Plane → ℤ → ℤ → ℤ → ℤ → ℤ
height_over p x y z k = weight p x y z -ℤ (p.d *ℤ k)

pub size_is : (k : ℤ) → pos 0 <ℤ k → pos (nat_abs k) ≡ k
size_is k h = omega (arith, ints)

pub size_real : (k : ℤ) → pos 0 <ℤ k → 0 < nat_abs k
size_real k h = omega (arith, ints)

pub height-place : (p : Plane) (x y z k : ℤ) → pos 0 <ℤ k → height p (place x y z k) ≡ height_over p x y z k
unfolding height
height-place p x y z k h = ap (height_over p x y z) (size_is k h)
