-- When the numbers of two planes are in one ratio.
use Rattle.std.specs.Prelude.{◌≡◌, ℤ, ◌*ℤ◌}
use Rattle.plane.specs.declared.types.Plane.{Plane}
use Rattle.plane.specs.Planes.{along}

-- all four numbers of a plane times k
unfoldable pub multiplied : ℤ → Plane → Plane
multiplied k p = record { a = k *ℤ p.a; b = k *ℤ p.b; c = k *ℤ p.c; d = k *ℤ p.d }

-- the ratio is that of how far p goes along itself and along r
abbrev pub InRatio : Plane → Plane → Type 0
InRatio p r = multiplied (along p p) r ≡ multiplied (along p r) p
