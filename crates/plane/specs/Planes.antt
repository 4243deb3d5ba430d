-- Planes and places: which side a place is on, and when two planes are one.
use Rattle.std.specs.Prelude.{◌≡◌, ℕ, ◌*◌, ◌<◌, Bool, true, false, cond, ◌&&◌, ℤ, pos, ◌+ℤ◌, ◌-ℤ◌, ◌*ℤ◌, neg_ℤ, Some, None, Option, int_le, int_lt}
use Rattle.plane.specs.declared.types.Plane.{Plane}
use Rattle.plane.specs.declared.types.Place.{Place}
use Rattle.plane.specs.declared.types.Facing.{Facing}
use Rattle.plane.specs.declared.types.Facing.TheVariants.{Alike, Opposite}
use Rattle.plane.specs.declared.types.Side.{Side}
use Rattle.plane.specs.declared.types.Side.TheVariants.{Below, On, Above}

-- two integers are the same
unfoldable pub same_z : ℤ → ℤ → Bool
same_z a b = int_le a b && int_le b a

-- a x + b y + c z
abbrev pub weight : Plane → ℤ → ℤ → ℤ → ℤ
weight p x y z = ((p.a *ℤ x) +ℤ (p.b *ℤ y)) +ℤ (p.c *ℤ z)

-- how far a place is above a plane, in units of the place's w and the plane's slopes
unfoldable pub height : Plane → Place → ℤ
height p q = (((p.a *ℤ q.x) +ℤ (p.b *ℤ q.y)) +ℤ (p.c *ℤ q.z)) -ℤ (p.d *ℤ pos q.w)

unfoldable pub below : Plane → Place → Bool
below p q = int_lt (height p q) (pos 0)

unfoldable pub on : Plane → Place → Bool
on p q = same_z (height p q) (pos 0)

unfoldable pub side : Plane → Place → Side
side p q = cond (below p q) Below (cond (on p q) On Above)

-- the same plane, looked at from the other side
unfoldable pub turned : Plane → Plane
turned p = record { a = neg_ℤ p.a; b = neg_ℤ p.b; c = neg_ℤ p.c; d = neg_ℤ p.d }

-- how far two planes' directions go together
unfoldable pub along : Plane → Plane → ℤ
along p r = ((p.a *ℤ r.a) +ℤ (p.b *ℤ r.b)) +ℤ (p.c *ℤ r.c)

-- a place in other terms: all four numbers times k
unfoldable pub scaled : ℕ → Place → Place
scaled k q = record { x = q.x *ℤ pos k; y = q.y *ℤ pos k; z = q.z *ℤ pos k; w = q.w * k }

-- two places are one: their coordinates are, as fractions
pub record SamePlace (q r : Place) : Type 0 where
  pub x : q.x *ℤ pos r.w ≡ r.x *ℤ pos q.w
  pub y : q.y *ℤ pos r.w ≡ r.y *ℤ pos q.w
  pub z : q.z *ℤ pos r.w ≡ r.z *ℤ pos q.w

-- two planes look the same way along parallel normals
unfoldable pub same_way : Plane → Plane → Bool
same_way p r =
    (same_z (p.a *ℤ r.b) (p.b *ℤ r.a) && (same_z (p.a *ℤ r.c) (p.c *ℤ r.a) && same_z (p.b *ℤ r.c) (p.c *ℤ r.b)))
    && int_lt (pos 0) (along p r)

-- what two planes that are one have in common: the same places lie below them, or what is below the one is above the other
abbrev pub OneAlike : Plane → Plane → Type 0
OneAlike p r = (q : Place) → 0 < q.w → side r q ≡ side p q

abbrev pub OneOpposite : Plane → Plane → Type 0
OneOpposite p r = (q : Place) → 0 < q.w → side r q ≡ side (turned p) q

-- a place that tells two planes apart
pub record Apart (p r : Plane) : Type 0 where
  pub place : Place
  pub real : 0 < place.w
  pub on_one : on p place ≡ true
  pub off_other : on r place ≡ false

-- what is said of two planes: that some place tells them apart, or which way each looks
abbrev pub Coincide : Plane → Plane → Option Facing → Type 0
Coincide p r None = Apart p r
Coincide p r (Some Alike) = OneAlike p r
Coincide p r (Some Opposite) = OneOpposite p r
