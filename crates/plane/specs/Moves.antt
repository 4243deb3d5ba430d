-- Planes and places moved, mirrored at x = 0, with x and y exchanged, and turned from x to y to z to x.
use Rattle.std.specs.Prelude.{◌≡◌, pos, ◌+ℤ◌, ◌*ℤ◌, neg_ℤ}
use Rattle.plane.specs.declared.types.Plane.{Plane}
use Rattle.plane.specs.declared.types.Place.{Place}
use Rattle.plane.specs.declared.types.Shift.{Shift}
use Rattle.plane.specs.Planes.{height}

unfoldable pub moved_plane : Shift → Plane → Plane
moved_plane t p = record { a = p.a; b = p.b; c = p.c; d = p.d +ℤ (((p.a *ℤ t.x) +ℤ (p.b *ℤ t.y)) +ℤ (p.c *ℤ t.z)) }

unfoldable pub moved_place : Shift → Place → Place
moved_place t q = record { x = q.x +ℤ (t.x *ℤ pos q.w); y = q.y +ℤ (t.y *ℤ pos q.w); z = q.z +ℤ (t.z *ℤ pos q.w); w = q.w }

unfoldable pub mirrored_plane : Plane → Plane
mirrored_plane p = record { a = neg_ℤ p.a; b = p.b; c = p.c; d = p.d }

unfoldable pub mirrored_place : Place → Place
mirrored_place q = record { x = neg_ℤ q.x; y = q.y; z = q.z; w = q.w }

unfoldable pub swapped_plane : Plane → Plane
swapped_plane p = record { a = p.b; b = p.a; c = p.c; d = p.d }

unfoldable pub swapped_place : Place → Place
swapped_place q = record { x = q.y; y = q.x; z = q.z; w = q.w }

-- (x, y, z) comes to (z, x, y)
unfoldable pub rolled_plane : Plane → Plane
rolled_plane p = record { a = p.c; b = p.a; c = p.b; d = p.d }

unfoldable pub rolled_place : Place → Place
rolled_place q = record { x = q.z; y = q.x; z = q.y; w = q.w }

-- a change of planes and one of places go together: each place keeps its height
abbrev pub Together : (Plane → Plane) → (Place → Place) → Type 0
Together f g = (p : Plane) (q : Place) → height (f p) (g q) ≡ height p q
