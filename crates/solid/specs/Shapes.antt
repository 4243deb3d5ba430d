-- Shapes: half-spaces joined by both, either and without; their value at a place.
use Rattle.std.specs.Prelude.{◌≡◌, ℕ, ◌<◌, ◌≤◌, Bool, true, false, cond, not, ◌&&◌, ◌||◌, ◌⊎◌, List, [], ◌∷◌, ◌++◌, length, ℤ, pos, neg_ℤ, int_lt, slice_index_or}
use Rattle.plane.specs.declared.types.Plane.{Plane}
use Rattle.plane.specs.declared.types.Place.{Place}
use Rattle.plane.specs.Limits.{FitsPlane, reach}
use Rattle.plane.specs.Planes.{below, on, turned, along, same_way}

pub data Shape : Type 0 where
  half : Plane → Shape
  both : Shape → Shape → Shape
  either : Shape → Shape → Shape
  without : Shape → Shape → Shape

-- a shape's value, if it is known which planes something is below
unfoldable pub by : (Plane → Bool) → Shape → Bool
by f (half p) = f p
by f (both s t) = by f s && by f t
by f (either s t) = by f s || by f t
by f (without s t) = by f s && not (by f t)

-- whether a place is in a shape
unfoldable pub holds : Shape → Place → Bool
holds s q = by (λ p. below p q) s

unfoldable pub planes : Shape → List Plane
planes (half p) = p ∷ []
planes (both s t) = planes s ++ planes t
planes (either s t) = planes s ++ planes t
planes (without s t) = planes s ++ planes t

-- each plane changed
unfoldable pub with_planes : (Plane → Plane) → Shape → Shape
with_planes f (half p) = half (f p)
with_planes f (both s t) = both (with_planes f s) (with_planes f t)
with_planes f (either s t) = either (with_planes f s) (with_planes f t)
with_planes f (without s t) = without (with_planes f s) (with_planes f t)

abbrev pub plane : ℤ → ℤ → ℤ → ℤ → Plane
plane a b c d = record { a = a; b = b; c = c; d = d }

-- x0 < x < x1, y0 < y < y1 and z0 < z < z1
unfoldable pub box : ℤ → ℤ → ℤ → ℤ → ℤ → ℤ → Shape
box x0 x1 y0 y1 z0 z1 =
    both
    (both
    (both (half (plane (pos 1) (pos 0) (pos 0) x1)) (half (plane (neg_ℤ (pos 1)) (pos 0) (pos 0) (neg_ℤ x0))))
    (both (half (plane (pos 0) (pos 1) (pos 0) y1)) (half (plane (pos 0) (neg_ℤ (pos 1)) (pos 0) (neg_ℤ y0)))))
    (both (half (plane (pos 0) (pos 0) (pos 1) z1)) (half (plane (pos 0) (pos 0) (neg_ℤ (pos 1)) (neg_ℤ z0))))

-- everything within reach
unfoldable pub workshop : Shape
workshop = box (neg_ℤ (pos reach)) (pos reach) (neg_ℤ (pos reach)) (pos reach) (neg_ℤ (pos reach)) (pos reach)

-- the solid of a shape: what of it is in the workshop
unfoldable pub solid : Shape → Shape
solid s = both workshop s

-- x stands at n in a list; somewhere in it
abbrev pub At : {A : Type 0} → List A → ℕ → A → Type 0
At xs n x = (n < length xs) × (slice_index_or xs n x ≡ x)

abbrev pub Has : {A : Type 0} → List A → A → Type 0
Has xs x = (n : ℕ) × At xs n x

-- a place on none of a shape's planes
pub record Clear (s : Shape) (q : Place) : Type 0 where
  pub real : 0 < q.w
  pub off : (p : Plane) → Has (planes s) p → on p q ≡ false

-- a place on a plane, and on no other of a shape's that lies another way
pub record ClearBut (s : Shape) (p : Plane) (q : Place) : Type 0 where
  pub real : 0 < q.w
  pub on_it : on p q ≡ true
  pub off_others : (r : Plane) → Has (planes s) r → on r q ≡ true → (same_way p r ≡ true) ⊎ (same_way p (turned r) ≡ true)

-- just below, or just above, a place on plane p: planes through the place are met by their direction
unfoldable pub just_below : Plane → Place → Plane → Bool
just_below p q r = cond (on r q) (int_lt (pos 0) (along p r)) (below r q)

unfoldable pub just_above : Plane → Place → Plane → Bool
just_above p q r = cond (on r q) (int_lt (along p r) (pos 0)) (below r q)

-- a shape ends at a place of plane p, with the shape below: it is solid just below, and not just above
unfoldable pub ends : Shape → Plane → Place → Bool
ends s p q = by (just_below p q) s && not (by (just_above p q) s)

-- how many planes a part may have
abbrev pub most_planes : ℕ
most_planes = 200

-- a shape in range
pub record Fits (s : Shape) : Type 0 where
  pub few : length (planes s) ≤ most_planes
  pub each : (p : Plane) → Has (planes s) p → FitsPlane p
