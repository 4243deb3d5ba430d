-- Where three planes meet.
use Rattle.std.specs.Prelude.{◌≡◌, ◌<◌, ◌≤◌, true, ℤ, pos, ◌+ℤ◌, ◌-ℤ◌, ◌*ℤ◌, Option, MatchOption, ◌≢◌}
use Rattle.arith.specs.Bounds.{Short}
use Rattle.plane.specs.declared.types.Plane.{Plane}
use Rattle.plane.specs.declared.types.Place.{Place}
use Rattle.plane.specs.Limits.{determinant_limit, corner_limit}
use Rattle.plane.specs.Planes.{on, SamePlace}

-- the determinant of the three rows of slopes
unfoldable pub determinant : Plane → Plane → Plane → ℤ
determinant p q r =
    ((p.a *ℤ ((q.b *ℤ r.c) -ℤ (q.c *ℤ r.b))) +ℤ (p.b *ℤ ((q.c *ℤ r.a) -ℤ (q.a *ℤ r.c)))) +ℤ (p.c *ℤ ((q.a *ℤ r.b) -ℤ (q.b *ℤ r.a)))

-- three planes with one place in common
pub record Meet (p q r : Plane) (s : Place) : Type 0 where
  pub real : 0 < s.w
  pub on_first : on p s ≡ true
  pub on_second : on q s ≡ true
  pub on_third : on r s ≡ true
  -- and no other place
  pub only : (t : Place) → 0 < t.w → on p t ≡ true → on q t ≡ true → on r t ≡ true → SamePlace s t
  -- its numbers are small
  pub w_small : s.w ≤ determinant_limit
  pub x_small : Short s.x corner_limit
  pub y_small : Short s.y corner_limit
  pub z_small : Short s.z corner_limit

-- what is said of three planes: that their directions lie in one plane, or where they meet
abbrev pub Met : Plane → Plane → Plane → Option Place → Type 0
Met p q r o = MatchOption o (determinant p q r ≡ pos 0) (λ s. Meet p q r s × (determinant p q r ≢ pos 0))
