-- Sizes of integers.
use Rattle.std.specs.Prelude.{ℕ, ◌≤◌, ℤ, unsigned_abs}

-- z is from -n to n
pub record Short (z : ℤ) (n : ℕ) : Type 0 where
  pub size : unsigned_abs z ≤ n
