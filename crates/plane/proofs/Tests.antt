-- What a test of two integers says, and what says it.
--     lt_yes, lt_no, lt_says          one is less than the other
--     same_yes, same_says             they are the same
use Rattle.std.proofs.Common.{◌≡◌, true, false, ℤ, ◌≤ℤ◌, ◌<ℤ◌, arith}
use lib.Signed.{lt_z}
use Rattle.std.proofs.lemmas.Int.{ints}
use Rattle.plane.specs.Planes.{same_z}

pub lt_yes : (a b : ℤ) → a <ℤ b → lt_z a b ≡ true
lt_yes a b h = grind (arith, ints)

pub lt_no : (a b : ℤ) → b ≤ℤ a → lt_z a b ≡ false
lt_no a b h = grind (arith, ints)

pub lt_says : (a b : ℤ) → lt_z a b ≡ true → a <ℤ b
lt_says a b h = grind (arith, ints)

pub same_yes : (a b : ℤ) → a ≡ b → same_z a b ≡ true
unfolding same_z
same_yes a b h = grind (arith, ints)

pub same_says : (a b : ℤ) → same_z a b ≡ true → a ≡ b
unfolding same_z
same_says a b h = grind (arith, ints)
