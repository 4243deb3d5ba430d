-- A list in lent memory: what is in it, and for how many there is room.
use Rattle.std.specs.Prelude.{ℕ, List}

pub record Held (T : Type 0) : Type 0 where
  pub items : List T
  pub room : ℕ
