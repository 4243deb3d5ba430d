use Rattle.std.proofs.Common.{◌≡◌, ◌≤◌, List, [], length, drop}
use Rattle.solid.specs.Shapes.{Shape}
use Rattle.solid.specs.Stacks.{Makes, values_at}
use Rattle.solid.proofs.types.Steps.holds_at.Given as goal

-- the values are those of shapes from which the words that are left make the shape
abbrev pub invariant-loop-w : goal.invariant-loop-w
invariant-loop-w l = record {
  below : length l.values.items ≤ l.w-index;
  room : length l.self.words.now ≤ l.values.room;
  stack : (st : List Shape) × (l.values.items ≡ values_at l.q st) × ((s : Shape) → Makes s l.self.words.now [] → Makes s (drop l.w-index l.self.words.now) st);
}
