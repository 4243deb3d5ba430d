use Rattle.std.proofs.Common.{◌≡◌, ◌+◌, ◌≤◌, length, take}
use Rattle.search.specs.Levels.{numbers, middles}
use Rattle.search.proofs.levels.Grid.middles.Given as goal

-- the list has the middles of the planes so far
abbrev pub invariant-loop-p : goal.invariant-loop-p
invariant-loop-p l =
    (length l.list.items ≤ l.p-index + 1) × (l.list.room ≡ length l.fn.words) × (numbers l.list.items ≡ middles l.axis (take l.p-index l.p-items))
