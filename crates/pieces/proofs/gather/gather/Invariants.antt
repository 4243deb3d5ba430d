use Rattle.std.proofs.Common.{◌≡◌, ◌+◌, ◌≤◌, ◌++◌, length, drop}
use Rattle.solid.specs.Stacks.{word_planes}
use Rattle.pieces.proofs.gather.gather.Given as goal

-- the list's own planes and those of the steps so far; with those of the rest they are all
abbrev pub invariant-loop-w : goal.invariant-loop-w
invariant-loop-w l =
    (length l.planes.items ≤ length l.initial.planes.items + l.w-index)
    × (l.planes.room ≡ l.initial.planes.room)
    × (l.planes.items ++ word_planes (drop l.w-index l.steps.words.now) ≡ l.initial.planes.items ++ word_planes l.steps.words.now)
