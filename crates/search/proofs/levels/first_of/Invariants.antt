use Rattle.std.proofs.Common.{◌≡◌, ℕ, ◌<◌, false, length, None}
use Rattle.search.proofs.Walks.{spot}
use Rattle.search.proofs.levels.first_of.Given as goal

-- nothing is found yet: the question holds for no place so far
abbrev pub invariant-search : goal.invariant-search
invariant-search g l =
    (l.found ≡ None)
    × (l.asker ≡ l.fn.asker)
    × ((i : ℕ) → i < l.x-index → (j : ℕ) → j < length l.ys → (k : ℕ) → k < length l.zs → g.Q.Question.asked l.fn.asker (spot l.xs l.ys l.zs i j k) ≡ false)

abbrev pub invariant-loop-y : goal.invariant-loop-y
invariant-loop-y g l =
    (l.found ≡ None)
    × (l.asker ≡ l.fn.asker)
    × ((j : ℕ) → j < l.y-index → (k : ℕ) → k < length l.zs → g.Q.Question.asked l.fn.asker (spot l.xs l.ys l.zs l.x-index j k) ≡ false)

abbrev pub invariant-loop-z : goal.invariant-loop-z
invariant-loop-z g l =
    (l.found ≡ None)
    × (l.asker ≡ l.fn.asker)
    × ((k : ℕ) → k < l.z-index → g.Q.Question.asked l.fn.asker (spot l.xs l.ys l.zs l.x-index l.y-index k) ≡ false)
