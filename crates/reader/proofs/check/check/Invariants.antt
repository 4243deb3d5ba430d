use Rattle.std.proofs.Common.{◌≡◌, ◌≤◌, length, drop}
use Rattle.reader.proofs.Checks.{Scanned}
use Rattle.reader.proofs.check.check.Given as goal

abbrev pub invariant-loop-start : goal.invariant-loop-start
invariant-loop-start l =
    Scanned l.text l.read l.names.items l.expect (drop l.start-index l.tokens) × (length l.names.items ≤ l.start-index) × (l.names.room ≡ l.initial.names.room)
