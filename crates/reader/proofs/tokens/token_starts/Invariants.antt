use Rattle.std.proofs.Common.{◌≡◌, ◌≤◌, false, ◌++◌, length, drop}
use Rattle.grammar.specs.Tokens.{starts_from}
use Rattle.reader.proofs.tokens.token_starts.Given as goal

abbrev pub invariant-loop-i : goal.invariant-loop-i
invariant-loop-i l =
    (l.starts.items ++ starts_from l.inside l.i (drop l.i l.text) ≡ starts_from false 0 l.text)
    × (length l.starts.items ≤ l.i)
    × (l.starts.room ≡ l.initial.starts.room)
