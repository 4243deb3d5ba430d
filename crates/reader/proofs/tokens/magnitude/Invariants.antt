use Rattle.std.proofs.Common.{◌≡◌, ◌≤◌, drop}
use Rattle.grammar.specs.Values.{read_on, number_limit}
use Rattle.reader.proofs.tokens.magnitude.Given as goal

abbrev pub invariant-loop-b : goal.invariant-loop-b
invariant-loop-b l = (read_on l.size (drop l.b-index l.digits) ≡ read_on 0 l.digits) × (l.size ≤ number_limit)
