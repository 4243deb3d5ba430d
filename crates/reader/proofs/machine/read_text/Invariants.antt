use Rattle.std.proofs.Common.{◌≡◌, ◌+◌, ◌*◌, ◌≤◌, [], length, take, Some}
use Rattle.grammar.specs.Machine.{run, Good}
use Rattle.reader.specs.Stack.{symbols}
use Rattle.std.specs.List.{between}
use Rattle.reader.proofs.machine.read_text.Given as goal

abbrev pub invariant-loop-i : goal.invariant-loop-i
invariant-loop-i l =
    (run (Some []) (take l.i l.text) ≡ Some (symbols l.stack.wants (between l.start l.i l.text)))
    × Good (between l.start l.i l.text)
    × (l.start ≤ l.i)
    × (length l.stack.wants ≤ 2 * l.start + 9)
    × (2 * length l.text + 15 ≤ l.stack.size)
