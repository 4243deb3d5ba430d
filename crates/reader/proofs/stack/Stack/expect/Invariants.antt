use Rattle.std.proofs.Common.{◌≡◌, ◌++◌}
use Rattle.reader.proofs.stack.Stack.expect.Given as goal

abbrev pub invariant-loop-want : goal.invariant-loop-want
invariant-loop-want l =
    (l.want-iterator.iter.rest.now ++ l.self.wants ≡ l.wants ++ l.fn.self.wants)
    × (l.self.size ≡ l.fn.self.size)
