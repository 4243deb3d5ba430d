use Rattle.std.proofs.Common.{◌*◌, ◌≤◌, length}
use Rattle.reader.specs.Layout.{Taken}
use Rattle.reader.proofs.Laying.{lines_in, Going}
use Rattle.reader.proofs.build.build.Given as goal

abbrev pub invariant-loop-spots : goal.invariant-loop-spots
invariant-loop-spots l = record {
  steps_fit : l.laid.used ≤ length l.steps;
  asked_fit : 6 * l.laid.asked ≤ length l.asked;
  going : (t : Taken l.found.tokens l.found.names) → Going t.lines l.found.tokens l.found.names l.rest (lines_in l.spots l.laid l.steps l.asked);
}

abbrev pub decreases-loop-spots : goal.decreases-loop-spots
decreases-loop-spots l = length l.rest
