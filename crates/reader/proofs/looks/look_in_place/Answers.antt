use Rattle.std.proofs.Common.{arith}
use Rattle.grammar.specs.Faults.{token}
use Rattle.reader.proofs.Tests.{looked_scale, looked_place}
use Rattle.reader.proofs.looks.look_in_place.Goals as goal

pub returns-then-left-eq0 : goal.returns-then-left-eq0
returns-then-left-eq0 c names =
    rw (c.next_unless.ensures, c.if-left-eq0.true) (looked_scale names (token c.args.at c.args.word.now) _ c.is_no_scale.ensures)

pub returns-else-left-eq0 : goal.returns-else-left-eq0
returns-else-left-eq0 c names =
    rw c.next_unless-else-left-eq0.ensures (looked_place names (token c.args.at c.args.word.now) c.args.left (omega arith) _ c.is_beyond.ensures)
