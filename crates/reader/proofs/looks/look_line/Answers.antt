use Rattle.std.proofs.Common.{leb, ap, sym, rules}
use Rattle.grammar.specs.Faults.{token}
use Rattle.reader.proofs.Tests.{looked_part}
use Rattle.reader.proofs.looks.look_line.Goals as goal

pub returns-then-eq : goal.returns-then-eq
returns-then-eq c names l =
    rw c.next_unless.ensures (looked_part names (token c.args.at c.args.word.now) _ (search rules) (ap (leb 100) (sym l)))
