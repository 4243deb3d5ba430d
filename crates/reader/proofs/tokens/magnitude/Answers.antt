use Rattle.std.proofs.Common.{◌+◌, ◌-◌, ◌*◌, get_or, drop, arith, rules}
use Rattle.grammar.proofs.Values.{read_more, read_ge}
use Rattle.reader.proofs.tokens.magnitude.Goals as goal

pub returns-then-size-gt-NUMBER_LIMIT : goal.returns-then-size-gt-NUMBER_LIMIT
returns-then-size-gt-NUMBER_LIMIT c =
    let bs = c.args.digits.now in
    let v = c.loop-b.size * 10 + (get_or bs c.loop-b.b-index 0 - 48) in
    let e = read_more bs c.loop-b.b-index c.loop-b.size c.loop-b-test.true (search rules) in
    omega (arith, read_ge v (drop (c.loop-b.b-index + 1) bs), e, c.loop-b.invariant.0, c.from.ensures, c.if-size-gt-NUMBER_LIMIT.true)
