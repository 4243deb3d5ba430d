use Rattle.std.proofs.Common.{arith, rules}
use Rattle.std.proofs.lemmas.Int.{ints}
use Rattle.reader.proofs.Signs.{amount_is, minus_below, plain_above, size_is}
use Rattle.reader.proofs.tokens.number_of.Goals as goal

pub returns-in_err-size : goal.returns-in_err-size
returns-in_err-size c z e =
    rw c.from_residual.ensures (omega (arith, c.in_err-size.ensures, amount_is c.args.word.now z e, size_is z))

pub returns-then-starts_with : goal.returns-then-starts_with
returns-then-starts_with c z e =
    let k = minus_below c.args.word.now z e (search rules) in
    let h = c.in_ok-size.ensures in
    let a = amount_is c.args.word.now z e in
    (omega (arith, ints), omega (arith, size_is z))

pub returns-else-starts_with : goal.returns-else-starts_with
returns-else-starts_with c z e =
    let k = plain_above c.args.word.now z e (search rules) in
    let h = c.in_ok-size.ensures in
    let a = amount_is c.args.word.now z e in
    (omega (arith, ints), omega (arith, size_is z))
