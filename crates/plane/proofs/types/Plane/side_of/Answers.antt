use Rattle.std.proofs.Common.{◌≡◌, pos, ◌<ℤ◌, Less, Equal, Greater, sym, ◌∙◌, arith}
use Rattle.std.proofs.lemmas.Cmp.{int_ranked}
use Rattle.std.proofs.lemmas.Int.{ints}
use Rattle.arith.proofs.Order.{minus, none, plus}
use Rattle.arith.proofs.Steps.{back}
use Rattle.plane.specs.Planes.{height}
use Rattle.plane.proofs.Heights.{height-side}
use Rattle.plane.proofs.types.Plane.side_of.Goals as goal

pub returns-in-Less : goal.returns-in-Less
returns-in-Less c =
    let r = int_ranked (back c.height_of.result) (pos 0) Less (sym c.in-Less.is ∙ c.cmp.ensures) in
    let k : height c.args.self c.args.q <ℤ pos 0 = omega (arith, ints, r) in
    sym (height-side _ _ minus k)

pub returns-in-Equal : goal.returns-in-Equal
returns-in-Equal c =
    let r = int_ranked (back c.height_of.result) (pos 0) Equal (sym c.in-Equal.is ∙ c.cmp.ensures) in
    let k : height c.args.self c.args.q ≡ pos 0 = omega (arith, ints, r) in
    sym (height-side _ _ none k)

pub returns-in-Greater : goal.returns-in-Greater
returns-in-Greater c =
    let r = int_ranked (back c.height_of.result) (pos 0) Greater (sym c.in-Greater.is ∙ c.cmp.ensures) in
    let k : pos 0 <ℤ height c.args.self c.args.q = omega (arith, ints, r) in
    sym (height-side _ _ plus k)
