use Rattle.std.proofs.Common.{◌≡◌, pos, neg_ℤ, Less, Equal, Greater, sym, ◌∙◌, arith}
use Rattle.std.proofs.lemmas.Cmp.{int_ranked}
use Rattle.std.proofs.lemmas.Int.{ints}
use Rattle.arith.proofs.Sized.{is_num, is_neg, is_back}
use Rattle.arith.proofs.Steps.{back}
use Rattle.plane.proofs.Cramer.{over_zero, over_pos, over_neg}
use Rattle.plane.proofs.meets.place_over.Goals as goal

pub returns-in-Less : goal.returns-in-Less
returns-in-Less c =
    let r = int_ranked (back c.args.w) (pos 0) Less (sym c.in-Less.is ∙ c.cmp.ensures) in
    let e : pos c.unsigned_abs.result ≡ neg_ℤ c.args.w = omega (arith, ints, r) in
    over_neg _ _ _ _ (is_back (is_neg (is_num c.requires.x tt)) tt).same (is_back (is_neg (is_num c.requires.y tt)) tt).same
    (is_back (is_neg (is_num c.requires.z tt)) tt).same e (omega (arith, ints, r))

pub returns-in-Equal : goal.returns-in-Equal
returns-in-Equal c =
    let r = int_ranked (back c.args.w) (pos 0) Equal (sym c.in-Equal.is ∙ c.cmp.ensures) in
    over_zero _ _ _ _ (omega (arith, ints, r))

pub returns-in-Greater : goal.returns-in-Greater
returns-in-Greater c =
    let r = int_ranked (back c.args.w) (pos 0) Greater (sym c.in-Greater.is ∙ c.cmp.ensures) in
    let e : pos c.unsigned_abs-in-Greater.result ≡ c.args.w = omega (arith, ints, r) in
    over_pos _ _ _ _ (is_num c.requires.x tt).same (is_num c.requires.y tt).same (is_num c.requires.z tt).same e (omega (arith, ints, r))
