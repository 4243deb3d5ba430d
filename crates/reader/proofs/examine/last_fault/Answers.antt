use Rattle.std.proofs.Common.{◌≡◌, ◌<◌, length, rules}
use Rattle.reader.proofs.Examining.{last_long, last_said, told_mapped, not_cut}
use Rattle.reader.proofs.examine.last_fault.Goals as goal

pub returns-then-is_cut : goal.returns-then-is_cut
returns-then-is_cut c =
    let k : (1048576 < length c.args.text.now) × (c.args.at ≡ 1048576) = search rules in
    last_long c.args.text.now c.args.at c.args.said c.requires.reach c.requires.clean k.1 k.0

pub returns : goal.returns
returns c =
    let bs = c.args.text.now in
    let e = told_mapped _ c.args.said c.map_err.result c.map_err.ensures.cases (λ e x q. search rules) in
    let n : (1048576 < length bs) × (c.args.at ≡ 1048576) → ⊥ = search rules in
    rw e (last_said bs c.args.at c.args.said c.requires.reach c.requires.clean (not_cut bs c.args.at c.args.said c.requires.reach n))
