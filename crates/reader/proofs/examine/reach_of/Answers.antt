use Rattle.std.proofs.Common.{sym, ap, ◌∙◌, subst, ℕ}
use Rattle.std.specs.Option.{unwrap_or}
use Rattle.reader.specs.Reading.{Reached}
use Rattle.reader.proofs.Examining.{reached, far_is}
use Rattle.reader.proofs.examine.reach_of.Goals as goal

pub returns : goal.returns
returns c =
    let e = c.unwrap_or.ensures ∙ ap (λ o. unwrap_or o c.front_of.result) c.err.ensures.value ∙ far_is c.args.said c.front_of.result in
    subst (λ (at : ℕ). Reached c.args.said at c.args.text.now) (sym e) (reached c.args.text.now c.args.said c.front_of.result c.front_of.ensures c.requires)
