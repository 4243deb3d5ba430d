use Rattle.std.proofs.Common.{sym, ap, ◌∙◌}
use Rattle.solid.specs.Shapes.{Shape}
use Rattle.solid.proofs.Unique.{coded}
use Rattle.pieces.specs.Questions.{is_in, inside}
use Rattle.pieces.proofs.Shaped.{coded_shape, same-is_in}
use Rattle.pieces.proofs.questions.is_inside.Goals as goal

pub returns : goal.returns
returns c =
    let k = coded c.args.steps.coded in
    c.eq.ensures ∙ same-is_in c.place_told.result
    ∙ ap is_in (c.place_told.ensures k.shape k.fits k.is)
    ∙ ap (λ (s : Shape). inside s c.args.q) (sym (coded_shape c.args.steps.words.now k))
