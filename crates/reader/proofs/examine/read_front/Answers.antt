use Rattle.std.proofs.Common.{subst, ℕ, List}
use Rattle.reader.specs.Reading.{Says}
use Rattle.reader.proofs.Examining.{front}
use Rattle.reader.proofs.examine.read_front.Goals as goal

pub returns : goal.returns
returns c =
    let bs = c.args.text.now in
    subst (λ (l : List ℕ). Says c.read_text.result l) (front bs c.front_of.result c.front_of.ensures) c.read_text.ensures
