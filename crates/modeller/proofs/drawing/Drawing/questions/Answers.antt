use Rattle.modeller.proofs.Telling.{asked_count}
use Rattle.modeller.proofs.drawing.Drawing.questions.Goals as goal

pub returns : goal.returns
returns c = let d = c.args.self.now in asked_count d.text.now d.layout d.read
