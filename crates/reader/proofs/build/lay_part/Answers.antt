use Rattle.std.proofs.Common.{◌∙◌}
use Rattle.solid.specs.Shapes.{box}
use Rattle.solid.specs.Steps.{words}
use Rattle.reader.proofs.Numbers.{box_length}
use Rattle.reader.proofs.Pairs.{written}
use Rattle.reader.proofs.build.lay_part.Goals as goal

pub returns-clause-steps : goal.returns-clause-steps
returns-clause-steps c p =
    written c.args.used 11 _ c.args.steps.now c.copy_from_slice.new.self (words (box p.x0 p.x1 p.y0 p.y1 p.z0 p.z1))
    (c.copy_from_slice.ensures.after ∙ c.box_of.ensures p)
    (box_length p.x0 p.x1 p.y0 p.y1 p.z0 p.z1)
    c.requires.steps_room
