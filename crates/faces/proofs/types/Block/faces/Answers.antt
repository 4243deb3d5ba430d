use Rattle.std.proofs.Common.{refl}
use Rattle.faces.specs.Blocks.{block_faces}
use Rattle.faces.proofs.types.Block.faces.Goals as goal

pub returns : goal.returns
unfolding block_faces
returns c =
    rw (
      c.rolled.ensures,
      c.rolled-2.ensures,
      c.rolled-4.ensures,
      c.rolled-3.ensures,
      c.rolled-6.ensures,
      c.rolled-5.ensures,
      c.ends.ensures,
      c.ends-2.ensures,
      c.ends-3.ensures,
      c.rolled_back-d.ensures,
      c.rolled_back-c.ensures,
    ) refl
