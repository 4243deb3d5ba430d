use Rattle.std.proofs.Common.{refl, arith}
use Rattle.faces.specs.Blocks.{block_faces}
use Rattle.faces.proofs.Built.{stands}
use Rattle.faces.proofs.types.Block.face.Goals as goal

pub returns-in-0 : goal.returns-in-0
unfolding block_faces
returns-in-0 c = stands (block_faces c.args.self) 0 c.args.k _ c.in-0.is (omega arith) (rw (c.ends.ensures) refl)

pub returns-in-1 : goal.returns-in-1
unfolding block_faces
returns-in-1 c = stands (block_faces c.args.self) 1 c.args.k _ c.in-1.is (omega arith) (rw (c.ends-in-1.ensures) refl)

pub returns-in-2 : goal.returns-in-2
unfolding block_faces
returns-in-2 c = stands (block_faces c.args.self) 2 c.args.k _ c.in-2.is (omega arith) (rw (c.rolled.ensures, c.ends-in-2.ensures, c.rolled_back-c.ensures) refl)

pub returns-in-3 : goal.returns-in-3
unfolding block_faces
returns-in-3 c = stands (block_faces c.args.self) 3 c.args.k _ c.in-3.is (omega arith) (rw (c.rolled-in-3.ensures, c.ends-in-3.ensures, c.rolled_back-c.ensures) refl)

pub returns-in-4 : goal.returns-in-4
unfolding block_faces
returns-in-4 c = stands (block_faces c.args.self) 4 c.args.k _ c.in-4.is (omega arith) (rw (c.rolled-in-4-2.ensures, c.rolled-in-4.ensures, c.ends-in-4.ensures, c.rolled_back.ensures, c.rolled_back-c.ensures) refl)

pub returns-in_default : goal.returns-in_default
unfolding block_faces
returns-in_default c = stands (block_faces c.args.self) 5 c.args.k _ (omega (arith, c.requires, c.in_default)) (omega arith) (rw (c.rolled-in_default-2.ensures, c.rolled-in_default.ensures, c.ends-in_default.ensures, c.rolled_back-in_default.ensures, c.rolled_back-c.ensures) refl)
