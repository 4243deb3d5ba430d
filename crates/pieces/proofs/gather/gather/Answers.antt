use Rattle.std.proofs.Common.{arith, length-append}
use Rattle.plane.specs.declared.types.Plane.{Plane}
use Rattle.pieces.proofs.Gathering.{one_plane, no_plane, no_more}
use Rattle.pieces.proofs.gather.gather.Goals as goal
use Rattle.pieces.proofs.gather.gather.Goals.{in-Half, in_default}

pub loop-w-preserved : goal.loop-w-preserved
loop-w-preserved c =
    let ws = c.args.steps.words.now in
    let v = c.loop-w.invariant in
    elim c.match-from.branch [
      | in-Half w ↦
          rw (w.planes-is, w.push.ensures.items, w.push.ensures.room)
          (omega (arith, length-append {A = Plane}), v.1, one_plane ws c.loop-w.planes.items c.loop-w.w-index c.loop-w-test.true _ v.2 w.in-Half.p c.from.result c.from.ensures w.in-Half.is)
      | in_default w ↦
          rw w.planes-is
          (omega arith, v.1, no_plane ws c.loop-w.planes.items c.loop-w.w-index c.loop-w-test.true _ v.2 c.from.result c.from.ensures w.in_default.not-Half)
    ]

pub returns-clause-are : goal.returns-clause-are
returns-clause-are c =
    no_more c.args.steps.words.now c.loop-w.planes.items c.loop-w.w-index _ c.loop-w-test.false c.loop-w.invariant.2
