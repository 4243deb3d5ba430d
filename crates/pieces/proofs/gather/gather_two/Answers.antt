use Rattle.std.proofs.Common.{◌≡◌, List, ◌++◌, sym, ap, ◌∙◌, subst, ap₂, arith}
use Rattle.plane.specs.declared.types.Plane.{Plane}
use Rattle.solid.specs.Shapes.{planes, solid, workshop}
use Rattle.solid.specs.Stacks.{shape_of}
use Rattle.search.specs.Levels.{AllLevel}
use Rattle.pieces.specs.Questions.{Parts, LevelSteps, planes_of_two}
use Rattle.pieces.proofs.Shaped.{shaped_planes}
use Rattle.pieces.proofs.Levels.{two_level}
use Rattle.pieces.proofs.gather.gather_two.Goals as goal

pub returns : goal.returns
unfolding solid planes
returns c =
    let p = c.parts.inside in
    let k = c.parts.invariant in
    let e : c.into_slice.result.now ≡ planes_of_two (shape_of c.args.parts.now.first) (shape_of c.args.parts.now.second) =
    rw (c.into_slice.ensures.items, c.gather-2.ensures.are, c.gather.ensures.are, c.extend_from_slice.ensures.items, c.new-planes.ensures.empty, c.walls.ensures)
    (ap₂ (λ (x y : List Plane). (planes workshop ++ x) ++ y) (shaped_planes p.first.words.now k.0.coded) (shaped_planes p.second.words.now k.1.coded)
    ∙ ap (λ (r : Parts). planes_of_two (shape_of r.first) (shape_of r.second)) c.parts.view_is) in
    let l = subst (λ (r : Parts). LevelSteps r.first × LevelSteps r.second) c.parts.view_is k in
    record {
      are = e;
      level = subst (λ (qs : List Plane). AllLevel qs) (sym e) (two_level c.args.parts.now.first c.args.parts.now.second l.0 l.1);
      few = omega (
        arith,
        c.into_slice.ensures.within,
        c.gather-2.ensures.room,
        c.gather.ensures.room,
        c.extend_from_slice.ensures.room,
        c.new-planes.ensures.room,
      );
    }
