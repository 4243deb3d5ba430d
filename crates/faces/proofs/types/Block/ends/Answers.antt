use Rattle.std.proofs.Common.{◌≡◌, ap, subst, arith, w64, to_z, of_z}
use Rattle.std.proofs.lemmas.Int.{ints}
use Rattle.solid.specs.Shapes.{planes, box}
use Rattle.faces.specs.declared.types.Bounds.{Bounds}
use Rattle.faces.specs.Blocks.{block_piece, high_face, low_face, FitsBlock}
use Rattle.faces.proofs.Ranges.{high_fits, low_fits}
use Rattle.faces.proofs.types.Block.ends.Goals as goal

pub invariant_of-result : goal.invariant_of-result
unfolding block_piece planes box high_face
invariant_of-result c =
    let e : to_z w64 (of_z w64 c.self.inside.bounds.x.high) ≡ c.args.self.x.high = omega (arith, ints, ap (λ (b : Bounds). b.x.high) c.self.view_is) in
    rw (c.walls.ensures.value, c.middle_at.ensures, c.round-2.ensures, e) (high_fits c.args.self (subst FitsBlock c.self.view_is c.self.invariant))

pub invariant_of-result-2 : goal.invariant_of-result-2
unfolding block_piece planes box low_face
invariant_of-result-2 c =
    let e : to_z w64 (of_z w64 c.self.inside.bounds.x.low) ≡ c.args.self.x.low = omega (arith, ints, ap (λ (b : Bounds). b.x.low) c.self.view_is) in
    rw (c.walls.ensures.value, c.middle_at-2.ensures, c.round.ensures, e) (low_fits c.args.self (subst FitsBlock c.self.view_is c.self.invariant))

pub returns : goal.returns
unfolding block_piece planes box high_face low_face
returns c =
    let e : to_z w64 (of_z w64 c.self.inside.bounds.x.high) ≡ c.args.self.x.high = omega (arith, ints, ap (λ (b : Bounds). b.x.high) c.self.view_is) in
    let f : to_z w64 (of_z w64 c.self.inside.bounds.x.low) ≡ c.args.self.x.low = omega (arith, ints, ap (λ (b : Bounds). b.x.low) c.self.view_is) in
    rw (c.walls.ensures.value, c.middle_at.ensures, c.middle_at-2.ensures, c.round.ensures, c.round-2.ensures, e, f)
