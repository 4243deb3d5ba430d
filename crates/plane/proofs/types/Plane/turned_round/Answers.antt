use Rattle.std.proofs.Common.{sym, subst, arith}
use Rattle.std.proofs.lemmas.Int.{ints}
use Rattle.plane.specs.declared.types.Plane.{Plane}
use Rattle.plane.specs.Limits.{FitsPlane}
use Rattle.plane.specs.Planes.{turned}
use Rattle.plane.proofs.Ranges.{made, turned_fits}
use Rattle.plane.proofs.types.Plane.turned_round.Goals as goal

pub returns : goal.returns
unfolding turned
returns c =
    let e = made (turned c.args.self) (omega (arith, ints)) (omega (arith, ints)) (omega (arith, ints)) (omega (arith, ints)) in
    record { value = e; fits = subst (λ (p : Plane). FitsPlane p) (sym e) (turned_fits c.requires) }
