use Rattle.std.proofs.Common.{List, length, subst, subst₂, sym, arith, ap}
use Rattle.plane.specs.declared.types.Plane.{Plane}
use Rattle.solid.specs.Stacks.{shape_of}
use Rattle.search.specs.Search.{Agree, BySides}
use Rattle.pieces.specs.Questions.{Room, Parts, joined_in}
use Rattle.pieces.proofs.Sides.{joined_agree}
use Rattle.pieces.proofs.parts.Parts.place_where.Goals as goal

pub find-requires : goal.find-requires
find-requires g c =
    let s = shape_of c.args.self.now.first in
    let t = shape_of c.args.self.now.second in
    let n = ap (λ (r : Room). r.planes) c.room.view_is in
    let m = ap (λ (r : Room). r.lent) c.room.view_is in
    let w = ap (λ (r : Room). r.work) c.room.view_is in
    let e = ap (λ (p : Parts). p.first) c.self.view_is in
    let f = ap (λ (p : Parts). p.second) c.self.view_is in
    let k = ap (λ (p : Parts). length p.first) c.self.view_is in
    let l = ap (λ (p : Parts). length p.second) c.self.view_is in
    record {
      ready = (omega (arith, w, k), omega (arith, w, l));
      level = c.gather_two-planes.ensures.level;
      sides =
          subst₂ (λ x y. BySides c.gather_two-planes.result.now (λ q. joined_in g.J.Join.joined (shape_of x) (shape_of y) q)) (sym e) (sym f)
          (λ q r _ _ a. joined_agree g.J.Join.joined s t q r (subst (λ (ps : List Plane). Agree ps q r) c.gather_two-planes.ensures.are a));
      room = omega (arith, n, m);
    }
