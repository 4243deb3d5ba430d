use Rattle.std.proofs.Common.{subst}
use Rattle.search.specs.Levels.{Grid, AllLevel, BaseLevel}
use Rattle.search.proofs.Standing.{found_at}
use Rattle.search.proofs.levels.Grid.search.Goals as goal

pub returns : goal.returns
returns g c =
    let r = c.args.self.now in
    let l = subst (λ (s : Grid). BaseLevel s.base × AllLevel s.planes) c.self.view_is c.self.invariant in
    found_at r.base r.planes (g.Q.Question.asked c.args.asker.now) c.first_of.result l.0 l.1 c.requires.sides
    (rw (c.spots-xs.ensures.value, c.spots-ys.ensures.value, c.spots-zs.ensures.value) at c.first_of.ensures)
