use Rattle.std.proofs.Common.{sym, subst, arith}
use Rattle.plane.specs.declared.types.Place.{Place}
use Rattle.search.specs.Levels.{numbers, Listed}
use Rattle.search.proofs.Walks.{spot_listed, listed_none}
use Rattle.search.proofs.levels.first_of.Goals as goal

pub returns-after-search : goal.returns-after-search
returns-after-search g c =
    rw c.search.invariant.0
    (listed_none (g.Q.Question.asked c.args.asker.now) c.args.xs.now c.args.ys.now c.args.zs.now (λ i h. c.search.invariant.2 i (omega arith)))

pub returns-then-holds_at : goal.returns-then-holds_at
returns-then-holds_at g c = (
  subst (λ (q : Place). Listed (numbers c.args.xs.now) (numbers c.args.ys.now) (numbers c.args.zs.now) q) (sym c.place_of-q.ensures.value)
      (spot_listed c.args.xs.now c.args.ys.now c.args.zs.now c.search.x-index c.loop-y.y-index c.loop-z.z-index c.search-test.true c.loop-y-test.true c.loop-z-test.true),
  rw c.loop-z.invariant.1 at (sym c.if-holds_at.ensures.value),
  c.place_of-q.ensures.small,
)
