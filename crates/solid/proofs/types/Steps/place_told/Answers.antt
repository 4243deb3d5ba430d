use Rattle.std.proofs.Common.{◌≡◌, false, ◌||◌, arith}
use Rattle.solid.specs.Shapes.{planes, workshop}
use Rattle.solid.specs.Examples.{on_some}
use Rattle.solid.proofs.Telling.{told-parts}
use Rattle.solid.proofs.types.Steps.place_told.Goals as goal
use Rattle.solid.proofs.types.Steps.place_told.Goals.{then-on_walls, else-on_walls, else-in_walls-via-then-in_walls+else-holds_at, else-in_walls-via-else-in_walls}

pub returns-then-touches : goal.returns-then-touches
returns-then-touches c s f e = elim c.if-on_walls.branch [
  | then-on_walls w ↦ grind (arith, told-parts s c.args.q)
  | else-on_walls w ↦ grind (arith, told-parts s c.args.q, w.touches.ensures s f e)
]

pub returns-then-holds_at : goal.returns-then-holds_at
returns-then-holds_at c s f e = elim c.if-on_walls.branch [
  | then-on_walls w ↦ grind (arith, told-parts s c.args.q)
  | else-on_walls w ↦ grind (arith, told-parts s c.args.q, w.touches.ensures s f e, c.holds_at.ensures s f e)
]

pub returns-else-in_walls : goal.returns-else-in_walls
returns-else-in_walls c s f e =
    let off : (on_some (planes workshop) c.args.q || on_some (planes s) c.args.q) ≡ false = elim c.if-on_walls.branch [
      | then-on_walls w ↦ grind arith
      | else-on_walls w ↦ grind (arith, w.touches.ensures s f e)
    ] in
    elim c.else-in_walls.branch [
      | else-in_walls-via-then-in_walls+else-holds_at w ↦ grind (arith, told-parts s c.args.q, off, w.holds_at.ensures s f e)
      | else-in_walls-via-else-in_walls w ↦ grind (arith, told-parts s c.args.q, off)
    ]
