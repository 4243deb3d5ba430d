use Rattle.std.proofs.Common.{◌≡◌, ℕ, [], length, get_or, sym, ap, ◌∙◌, subst, arith}
use Rattle.std.proofs.lemmas.List.{same_from_push}
use Rattle.solid.specs.declared.types.Step.{Step}
use Rattle.solid.specs.Shapes.{holds}
use Rattle.solid.specs.Steps.{step}
use Rattle.solid.specs.Stacks.{values_at, Enough}
use Rattle.solid.proofs.Machine.{coded_makes, made_of, makes_more, makes_all}
use Rattle.solid.proofs.Stacks.{values_length}
use Rattle.solid.proofs.Unique.{coded}
use Rattle.solid.proofs.types.Steps.holds_at.Goals as goal

pub apply-requires-clause-enough : goal.apply-requires-clause-enough
apply-requires-clause-enough c =
    let v = c.loop-w.invariant.stack in
    let ws = c.args.self.words.now in
    let k = coded c.args.self.coded in
    let e = ap length v.1 ∙ values_length c.args.q v.0 in
    let m = makes_more k.shape ws c.loop-w.w-index v.0 c.loop-w-test.true (v.2 k.shape (coded_makes ws k)) in
    let x = step (get_or ws c.loop-w.w-index 0) in
    let enough : Enough x (length c.loop-w.values.items) = subst (λ (i : ℕ). Enough x i) (sym e) m.0 in
    subst (λ (y : Step). Enough y (length c.loop-w.values.items)) (sym c.from.ensures) enough

pub pop-requires : goal.pop-requires
pop-requires c =
    let v = c.loop-w.invariant.stack in
    let ws = c.args.self.words.now in
    let k = coded c.args.self.coded in
    let o = makes_all k.shape ws c.loop-w.w-index v.0 c.loop-w-test.false (v.2 k.shape (coded_makes ws k)) in
    let l : length v.0 ≡ 1 = ap length o in
    omega (arith, ap length v.1, values_length c.args.q v.0)

pub returns : goal.returns
returns c s f i =
    let v = c.loop-w.invariant.stack in
    let ws = c.args.self.words.now in
    let o = makes_all s ws c.loop-w.w-index v.0 c.loop-w-test.false (v.2 s (made_of ws s f i)) in
    (same_from_push c.pop.new.self.items [] c.pop.result (holds s c.args.q) (sym c.pop.ensures.items ∙ v.1 ∙ ap (values_at c.args.q) o)).1
