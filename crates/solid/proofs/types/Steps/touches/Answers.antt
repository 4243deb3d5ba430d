use Rattle.std.proofs.Common.{◌≡◌, ℕ, List, [], sym, ap, ◌∙◌, subst, rules, tests}
use Rattle.std.proofs.lemmas.Iterator.{YieldsList-from_slice}
use Rattle.std.proofs.lemmas.Iterator.Adapters.{serves_from_places}
use Rattle.std.proofs.lemmas.Iterator.Search.{any_from_yields_List}
use Rattle.std.proofs.lemmas.List.{get_or_default}
use Rattle.plane.specs.declared.types.Plane.{Plane}
use Rattle.solid.specs.declared.types.Step.{Step}
use Rattle.solid.specs.Steps.{step, FitsStep}
use Rattle.solid.specs.Stacks.{plane_of_step}
use Rattle.solid.specs.Examples.{on_some}
use Rattle.solid.proofs.Machine.{coded_makes, makes_fit}
use Rattle.solid.proofs.Sweep.{coded_planes, word_planes-any}
use Rattle.solid.proofs.Unique.{coded}
use Rattle.solid.proofs.types.Steps.touches.Goals as goal

pub any-requires-clause-callable : goal.any-requires-clause-callable
any-requires-clause-callable c =
    serves_from_places (YieldsList-from_slice c.args.self.words.now cc) (λ x q r. search rules) (λ x i h e.
    let ws = c.args.self.words.now in
    let k = coded c.args.self.coded in
    let f : FitsStep (step x.now) = subst (λ (w : ℕ). FitsStep (step w)) (get_or_default ws i 0 x.now h ∙ sym e) (makes_fit k.shape ws [] i (coded_makes ws k) h) in
    let g : (s : Step) → s ≡ step x.now → FitsStep s = λ s d. subst (λ (y : Step). FitsStep y) (sym d) f in
    search rules)

pub returns : goal.returns
returns c s f e =
    any_from_yields_List (λ w. on_some (plane_of_step (step w)) c.args.q) _ _ c.any.result c.any.ensures.ran (YieldsList-from_slice c.args.self.words.now cc) (λ x b q k. search (rules, tests))
    ∙ word_planes-any c.args.q c.args.self.words.now ∙ ap (λ (ps : List Plane). on_some ps c.args.q) (coded_planes c.args.self.words.now s f e)
