use Rattle.std.proofs.Common.{refl, rules}
use Rattle.solid.specs.Shapes.{both, either, without, by, holds}
use Rattle.solid.proofs.Stacks.{at_joint}
use Rattle.solid.proofs.value.Values.apply.Goals as goal

pub returns-in-Both-clause-stack : goal.returns-in-Both-clause-stack
unfolding holds by
returns-in-Both-clause-stack c = λ st k.
    at_joint c.args.q both c.in-Both.is refl (λ s t l. refl) st c.requires.enough k
    (λ s t l h. c.join.ensures.items _ _ _ _ (λ v e. search rules) h)

pub returns-in-Either-clause-stack : goal.returns-in-Either-clause-stack
unfolding holds by
returns-in-Either-clause-stack c = λ st k.
    at_joint c.args.q either c.in-Either.is refl (λ s t l. refl) st c.requires.enough k
    (λ s t l h. c.join-in-Either.ensures.items _ _ _ _ (λ v e. search rules) h)

pub returns-in-Without-clause-stack : goal.returns-in-Without-clause-stack
unfolding holds by
returns-in-Without-clause-stack c = λ st k.
    at_joint c.args.q without c.in-Without.is refl (λ s t l. refl) st c.requires.enough k
    (λ s t l h. c.join-in-Without.ensures.items _ _ _ _ (λ v e. search rules) h)
