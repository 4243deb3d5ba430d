use Rattle.std.proofs.Common.{[], ◌∙◌, subst₂, rules}
use Rattle.grammar.specs.Machine.{behind}
use Rattle.grammar.specs.declared.types.Kind.{Kind}
use Rattle.reader.specs.Stack.{Pile, symbols, Goes}
use Rattle.reader.proofs.Words.{name_next, shape_next}
use Rattle.reader.proofs.machine.advance.Goals as goal

pub returns-in-Name : goal.returns-in-Name
returns-in-Name c =
    let e = name_next c.args.stack.now.wants c.in-Some.want c.in-Name.c c.args.word.now c.args.b c.in-Some.ensures.first c.requires.ends c.in-Name.is in
    (rw (c.then_some-in-Name.ensures, c.ends_name.ensures, c.pop.ensures.rest) e, search rules)

pub returns-in-Shape : goal.returns-in-Shape
returns-in-Shape c =
    let e = shape_next c.args.stack.now.wants c.in-Some.want c.in-Shape.c c.args.word.now c.args.b c.in-Some.ensures.first c.requires.ends c.in-Shape.is in
    let k = subst₂ (λ (k : Kind) (p : Pile). Goes c.behind_word.result (behind k c.in-Shape.c c.args.b (symbols p.wants [])) p c.behind_word.new.stack) c.kind.ensures c.pop.ensures.rest c.behind_word.ensures in
    (e ∙ k.0, k.1)
