use Rattle.std.proofs.Common.{ℕ, List, eqb, drop, ap, ◌∙◌, rules, tests}
use Rattle.std.specs.List.{starts_with}
use Rattle.std.proofs.lemmas.List.{take_rest}
use Rattle.reader.proofs.Ranks.{eq_same}
use Rattle.reader.proofs.Spans.{front_other}
use Rattle.reader.proofs.tokens.is_token_at.Goals as goal

pub returns-then-starts_with : goal.returns-then-starts_with
returns-then-starts_with c = search (rules, tests, eq_same)

pub returns-else-starts_with : goal.returns-else-starts_with
returns-else-starts_with c =
    let text = c.args.text.now in
    let word = c.args.word.now in
    front_other (drop c.args.from text) word c.starts_with.result (c.starts_with.ensures.value ∙ ap (λ (l : List ℕ). starts_with eqb l word) (take_rest text c.args.from)) c.if-starts_with.false
