use Rattle.std.proofs.Common.{ap, ◌∙◌, rules, tests}
use Rattle.std.proofs.lemmas.List.{take_rest}
use Rattle.std.proofs.lemmas.Iterator.{YieldsList-from_slice}
use Rattle.std.proofs.lemmas.Iterator.Search.{position_from_yields_List}
use Rattle.grammar.specs.Tokens.{tok_at}
use Rattle.reader.proofs.Spans.{ends, token_taken}
use Rattle.reader.proofs.tokens.token_at.Goals as goal

pub returns : goal.returns
returns c =
    let found = position_from_yields_List ends _ _ c.position.result c.position.ensures.ran (YieldsList-from_slice _ c.iter.ensures.rest) (λ x b q k. search (rules, tests)) in
    rw c.unwrap_or-end.ensures (token_taken _ c.position.result found ∙ ap tok_at (take_rest c.args.text.now c.args.from))
