use Rattle.std.proofs.Common.{◌<◌, length}
use Rattle.std.proofs.lemmas.List.Elements.{All-from_get_or}
use Rattle.grammar.proofs.First.{starts_inside}
use Rattle.reader.proofs.examine.scan_words.Goals as goal

pub new-requires : goal.new-requires
new-requires c =
    let bs = c.args.begun.now in
    let ps = c.token_starts-tokens.result.now in
    All-from_get_or (λ p. p < length bs) ps 0 (λ i h. starts_inside bs ps i c.token_starts-tokens.ensures.are h)
