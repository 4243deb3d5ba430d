use Rattle.std.proofs.Common.{drop, sym, ap, ◌∙◌}
use Rattle.std.proofs.lemmas.List.{take_rest, drop-map}
use Rattle.reader.specs.Names.{words_at}
use Rattle.grammar.specs.Tokens.{tok_at}
use Rattle.reader.proofs.word_list.WordList.behind.Goals as goal

pub returns : goal.returns
returns c =
    let text = c.self.inside.text.now in
    let starts = c.self.inside.starts.now in
    ap (words_at text) (take_rest starts c.args.n) ∙ sym (drop-map (λ p. tok_at (drop p text)) c.args.n starts) ∙ ap (drop c.args.n) c.self.view_is
