use Rattle.std.proofs.Common.{take, drop, sym, ap, ◌∙◌}
use Rattle.std.proofs.lemmas.List.{take-map}
use Rattle.grammar.specs.Tokens.{tok_at}
use Rattle.reader.proofs.word_list.WordList.first.Goals as goal

pub returns : goal.returns
returns c =
    let text = c.self.inside.text.now in
    sym (take-map (λ p. tok_at (drop p text)) c.args.n c.self.inside.starts.now) ∙ ap (take c.args.n) c.self.view_is
