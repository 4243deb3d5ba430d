use Rattle.std.proofs.Common.{List, ℕ, drop, ap, ◌∙◌, rules, tests}
use Rattle.std.proofs.lemmas.Iterator.{YieldsList-from_slice}
use Rattle.std.proofs.lemmas.Iterator.Search.{position_from_yields_List}
use Rattle.grammar.specs.Grammar.{same}
use Rattle.grammar.specs.Tokens.{tok_at}
use Rattle.reader.specs.Names.{rank}
use Rattle.reader.proofs.Ranks.{rank_first}
use Rattle.reader.proofs.word_list.WordList.find.Goals as goal

pub returns : goal.returns
returns c =
    let word = λ (s : ℕ). tok_at (drop s c.self.inside.text.now) in
    position_from_yields_List (λ s. same c.args.word.now (word s)) _ _ c.position.result c.position.ensures.ran (YieldsList-from_slice _ c.iter.ensures.rest) (λ x b q k. search (rules, tests))
    ∙ rank_first word c.args.word.now c.self.inside.starts.now
    ∙ ap (λ (ws : List (List ℕ)). rank ws c.args.word.now) c.self.view_is
