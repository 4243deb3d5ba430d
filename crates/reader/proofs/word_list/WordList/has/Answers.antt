use Rattle.std.proofs.Common.{is_some, sym, ap, ◌∙◌}
use Rattle.reader.proofs.Ranks.{among_rank}
use Rattle.reader.proofs.word_list.WordList.has.Goals as goal

pub returns : goal.returns
returns c = c.is_some.ensures ∙ ap is_some c.find.ensures ∙ sym (among_rank c.args.self.now c.args.word.now)
