use Rattle.std.proofs.Common.{sym, ◌∙◌, rules, tests}
use Rattle.std.proofs.lemmas.Iterator.{YieldsList-from_slice}
use Rattle.std.proofs.lemmas.Iterator.Search.{all_from_yields_List}
use Rattle.grammar.specs.Grammar.{alnum}
use Rattle.reader.proofs.Letters.{word_is}
use Rattle.reader.proofs.looks.is_word.Goals as goal

pub returns-then-others-lt-WORD_LIMIT : goal.returns-then-others-lt-WORD_LIMIT
returns-then-others-lt-WORD_LIMIT c =
    all_from_yields_List alnum _ _ c.all.result c.all.ensures.ran (YieldsList-from_slice _ c.iter.ensures.rest) (λ x b q k. search (rules, tests))
    ∙ word_is c.args.word.now c.in-Some.first.now c.in-Some.others.now (search rules) (sym c.is_letter.ensures ∙ c.if-others-lt-WORD_LIMIT.true.0) c.if-others-lt-WORD_LIMIT.true.1
