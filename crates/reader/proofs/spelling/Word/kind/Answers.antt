use Rattle.std.proofs.Common.{sym, rules, ◌∙◌, ap}
use Rattle.grammar.specs.Machine.{kind_of}
use Rattle.reader.proofs.Words.{name_kind, good_utf8}
use Rattle.reader.proofs.spelling.Word.kind.Goals as goal

pub returns-in_default : goal.returns-in_default
returns-in_default c = absurd (c.in_default.ensures.cases.0 (good_utf8 c.self.inside.bytes.now c.self.invariant))

pub returns-in_default-text : goal.returns-in_default-text
returns-in_default-text c = sym (ap kind_of (sym c.self.view_is) ∙ name_kind c.self.inside.bytes.now c.self.invariant (search rules) (search rules))
