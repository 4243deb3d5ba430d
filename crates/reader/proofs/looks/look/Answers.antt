use Rattle.std.proofs.Common.{sym, not, rules, ◌∙◌, ◌≡◌, arith, ap, ℕ, List}
use Rattle.grammar.specs.Faults.{token}
use Rattle.grammar.specs.Grammar.{same}
use Rattle.reader.proofs.Ranks.{same_pointwise}
use Rattle.reader.proofs.Tests.{looked_new, looked_used, looked_shape, looked_box, looked_over}
use Rattle.reader.proofs.looks.look.Goals as goal

pub returns-in-AtNewName : goal.returns-in-AtNewName
returns-in-AtNewName c = rw (c.next_unless-in-AtNewName.ensures, c.in-AtNewName.is) (looked_new c.args.names.now (token c.args.at c.args.word.now) _ (search rules))

pub returns-in-AtShape : goal.returns-in-AtShape
returns-in-AtShape c = rw (c.next_unless-in-AtShape.ensures, c.in-AtShape.is) (looked_shape c.args.names.now (token c.args.at c.args.word.now) _ (c.ne.ensures ∙ ap not (sym (same_pointwise c.args.word.now c.as_slice.result.now)) ∙ ap (λ (w : List ℕ). not (same c.args.word.now w)) c.as_slice.ensures))

pub returns-in-AtUsedName : goal.returns-in-AtUsedName
returns-in-AtUsedName c = rw (c.next_unless-in-AtUsedName.ensures, c.in-AtUsedName.is) (looked_used c.args.names.now (token c.args.at c.args.word.now) _ (search rules))

pub returns-in-InBox : goal.returns-in-InBox
returns-in-InBox c =
    let ns = c.args.names.now in
    rw (c.in-InBox.is, c.if-left-eq0.true) (looked_over ns (token c.args.at c.args.word.now) c.look_line-in-InBox.result (c.look_line-in-InBox.ensures ns (sym c.len-in-InBox.ensures)))

pub returns-in-InBox-2 : goal.returns-in-InBox-2
returns-in-InBox-2 c =
    let h : c.in-InBox-2.left ≡ c.in-InBox.left = cc in
    rw (c.next_unless.ensures, c.in-InBox-2.is) (looked_box c.args.names.now (token c.args.at c.args.word.now) c.in-InBox-2.left (omega arith) _ c.is_beyond.ensures)
