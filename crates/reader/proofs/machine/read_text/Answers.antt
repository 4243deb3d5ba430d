use Rattle.std.proofs.Common.{◌≡◌, Some, ◌+◌, ◌∙◌, sym, refl, arith, ap, [], false}
use Rattle.std.specs.Option.{option_map}
use Rattle.std.proofs.lemmas.Bool.{both_ways, and_parts}
use Rattle.std.proofs.lemmas.Result.{err_from_is_err_and}
use Rattle.reader.specs.Stack.{symbols, takes_word}
use Rattle.reader.proofs.Turn.{told_none, turn_on, turn_depth, turn_word, turn_stuck, good_none, good_word, end_whole, end_bad}
use Rattle.reader.proofs.machine.read_text.Goals as goal

pub loop-i-preserved-then-in_word : goal.loop-i-preserved-then-in_word
loop-i-preserved-then-in_word c =
    let bs = c.args.text.now in
    let inv = c.loop-i.invariant in
    let e = rw c.new-word.ensures at (sym c.in_word.ensures ∙ c.if-in_word.true) in (
      turn_word bs c.loop-i.stack.wants c.loop-i.i c.loop-i.start c.loop-i-test.true inv.0 inv.2 e,
      good_word c.loop-i.start c.loop-i.i bs inv.2 c.loop-i-test.true (and_parts (takes_word c.loop-i.stack.wants) _ e).1,
      omega arith,
      inv.3,
      inv.4,
    )

pub returns-in_err-ok_or : goal.returns-in_err-ok_or
returns-in_err-ok_or c =
    let p = err_from_is_err_and c.from_residual.result c.from_residual.ensures.1 in
    let k = told_none c.advance.result c.loop-i.i c.in_err-ok_or.field-0.0 (sym c.ok_or.ensures.value ∙ c.in_err-ok_or.was) in
    let a = rw c.new-word.ensures at c.advance.ensures.0 in
    let e = turn_stuck c.args.text.now c.loop-i.stack.wants c.loop-i.i c.loop-i.start c.loop-i-test.true c.loop-i.invariant.0 (a ∙ ap (option_map _) k.0) in
    rw (p.1, p.2, k.1) e

pub loop-i-preserved : goal.loop-i-preserved
loop-i-preserved c =
    let bs = c.args.text.now in
    let inv = c.loop-i.invariant in
    let k : c.advance.result ≡ Some (tt {0}) = grind arith in
    let e = rw c.new-word.ensures at c.advance.ensures.0 ∙ ap (option_map (λ _. symbols c.advance.new.stack.wants [])) k in (
      turn_on bs c.loop-i.stack.wants c.loop-i.i c.loop-i.start c.loop-i-test.true inv.0 c.advance.new.stack.wants e,
      good_none (c.loop-i.i + 1) bs,
      omega arith,
      turn_depth bs c.loop-i.stack.wants c.loop-i.i c.loop-i.start c.loop-i-test.true inv.0 c.advance.new.stack.wants inv.2 inv.3 e,
      omega arith,
    )

pub returns-then-is_empty : goal.returns-then-is_empty
returns-then-is_empty c = end_whole c.args.text.now _ c.loop-i.stack.wants c.loop-i.i c.loop-i-test.false c.loop-i.invariant.0 (c.if-is_empty.ensures.0 refl)

pub returns-else-is_empty : goal.returns-else-is_empty
returns-else-is_empty c = end_bad c.args.text.now _ c.loop-i.stack.wants c.loop-i.i c.loop-i-test.false c.loop-i.invariant.0 (λ e. both_ways false refl (c.if-is_empty.ensures.1 e))
