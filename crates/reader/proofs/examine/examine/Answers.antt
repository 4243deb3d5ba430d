use Rattle.std.proofs.Common.{ℕ, take, subst, Ok, Err}
use Rattle.std.proofs.lemmas.Result.{err_from_is_err_and}
use Rattle.grammar.proofs.First.{first_word}
use Rattle.reader.specs.Reading.{Words}
use Rattle.reader.proofs.Examining.{taken}
use Rattle.reader.proofs.examine.examine.Goals as goal

pub returns-in_err-found : goal.returns-in_err-found
returns-in_err-found c =
    let bs = c.args.text.now in
    let at = c.reach_of-at.result in
    let q = err_from_is_err_and c.from_residual.result c.from_residual.ensures.1 in
    let w = subst (λ (n : ℕ). Words (Err c.in_err-found.field-0.0) n (take at bs)) c.seen_of.ensures c.in_err-found.ensures in
    rw (q.1, q.2) (first_word bs at c.reach_of-at.ensures.reaches _ w.0 w.1)

pub returns : goal.returns
returns c =
    let bs = c.args.text.now in
    let at = c.reach_of-at.result in
    let w = subst (λ (n : ℕ). Words (Ok c.in_ok-found.found) n (take at bs)) c.seen_of.ensures c.in_ok-found.ensures in
    let t = c.in_ok-last_fault.ensures in
    taken bs at c.read_front-said.result c.in_ok-found.found c.reach_of-at.ensures t.0 t.1 w
