use Rattle.std.proofs.Common.{Some, None, refl, ap, sym, subst, w32, rules}
use Rattle.model.specs.Format.{listed}
use Rattle.model.specs.Finds.{Few, Found, StandsOnce}
use Rattle.model.proofs.Finding.{found_no_number}
use Rattle.model.proofs.Ends.{list_folded}
use Rattle.model.proofs.measure.parts_end.Goals as goal

pub returns-in_err-begin : goal.returns-in_err-begin
returns-in_err-begin g c =
    let p = g.P.Part in
    subst (Found (listed w32 p.bytes) (Few p.range w32) c.args.model.now c.args.from) (sym c.from_residual.ensures) (found_no_number p.bytes p.range w32 c.args.model.now c.args.from c.in_err-begin.ensures)

pub returns : goal.returns
returns g c =
    let p = g.P.Part in
    let h = c.try_fold.ensures.ran in
    list_folded _ (λ f. f.0.now)
    (λ s t x e.
    let found : Found p.bytes p.range s.0.0.now s.1 (Some t.1) = search rules in
    let once : StandsOnce p.bytes p.range s.0.0.now s.1 = search rules in
    (ap (λ f. f.now) e.1.met.1, found, once))
    w32 c.args.model.now c.args.from c.in_ok-begin.begin c.read.result c.in_ok-begin.ensures c.read.ensures h.0 h.1 _ (h.2, h.3) _ c.try_fold.result _ refl h.4 h.5 h.6
    (λ x e. let found : Found p.bytes p.range h.2.0.now h.3 None = search rules in (found, e.5))
