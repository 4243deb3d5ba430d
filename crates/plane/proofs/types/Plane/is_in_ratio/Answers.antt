use Rattle.std.proofs.Common.{◌≡◌, ℤ, sym, ap, ◌∙◌}
use Rattle.arith.proofs.Sized.{is_call, is_back}
use Rattle.plane.specs.Planes.{along}
use Rattle.plane.specs.Ratios.{multiplied}
use Rattle.plane.proofs.Ranges.{plane_eq-Decides}
use Rattle.plane.proofs.types.Plane.is_in_ratio.Goals as goal

pub returns : goal.returns
returns c =
    let p = c.args.self in
    let r = c.args.r in
    let k = (is_back (is_call c.along.ensures.value c.along.ensures.short) tt).same in
    let l = (is_back (is_call c.along-2.ensures.value c.along-2.ensures.short) tt).same in
    let e : c.times.result ≡ multiplied (along p p) r = c.times.ensures ∙ ap (λ (n : ℤ). multiplied n r) k in
    let f : c.times-2.result ≡ multiplied (along p r) p = c.times-2.ensures ∙ ap (λ (n : ℤ). multiplied n p) l in
    let same = plane_eq-Decides c.times.result c.times-2.result c.eq.result c.eq.ensures in
    (λ t. sym e ∙ same.0 t ∙ f, λ g. same.1 (e ∙ g ∙ sym f))
