use Rattle.std.proofs.Common.{sym, refl, ◌∙◌, subst, Option}
use Rattle.arith.proofs.Sized.{is_call, is_back}
use Rattle.plane.specs.declared.types.Place.{Place}
use Rattle.plane.specs.Meets.{determinant, Met}
use Rattle.plane.proofs.Cramer.{same_over}
use Rattle.plane.proofs.Meeting.{met}
use Rattle.plane.proofs.meets.meet.Goals as goal

pub returns : goal.returns
returns c =
    let p = c.args.p in
    let q = c.args.q in
    let r = c.args.r in
    let x = (is_back (is_call c.numerator_x.ensures.value c.numerator_x.ensures.short) tt).same in
    let y = (is_back (is_call c.numerator_y.ensures.value c.numerator_y.ensures.short) tt).same in
    let z = (is_back (is_call c.numerator_z.ensures.value c.numerator_z.ensures.short) tt).same in
    let w = (is_back (is_call c.determinant.ensures.value c.determinant.ensures.short) tt).same in
    subst (λ (o : Option Place). Met p q r o) (sym (c.place_over.ensures ∙ same_over x y z w))
    (met p q r c.requires.p c.requires.q c.requires.r (determinant p q r) refl)
