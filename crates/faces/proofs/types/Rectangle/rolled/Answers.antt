use Rattle.std.proofs.Common.{sym, subst, lit<, rules}
use Rattle.plane.specs.Limits.{FitsPlane}
use Rattle.plane.specs.Moves.{rolled_plane, rolled_place}
use Rattle.faces.specs.Blocks.{FitsFace}
use Rattle.faces.proofs.Built.{each_item, mapped, rolled_parts}
use Rattle.faces.proofs.Ranges.{rolled_face_fits}
use Rattle.faces.proofs.types.Rectangle.rolled.Goals as goal

pub map-requires : goal.map-requires
map-requires c = (lit< tt, (lit< tt, (lit< tt, record { at = λ xs t q x u y f s. let h : FitsPlane x = each_item FitsPlane _ c.self.invariant.edges xs t u x y s in search rules })))

pub invariant_of-result : goal.invariant_of-result
invariant_of-result c =
    let r = c.self.inside in
    let es = mapped _ _ rolled_plane r.edges c.map.result 4 r.plane (λ p q x y k. search rules) (search rules) c.map.ensures.items in
    let vs = mapped _ _ rolled_place r.corners c.map-2.result 4 r.place (λ p q x y k. search rules) (search rules) c.map-2.ensures.items in
    subst FitsFace (sym (rolled_parts c.self.view_is c.rolled.ensures.value es c.rolled_place.ensures vs)) (rolled_face_fits c.args.self (subst FitsFace c.self.view_is c.self.invariant))

pub returns : goal.returns
returns c =
    let r = c.self.inside in
    let es = mapped _ _ rolled_plane r.edges c.map.result 4 r.plane (λ p q x y k. search rules) (search rules) c.map.ensures.items in
    let vs = mapped _ _ rolled_place r.corners c.map-2.result 4 r.place (λ p q x y k. search rules) (search rules) c.map-2.ensures.items in
    rolled_parts c.self.view_is c.rolled.ensures.value es c.rolled_place.ensures vs
