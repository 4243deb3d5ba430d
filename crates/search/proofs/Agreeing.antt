-- What two places on the same sides of some planes have in common, and places off some planes among others.
--     turned_twice, twin_side                        a plane turned twice, and the sides of a plane and its twin
--     among_self, among_left, among_right,
--     among_both, among_trans                        planes among others
--     agree_below, agree_on, agree_among             the sides of the planes, and of planes among them
--     agree_all_below, agree_on_some                 below all of a list, or on some of it
--     agree_holds, agree_ends                        in a shape, or where it ends
--     off_among, but_among                           off planes among others
--     off_clear, clear_off, but_clear, clear_but     off a shape's planes
use Rattle.std.proofs.Common.{◌≡◌, Bool, true, cond, not, ◌&&◌, ◌||◌, List, [], ◌∷◌, ◌++◌, pos, sym, refl, ap, ◌∙◌, subst, ap₂, inl, inr}
use lib.IntN.{neg_ℤ-neg_ℤ}
use lib.Signed.{lt_z}
use Rattle.arith.proofs.Order.{opposite}
use Rattle.plane.specs.declared.types.Plane.{Plane}
use Rattle.plane.specs.declared.types.Place.{Place}
use Rattle.plane.specs.Planes.{below, on, side, turned, along, same_way}
use Rattle.plane.proofs.Heights.{by_side, side_at, sign_at}
use Rattle.plane.proofs.Invariance.{turned_on, turned-side}
use Rattle.plane.proofs.Ranges.{made}
use Rattle.solid.specs.Shapes.{Shape, holds, planes, Has, Clear, ClearBut, just_below, just_above, ends}
use Rattle.solid.specs.Models.{all_below}
use Rattle.solid.specs.Examples.{on_some}
use Rattle.solid.proofs.Members.{has_here, has_there, has_left, has_right, has_part}
use Rattle.solid.proofs.Values.{by_same}
use Rattle.search.specs.Search.{Agree, Among, Off, OffBut}

-- ---- a plane and its twin
pub turned_twice : (p : Plane) → turned (turned p) ≡ p
unfolding turned
turned_twice p = made p (neg_ℤ-neg_ℤ p.a) (neg_ℤ-neg_ℤ p.b) (neg_ℤ-neg_ℤ p.c) (neg_ℤ-neg_ℤ p.d)

-- the sides of the twin say those of the plane
pub twin_side : (p : Plane) (q r : Place) → side (turned p) q ≡ side (turned p) r → side p q ≡ side p r
twin_side p q r e =
    sym (ap (λ (m : Plane). side m q) (turned_twice p)) ∙ turned-side (turned p) q
    ∙ ap (λ s. side_at (opposite (sign_at s))) e
    ∙ sym (turned-side (turned p) r) ∙ ap (λ (m : Plane). side m r) (turned_twice p)

-- ---- planes among others
pub among_self : (ps : List Plane) → Among ps ps
among_self ps p h = inl h

module _ (ps rs : List Plane) where
  pub among_left : Among (ps ++ rs) ps
  among_left p h = inl (has_left p ps rs h)

  pub among_right : Among (ps ++ rs) rs
  among_right p h = inl (has_right p ps rs h)

  pub among_both : (ts : List Plane) → Among ts ps → Among ts rs → Among ts (ps ++ rs)
  among_both ts a b p h = elim (has_part p ps rs h) [ inl k ↦ a p k | inr k ↦ b p k ]

  pub among_trans : (ts : List Plane) → Among ts ps → Among ps rs → Among ts rs
  among_trans ts a b p h = elim (b p h) [
    | inl k ↦ a p k
    | inr k ↦ elim (a (turned p) k) [ inl m ↦ inr m | inr m ↦ inl (subst (λ (r : Plane). Has ts r) (turned_twice p) m) ]
  ]

-- ---- on the same sides
module _ (ps : List Plane) (q r : Place) (a : Agree ps q r) where
  pub agree_below : (p : Plane) → Has ps p → below p q ≡ below p r
  agree_below p h = (by_side p q p r (a p h)).in_below

  pub agree_on : (p : Plane) → Has ps p → on p q ≡ on p r
  agree_on p h = (by_side p q p r (a p h)).in_on

  pub agree_among : (rs : List Plane) → Among ps rs → Agree rs q r
  agree_among rs m p h = elim (m p h) [ inl k ↦ a p k | inr k ↦ twin_side p q r (a (turned p) k) ]

all_below_same : (q r : Place) (ps : List Plane) → Agree ps q r → all_below ps q ≡ all_below ps r
unfolding all_below
all_below_same q r [] a = refl
all_below_same q r (p ∷ ps) a = ap₂ ◌&&◌ (agree_below (p ∷ ps) q r a p (has_here p ps)) (all_below_same q r ps (λ t h. a t (has_there p t ps h)))

on_some_same : (q r : Place) (ps : List Plane) → Agree ps q r → on_some ps q ≡ on_some ps r
unfolding on_some
on_some_same q r [] a = refl
on_some_same q r (p ∷ ps) a = ap₂ ◌||◌ (agree_on (p ∷ ps) q r a p (has_here p ps)) (on_some_same q r ps (λ t h. a t (has_there p t ps h)))

module _ (ps : List Plane) (q r : Place) (a : Agree ps q r) where
  pub agree_all_below : (rs : List Plane) → Among ps rs → all_below rs q ≡ all_below rs r
  agree_all_below rs m = all_below_same q r rs (agree_among ps q r a rs m)

  pub agree_on_some : (rs : List Plane) → Among ps rs → on_some rs q ≡ on_some rs r
  agree_on_some rs m = on_some_same q r rs (agree_among ps q r a rs m)

  module _ (s : Shape) (m : Among ps (planes s)) where
    ours : Agree (planes s) q r
    ours = agree_among ps q r a (planes s) m

    pub agree_holds : holds s q ≡ holds s r
    unfolding holds
    agree_holds = by_same (λ p. below p q) (λ p. below p r) s (agree_below (planes s) q r ours)

    -- just below and just above a base, planes through the place are met by their direction
    met : (p : Plane) → Has (planes s) p → (t : Bool) → cond (on p q) t (below p q) ≡ cond (on p r) t (below p r)
    met p h t = ap₂ (λ x y. cond x t y) (agree_on (planes s) q r ours p h) (agree_below (planes s) q r ours p h)

    pub agree_ends : (b : Plane) → ends s b q ≡ ends s b r
    unfolding ends just_below just_above
    agree_ends b =
        ap₂ (λ x y. x && not y)
        (by_same (just_below b q) (just_below b r) s (λ p h. met p h (lt_z (pos 0) (along b p))))
        (by_same (just_above b q) (just_above b r) s (λ p h. met p h (lt_z (along b p) (pos 0))))

-- ---- off planes among others
pub off_among : (ps rs : List Plane) (q : Place) → Among ps rs → Off ps q → Off rs q
off_among ps rs q m o = record {
  real = o.real;
  off = λ p h. elim (m p h) [ inl k ↦ o.off p k | inr k ↦ sym (turned_on p q) ∙ o.off (turned p) k ];
}

pub but_among : (ps rs : List Plane) (b : Plane) (q : Place) → Among ps rs → OffBut ps b q → OffBut rs b q
but_among ps rs b q m o = record {
  real = o.real;
  on_it = o.on_it;
  off_others = λ p h t. elim (m p h) [
    | inl k ↦ o.off_others p k t
    | inr k ↦ elim (o.off_others (turned p) k (turned_on p q ∙ t)) [
      | inl w ↦ inr w
      | inr w ↦ inl (subst (λ (r : Plane). same_way b r ≡ true) (turned_twice p) w)
    ]
  ];
}

-- ---- a shape's planes
module _ (s : Shape) (ps : List Plane) (q : Place) where
  pub off_clear : Among ps (planes s) → Off ps q → Clear s q
  off_clear m o = let k = off_among ps (planes s) q m o in record { real = k.real; off = k.off }

  pub clear_off : Among (planes s) ps → Clear s q → Off ps q
  clear_off m c = off_among (planes s) ps q m (record { real = c.real; off = c.off })

  pub but_clear : (b : Plane) → Among ps (planes s) → OffBut ps b q → ClearBut s b q
  but_clear b m o = let k = but_among ps (planes s) b q m o in record { real = k.real; on_it = k.on_it; off_others = k.off_others }

  pub clear_but : (b : Plane) → Among (planes s) ps → ClearBut s b q → OffBut ps b q
  clear_but b m c = but_among (planes s) ps b q m (record { real = c.real; on_it = c.on_it; off_others = c.off_others })
