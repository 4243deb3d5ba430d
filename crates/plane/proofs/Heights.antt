-- Below, on and side by the sign of the height.
--     below-height, on-height              what a test says of the height
--     height-on, height_not_below          what the height says of the test
--     height-side, side-sgn                the same for the side, by a sign
--     same_side, by_side                   heights of the same sign, or the same side: all three agree
use Rattle.std.proofs.Common.{◌≡◌, zero, suc, Bool, true, false, cond, ◌&&◌, ℤ, pos, negsuc, ◌≤ℤ◌, ◌<ℤ◌, sym, refl, ap, ◌∙◌, inl, inr}
use Prim.Native.Nat.compare
use lib.Signed.{lt_z, le_z, clash_ℤ}
use Rattle.std.proofs.lemmas.Bool.{false≢true, cases_Bool}
use Rattle.arith.proofs.Order.{Sign, minus, none, plus, sgn, Says, sgn_says, says_sgn}
use Rattle.plane.specs.declared.types.Plane.{Plane}
use Rattle.plane.specs.declared.types.Place.{Place}
use Rattle.plane.specs.declared.types.Side.{Side}
use Rattle.plane.specs.declared.types.Side.TheVariants.{Below, On, Above}
use Rattle.plane.specs.Planes.{same_z, height, below, on, side}

-- ---- by the sign
abbrev pub is_minus : Sign → Bool
is_minus minus = true
is_minus none = false
is_minus plus = false

abbrev pub is_none : Sign → Bool
is_none minus = false
is_none none = true
is_none plus = false

abbrev pub side_at : Sign → Side
side_at minus = Below
side_at none = On
side_at plus = Above

below_sign : (h : ℤ) → lt_z h (pos 0) ≡ is_minus (sgn h)
below_sign (pos zero) = refl
below_sign (pos (suc n)) = rw compare.suc-zero
below_sign (negsuc n) = refl

on_sign : (h : ℤ) → (le_z h (pos 0) && le_z (pos 0) h) ≡ is_none (sgn h)
on_sign (pos zero) = refl
on_sign (pos (suc n)) = rw compare.suc-zero
on_sign (negsuc n) = refl

side_sign : (s : Sign) → cond (is_minus s) Below (cond (is_none s) On Above) ≡ side_at s
side_sign minus = refl
side_sign none = refl
side_sign plus = refl

pub below_is : (p : Plane) (q : Place) → below p q ≡ is_minus (sgn (height p q))
unfolding below
below_is p q = below_sign (height p q)

pub on_is : (p : Plane) (q : Place) → on p q ≡ is_none (sgn (height p q))
unfolding on same_z
on_is p q = on_sign (height p q)

pub side_is : (p : Plane) (q : Place) → side p q ≡ side_at (sgn (height p q))
unfolding side
side_is p q = simp (below_is, on_is) (side_sign (sgn (height p q)))

-- ---- what a test says
minus_says : (s : Sign) (h : ℤ) → Says s h → is_minus s ≡ true → h <ℤ pos 0
minus_says minus h k t = k
minus_says none h k t = absurd (false≢true t)
minus_says plus h k t = absurd (false≢true t)

none_says : (s : Sign) (h : ℤ) → Says s h → is_none s ≡ true → h ≡ pos 0
none_says minus h k t = absurd (false≢true t)
none_says none h k t = k
none_says plus h k t = absurd (false≢true t)

pub below-height : (p : Plane) (q : Place) → below p q ≡ true → height p q <ℤ pos 0
below-height p q e = minus_says (sgn (height p q)) (height p q) (sgn_says (height p q)) (sym (below_is p q) ∙ e)

pub on-height : (p : Plane) (q : Place) → on p q ≡ true → height p q ≡ pos 0
on-height p q e = none_says (sgn (height p q)) (height p q) (sgn_says (height p q)) (sym (on_is p q) ∙ e)

-- ---- what the height says
pub height-on : (p : Plane) (q : Place) → height p q ≡ pos 0 → on p q ≡ true
height-on p q h = on_is p q ∙ ap is_none (says_sgn none (height p q) h)

-- ---- where a test fails
pub height_not_below : (p : Plane) (q : Place) → pos 0 ≤ℤ height p q → below p q ≡ false
height_not_below p q h = elim (cases_Bool (below p q)) [ inl t ↦ clash_ℤ (below-height p q t) h | inr f ↦ f ]

-- ---- the side
abbrev pub sign_at : Side → Sign
sign_at Below = minus
sign_at On = none
sign_at Above = plus

sign_side : (s : Sign) → sign_at (side_at s) ≡ s
sign_side minus = refl
sign_side none = refl
sign_side plus = refl

pub height-side : (p : Plane) (q : Place) (s : Sign) → Says s (height p q) → side p q ≡ side_at s
height-side p q s h = side_is p q ∙ ap side_at (says_sgn s (height p q) h)

pub side-sgn : (p : Plane) (q : Place) → sgn (height p q) ≡ sign_at (side p q)
side-sgn p q = sym (ap sign_at (side_is p q) ∙ sign_side (sgn (height p q)))

-- ---- two places, each seen from a plane, on the same side
pub record SameSide (p : Plane) (q : Place) (r : Plane) (s : Place) : Type 0 where
  pub in_below : below p q ≡ below r s
  pub in_on : on p q ≡ on r s
  pub in_side : side p q ≡ side r s

pub same_side : (p : Plane) (q : Place) (r : Plane) (s : Place) → sgn (height p q) ≡ sgn (height r s) → SameSide p q r s
same_side p q r s e = record {
  in_below = below_is p q ∙ ap is_minus e ∙ sym (below_is r s);
  in_on = on_is p q ∙ ap is_none e ∙ sym (on_is r s);
  in_side = side_is p q ∙ ap side_at e ∙ sym (side_is r s);
}

pub by_side : (p : Plane) (q : Place) (r : Plane) (s : Place) → side p q ≡ side r s → SameSide p q r s
by_side p q r s e = same_side p q r s (side-sgn p q ∙ ap sign_at e ∙ sym (side-sgn r s))
