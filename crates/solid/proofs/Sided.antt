-- Below and on, read from the side.
use Rattle.std.proofs.Common.{◌≡◌, Bool, true, false, cond, ℤ, pos, refl, sym, arith}
use denote.Enum.Bare.{sameb}
use lib.Signed.{lt_z}
use Rattle.std.proofs.lemmas.Int.{ints}
use Rattle.plane.specs.contracts.types.Side.{the_type}
use Rattle.plane.specs.declared.types.Plane.{Plane}
use Rattle.plane.specs.declared.types.Place.{Place}
use Rattle.plane.specs.declared.types.Side.TheVariants.{Below, On, Above}
use Rattle.plane.specs.Planes.{same_z, height, below, on, side}

below_cond : (b o : Bool) → sameb the_type (cond b Below (cond o On Above)) Below ≡ b
below_cond true o = refl
below_cond false true = refl
below_cond false false = refl

on_cond : (b o : Bool) → (b ≡ true → o ≡ false) → sameb the_type (cond b Below (cond o On Above)) On ≡ o
on_cond true o f = sym (f refl)
on_cond false true f = refl
on_cond false false f = refl

never_both : (h : ℤ) → lt_z h (pos 0) ≡ true → same_z h (pos 0) ≡ false
unfolding same_z
never_both h e = grind (arith, ints)

pub below-side : (p : Plane) (q : Place) → sameb the_type (side p q) Below ≡ below p q
unfolding side
below-side p q = below_cond (below p q) (on p q)

pub on-side : (p : Plane) (q : Place) → sameb the_type (side p q) On ≡ on p q
unfolding side below on
on-side p q = on_cond (below p q) (on p q) (never_both (height p q))

pub ruleset sides = (below-side, on-side)
