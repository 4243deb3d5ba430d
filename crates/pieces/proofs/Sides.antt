-- What is told of a place depends on nothing but the sides of the planes.
use Rattle.std.proofs.Common.{◌≡◌, Bool, cond, ◌⊎◌, ◌++◌, ap, ap₂, inl, inr}
use Rattle.plane.specs.declared.types.Plane.{Plane}
use Rattle.plane.specs.declared.types.Place.{Place}
use Rattle.solid.specs.declared.types.Told.TheVariants.{In, Out, On}
use Rattle.solid.specs.Shapes.{Shape, Has, planes, solid, workshop}
use Rattle.solid.specs.Examples.{told}
use Rattle.solid.proofs.Members.{has_left, has_right, has_part}
use Rattle.search.specs.Search.{Agree}
use Rattle.search.proofs.Agreeing.{among_self, agree_on_some, agree_holds}
use Rattle.pieces.specs.Questions.{is_in, inside, joined_in, planes_of_two}

pub told_agree : (s : Shape) (q r : Place) → Agree (planes (solid s)) q r → told s q ≡ told s r
unfolding told
told_agree s q r a =
    let ps = planes (solid s) in
    ap₂ (λ x y. cond x On (cond y In Out)) (agree_on_some ps q r a ps (among_self ps)) (agree_holds ps q r a (solid s) (among_self ps))

-- so does what is said of two parts, joined
abbrev pub AgreeTwo : Shape → Shape → Place → Place → Type 0
AgreeTwo s t q r = Agree (planes_of_two s t) q r

first_agree : (s t : Shape) (q r : Place) → AgreeTwo s t q r → inside s q ≡ inside s r
first_agree s t q r a = ap is_in (told_agree s q r (λ p h. a p (has_left p (planes (solid s)) (planes t) h)))

-- the second part's planes are its own and the workshop's
second_has : (s t : Shape) (p : Plane) → Has (planes (solid t)) p → Has (planes_of_two s t) p
unfolding solid planes
second_has s t p h = go (has_part p (planes workshop) (planes t) h)
  where
    go : Has (planes workshop) p ⊎ Has (planes t) p → Has ((planes workshop ++ planes s) ++ planes t) p
    go (inl k) = has_left p (planes workshop ++ planes s) (planes t) (has_left p (planes workshop) (planes s) k)
    go (inr k) = has_right p (planes workshop ++ planes s) (planes t) k

second_agree : (s t : Shape) (q r : Place) → AgreeTwo s t q r → inside t q ≡ inside t r
second_agree s t q r a = ap is_in (told_agree t q r (λ p h. a p (second_has s t p h)))

pub joined_agree : (f : Bool → Bool → Bool) (s t : Shape) (q r : Place) → AgreeTwo s t q r → joined_in f s t q ≡ joined_in f s t r
joined_agree f s t q r a = ap₂ f (first_agree s t q r a) (second_agree s t q r a)
