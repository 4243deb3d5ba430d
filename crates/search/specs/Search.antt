-- Places off some planes, and what is found among them.
use Rattle.std.specs.Prelude.{◌≡◌, ℕ, ◌+◌, ◌*◌, ◌<◌, Bool, true, false, ◌⊎◌, List, Some, None, Option, MatchOption}
use Rattle.plane.specs.declared.types.Plane.{Plane}
use Rattle.plane.specs.declared.types.Place.{Place}
use Rattle.plane.specs.Limits.{SmallPlace}
use Rattle.plane.specs.Planes.{on, side, turned, same_way}
use Rattle.solid.specs.Shapes.{Has}

-- two places are on the same side of each of the planes
abbrev pub Agree : List Plane → Place → Place → Type 0
Agree ps q r = (p : Plane) → Has ps p → side p q ≡ side p r

-- a place on none of the planes
pub record Off (ps : List Plane) (q : Place) : Type 0 where
  pub real : 0 < q.w
  pub off : (p : Plane) → Has ps p → on p q ≡ false

-- a place on plane p, and on none of the planes that lies another way
pub record OffBut (ps : List Plane) (p : Plane) (q : Place) : Type 0 where
  pub real : 0 < q.w
  pub on_it : on p q ≡ true
  pub off_others : (r : Plane) → Has ps r → on r q ≡ true → (same_way p r ≡ true) ⊎ (same_way p (turned r) ≡ true)

-- each of the planes rs is one of ps, one way round or the other
abbrev pub Among : List Plane → List Plane → Type 0
Among ps rs = (p : Plane) → Has rs p → Has ps p ⊎ Has ps (turned p)

-- what is asked of a place depends on nothing but the sides of the planes
abbrev pub BySides : List Plane → (Place → Bool) → Type 0
BySides ps f = (q r : Place) → 0 < q.w → 0 < r.w → Agree ps q r → f q ≡ f r

-- the same for places on plane p
abbrev pub BySidesOn : List Plane → Plane → (Place → Bool) → Type 0
BySidesOn ps p f = (q r : Place) → 0 < q.w → 0 < r.w → on p q ≡ true → on p r ≡ true → Agree ps q r → f q ≡ f r

-- both, with a base or without one
abbrev pub OffAt : Option Plane → List Plane → Place → Type 0
OffAt None ps q = Off ps q
OffAt (Some p) ps q = OffBut ps p q

abbrev pub BySidesAt : Option Plane → List Plane → (Place → Bool) → Type 0
BySidesAt None ps f = BySides ps f
BySidesAt (Some p) ps f = BySidesOn ps p f

-- what is found among some places: one for which it holds, or that it holds for none
abbrev pub Found : (Place → Type 0) → (Place → Bool) → Option Place → Type 0
Found C f o = MatchOption o ((q : Place) → C q → f q ≡ false) (λ q. C q × (f q ≡ true) × SmallPlace q)

-- how many words are lent for so many planes
abbrev pub lent_words : ℕ → ℕ
lent_words n = 3 * (n + 1)
