-- What is so of each of the six ways, as one test.
--     all_ways, all_ways_each, each_all_ways        the test, and the same as said of each way
--     all_ways_split                                the test with one way first, the opposite one, and the ways across
--     all_ways_same, all_ways_both                  tests alike, and two at once
--     Four, across, across_each, each_across,
--     across_same                                   the same for the four ways across
use Rattle.std.proofs.Common.{◌≡◌, Bool, true, ◌&&◌, pos, sym, refl, ap, ◌∙◌, ap₂, arith}
use Rattle.std.proofs.lemmas.Bool.{and_parts, and_from}
use Rattle.plane.specs.Planes.{same_z, along}
use Rattle.plane.proofs.Tests.{same_says}
use Rattle.faces.proofs.Ways.{Way, east, west, north, south, up, down, opp, first, second, normal}

abbrev pub all_ways : (Way → Bool) → Bool
all_ways g = ((g east && g west) && (g north && g south)) && (g up && g down)

abbrev pub across : Way → (Way → Bool) → Bool
across e g = g (first e) && (g (opp (first e)) && (g (second e) && (g (opp (second e)) && true)))

pub all_ways_split : (e : Way) (g : Way → Bool) → all_ways g ≡ (g e && (g (opp e) && across e g))
all_ways_split east g = grind arith
all_ways_split west g = grind arith
all_ways_split north g = grind arith
all_ways_split south g = grind arith
all_ways_split up g = grind arith
all_ways_split down g = grind arith

pub all_ways_each : (g : Way → Bool) → all_ways g ≡ true → (e : Way) → g e ≡ true
all_ways_each g h e = (and_parts (g e) (g (opp e) && across e g) (sym (all_ways_split e g) ∙ h)).0

pub each_all_ways : (g : Way → Bool) → ((e : Way) → g e ≡ true) → all_ways g ≡ true
each_all_ways g h =
    let a : (g east ≡ true) × (g west ≡ true) × (g north ≡ true) × (g south ≡ true) × (g up ≡ true) × (g down ≡ true) = (h east, h west, h north, h south, h up, h down) in
    grind arith

pub all_ways_both : (g h : Way → Bool) → (all_ways g && all_ways h) ≡ all_ways (λ e. g e && h e)
all_ways_both g h = grind arith

pub all_ways_same : (g h : Way → Bool) → ((e : Way) → g e ≡ h e) → all_ways g ≡ all_ways h
all_ways_same g h f = ap₂ ◌&&◌ (ap₂ ◌&&◌ (ap₂ ◌&&◌ (f east) (f west)) (ap₂ ◌&&◌ (f north) (f south))) (ap₂ ◌&&◌ (f up) (f down))

-- ---- the four ways across
-- what is so of each of them
abbrev pub Four : Way → (Way → Type 0) → Type 0
Four e P = P (first e) × P (opp (first e)) × P (second e) × P (opp (second e))

pub across_each : (e : Way) (g : Way → Bool) → across e g ≡ true → Four e (λ f. g f ≡ true)
across_each e g h =
    let i = and_parts (g (first e)) _ h in
    let j = and_parts (g (opp (first e))) _ i.1 in
    let k = and_parts (g (second e)) _ j.1 in
    let l = and_parts (g (opp (second e))) _ k.1 in
    (i.0, j.0, k.0, l.0)

pub each_across : (e : Way) (g : Way → Bool) → Four e (λ f. g f ≡ true) → across e g ≡ true
each_across e g h = and_from (g (first e)) _ h.0 (and_from (g (opp (first e))) _ h.1 (and_from (g (second e)) _ h.2 (and_from (g (opp (second e))) _ h.3 refl)))

-- they are square to the way
square : (e : Way) → Four e (λ f. same_z (along (normal e) (normal f)) (pos 0) ≡ true)
unfolding along same_z
square e = across_each e (λ f. same_z (along (normal e) (normal f)) (pos 0)) (all_ways_each (λ g. across g (λ f. same_z (along (normal g) (normal f)) (pos 0))) refl e)

-- and what is so of all that are square to it is so of them
pub across_same : (e : Way) (g h : Way → Bool) → ((f : Way) → along (normal e) (normal f) ≡ pos 0 → g f ≡ h f) → across e g ≡ across e h
across_same e g h f =
    let s = square e in
    let a = λ (k : Way) (t : same_z (along (normal e) (normal k)) (pos 0) ≡ true). f k (same_says (along (normal e) (normal k)) (pos 0) t) in
    ap₂ ◌&&◌ (a (first e) s.0) (ap₂ ◌&&◌ (a (opp (first e)) s.1) (ap₂ ◌&&◌ (a (second e) s.2) (ap (λ x. x && true) (a (opp (second e)) s.3))))
