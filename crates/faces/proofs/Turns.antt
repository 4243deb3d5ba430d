-- Round a face: the turn from an edge to each other corner, counter-clockwise as seen from outside.
--     turn, turn-seen                               the turn at a corner: leftward, as the face sees it
--     spot, turns_positive                          the corners of a rectangle, and their turns
use Rattle.std.proofs.Common.{◌≡◌, ℕ, zero, suc, ◌<◌, ◌⊎◌, [], ◌∷◌, get_or, ℤ, pos, ◌-ℤ◌, ◌*ℤ◌, neg_ℤ, ◌<ℤ◌, sym, refl, ◌∙◌, subst, inl, inr, arith}
use Rattle.std.proofs.lemmas.Int.{ints}
use Rattle.std.proofs.lemmas.Bool.Decides.{nat_tests}
use Rattle.arith.proofs.Order.{mul_positive}
use Rattle.arith.proofs.Poly.{Expr, con, ◌:*◌, ◌:-◌}
use Rattle.arith.proofs.Solve.{Claim, solve, ◌:=◌}
use Rattle.plane.specs.declared.types.Place.{Place}
use Rattle.solid.specs.Models.{across, leftward, next}
use Rattle.solid.specs.Examples.{at}
use Rattle.faces.proofs.Ways.{Way, east, west, north, south, up, down, toward, far, weight-far, rectangle, seen}

-- ---- the turn at a corner, in the face
abbrev pub dx : Place → Place → ℤ
dx u v = across u.x u.w v.x v.w

abbrev pub dy : Place → Place → ℤ
dy u v = across u.y u.w v.y v.w

abbrev pub dz : Place → Place → ℤ
dz u v = across u.z u.w v.z v.w

-- from u over v to t, counter-clockwise if above 0: y and z are the ways across
abbrev pub turn : Place → Place → Place → ℤ
turn u v t = (dy u v *ℤ dz u t) -ℤ (dz u v *ℤ dy u t)

-- the cross product of the ways from u to v and to t, as a place
abbrev crossed : Place → Place → Place → Place
crossed u v t = at ((dy u v *ℤ dz u t) -ℤ (dz u v *ℤ dy u t)) ((dz u v *ℤ dx u t) -ℤ (dx u v *ℤ dz u t)) ((dx u v *ℤ dy u t) -ℤ (dy u v *ℤ dx u t)) 1

neg_difference : (m n : ℤ) → neg_ℤ (m -ℤ n) ≡ n -ℤ m
neg_difference m n = omega (arith, ints)

turn-crossed : (f : Way) (u v t : Place) → far f (crossed u v t) ≡ turn (seen f u) (seen f v) (seen f t)
turn-crossed east u v t = refl
turn-crossed west u v t = neg_difference (dy u v *ℤ dz u t) (dz u v *ℤ dy u t)
turn-crossed north u v t = refl
turn-crossed south u v t = neg_difference (dz u v *ℤ dx u t) (dx u v *ℤ dz u t)
turn-crossed up u v t = refl
turn-crossed down u v t = neg_difference (dx u v *ℤ dy u t) (dy u v *ℤ dx u t)

pub turn-seen : (e : Way) (d : ℤ) (u v t : Place) → leftward (toward e d) u v t ≡ turn (seen e u) (seen e v) (seen e t)
unfolding leftward
turn-seen e d u v t = weight-far e (crossed u v t) ∙ turn-crossed e u v t

-- ---- round a rectangle, every turn is as large as it
-- the claim at the corners m, the next one and n, for `solve`
abbrev claim : ℕ → ℕ → Expr → Expr → Expr → Expr → Claim
claim m n i j k l =
    let y = λ (c : ℕ). get_or (i ∷ j ∷ j ∷ i ∷ []) c i :* con (pos 1) in
    let z = λ (c : ℕ). get_or (k ∷ k ∷ l ∷ l ∷ []) c k :* con (pos 1) in
    let o = next 4 m in
    ((y o :- y m) :* (z n :- z m)) :- ((z o :- z m) :* (y n :- y m)) := (j :- i) :* (l :- k)

module _ (d i j k l : ℤ) where
  abbrev pub spot : ℕ → Place
  spot n = get_or (rectangle d i j k l) n (at d i k 1)

  abbrev Turns : ℕ → ℕ → Type 0
  Turns m n = turn (spot m) (spot (next 4 m)) (spot n) ≡ (j -ℤ i) *ℤ (l -ℤ k)

  two_on : (m : ℕ) → m < 4 → Turns m (next 4 (next 4 m)) × Turns m (next 4 (next 4 (next 4 m)))
  unfolding across
  two_on zero h = (solve 4 (claim 0 2) refl i j k l, solve 4 (claim 0 3) refl i j k l)
  two_on (suc zero) h = (solve 4 (claim 1 3) refl i j k l, solve 4 (claim 1 0) refl i j k l)
  two_on (suc (suc zero)) h = (solve 4 (claim 2 0) refl i j k l, solve 4 (claim 2 1) refl i j k l)
  two_on (suc (suc (suc zero))) h = (solve 4 (claim 3 1) refl i j k l, solve 4 (claim 3 2) refl i j k l)
  two_on (suc (suc (suc (suc m)))) h = absurd (omega arith)

  -- the corners that are not the ends of an edge are the two next ones
  others : (m n : ℕ) → m < 4 → n < 4 → (n ≡ m → ⊥) → (n ≡ next 4 m → ⊥) → (next 4 (next 4 m) ≡ n) ⊎ (next 4 (next 4 (next 4 m)) ≡ n)
  others m n a b f g = grind (arith, nat_tests)

  pub turns_positive : i <ℤ j → k <ℤ l → (m n : ℕ) → m < 4 → n < 4 → (n ≡ m → ⊥) → (n ≡ next 4 m → ⊥) → pos 0 <ℤ turn (spot m) (spot (next 4 m)) (spot n)
  turns_positive h g m n a b f e =
      let p : pos 0 <ℤ ((j -ℤ i) *ℤ (l -ℤ k)) = mul_positive (j -ℤ i) (l -ℤ k) (omega (arith, ints)) (omega (arith, ints)) in
      let t = two_on m a in
      let r = λ (c : ℕ). turn (spot m) (spot (next 4 m)) (spot c) in
      elim (others m n a b f e) [
        | inl o ↦ subst (λ (c : ℕ). pos 0 <ℤ r c) o (subst (λ (z : ℤ). pos 0 <ℤ z) (sym t.0) p)
        | inr o ↦ subst (λ (c : ℕ). pos 0 <ℤ r c) o (subst (λ (z : ℤ). pos 0 <ℤ z) (sym t.1) p)
      ]
