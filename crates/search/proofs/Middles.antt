-- The doubled coordinates between the level planes of an axis, as they are written and as they are used.
--     one_more, none_more                            the words that a loop writes
--     Behind, middle_from                            what the middles come from
--     middles_short, twice_short                     how large they are
--     odd                                            none is at a number
--     Chosen, Between, choose                        one is on the same side of each number as a place that is at none
use Rattle.std.proofs.Common.{◌≡◌, ℕ, ◌+◌, ◌<◌, ◌≤◌, ◌⊎◌, List, [], ◌∷◌, ◌++◌, length, get_or, take, ℤ, pos, ◌+ℤ◌, ◌-ℤ◌, ◌*ℤ◌, nat_abs, ◌≤ℤ◌, ◌<ℤ◌, Some, None, Option, sym, refl, ap, ◌∙◌, subst, ap₂, inl, inr, append_assoc, arith, lit≤, w64, to_z}
use lib.Signed.{<ℤ_irrefl}
use Rattle.std.proofs.lemmas.List.{take_more, map-append, append-nil}
use Rattle.std.proofs.lemmas.Int.{ints, by_lt_z}
use Rattle.arith.specs.Bounds.{Short}
use Rattle.arith.proofs.Order.{tri, below, same, above, minus, plus, sgn, says_sgn}
use Rattle.arith.proofs.Poly.{con, ◌:-◌, ◌:*◌}
use Rattle.arith.proofs.Sized.{is_self, is_pos, is_mul, is_add}
use Rattle.arith.proofs.Solve.{solve, ◌:<◌, ◌:≤◌, ◌⊙◌⇒◌, ◌⟹◌}
use Rattle.plane.specs.declared.types.Plane.{Plane}
use Rattle.plane.specs.declared.types.Place.{Place}
use Rattle.plane.specs.Limits.{offset_limit}
use Rattle.solid.specs.Shapes.{Has}
use Rattle.solid.proofs.Members.{has_none, has_here, has_there, has_either, has_left, has_right, has_part}
use Rattle.search.specs.declared.levels.Axis.{Axis}
use Rattle.search.specs.Levels.{number_along, behind, behind_each, middles, lowest, spot_limit, numbers, AllLevel, AllShort}
use Rattle.search.proofs.Axes.{number_short, rise}

-- ---- as they are written
each_append : (x : Axis) (ps rs : List Plane) → behind_each x (ps ++ rs) ≡ behind_each x ps ++ behind_each x rs
each_append x [] rs = refl
each_append x (p ∷ ps) rs = ap (λ (ms : List ℤ). behind (number_along x p) ++ ms) (each_append x ps rs) ∙ sym (append_assoc (behind (number_along x p)) (behind_each x ps) (behind_each x rs))

middles_more : (x : Axis) (ps : List Plane) (i : ℕ) (d : Plane) → i < length ps → middles x (take (i + 1) ps) ≡ middles x (take i ps) ++ behind (number_along x (get_or ps i d))
middles_more x ps i d h =
    ap (middles x) (take_more ps i d h)
    ∙ ap (λ (ms : List ℤ). lowest ∷ ms) (each_append x (take i ps) (get_or ps i d ∷ []))
    ∙ ap (λ (ms : List ℤ). lowest ∷ (behind_each x (take i ps) ++ ms)) (append-nil (behind (number_along x (get_or ps i d))))

module _ (x : Axis) (ps : List Plane) (i : ℕ) (d : Plane) (h : i < length ps) (ws : List ℕ) (e : numbers ws ≡ middles x (take i ps)) where
  pub one_more : (v : ℤ) (w : ℕ) → number_along x (get_or ps i d) ≡ Some v → to_z w64 w ≡ pos 2 *ℤ v +ℤ pos 1 → numbers (ws ++ w ∷ []) ≡ middles x (take (i + 1) ps)
  one_more v w f g =
      map-append (to_z w64) ws (w ∷ [])
      ∙ ap₂ ◌++◌ e (ap (λ (m : ℤ). m ∷ []) g ∙ sym (ap behind f))
      ∙ sym (middles_more x ps i d h)

  pub none_more : number_along x (get_or ps i d) ≡ None → numbers ws ≡ middles x (take (i + 1) ps)
  none_more f = e ∙ sym (append-nil (middles x (take i ps))) ∙ ap (λ (ms : List ℤ). middles x (take i ps) ++ ms) (sym (ap behind f)) ∙ sym (middles_more x ps i d h)

-- ---- what they come from
record Behind (x : Axis) (ps : List Plane) (m : ℤ) : Type 0 where
  plane : Plane
  has : Has ps plane
  number : ℤ
  along : number_along x plane ≡ Some number
  is : m ≡ pos 2 *ℤ number +ℤ pos 1

module _ (x : Axis) (m : ℤ) where
  behind_from : (ps : List Plane) → Has (behind_each x ps) m → Behind x ps m
  behind_from [] h = absurd (has_none m h)
  behind_from (p ∷ ps) h = elim (has_part m (behind (number_along x p)) (behind_each x ps) h) [
    | inl k ↦ first (number_along x p) refl k
    | inr k ↦ let r = behind_from ps k in record { plane = r.plane; has = has_there p r.plane ps r.has; number = r.number; along = r.along; is = r.is }
  ]
    where
      first : (o : Option ℤ) → number_along x p ≡ o → Has (behind o) m → Behind x (p ∷ ps) m
      first None e k = absurd (has_none m k)
      first (Some v) e k = elim (has_either (pos 2 *ℤ v +ℤ pos 1) m [] k) [
        | inl i ↦ record { plane = p; has = has_here p ps; number = v; along = e; is = sym i }
        | inr l ↦ absurd (has_none m l)
      ]

  middle_from : (ps : List Plane) → Has (middles x ps) m → (m ≡ lowest) ⊎ Behind x ps m
  middle_from ps h = elim (has_either lowest m (behind_each x ps) h) [ inl e ↦ inl (sym e) | inr k ↦ inr (behind_from ps k) ]

-- ---- sizes
module _ (x : Axis) (ps : List Plane) (a : AllLevel ps) where
  pub middles_short : AllShort (middles x ps)
  middles_short m h = elim (middle_from x m ps h) [
    | inl e ↦ subst (λ (z : ℤ). Short z spot_limit) (sym e) (record { size = lit≤ tt })
    | inr b ↦ subst (λ (z : ℤ). Short z spot_limit) (sym b.is)
        (is_add (is_mul (is_pos {k = 2} {n = 2} (lit≤ tt)) (is_self (number_short x b.plane b.number (a b.plane b.has) b.along))) (is_pos {k = 1} {n = 1} (lit≤ tt))).short
  ]

pub twice_short : (v : ℤ) → Short v offset_limit → AllShort ((pos 2 *ℤ v) ∷ [])
twice_short v s m h = elim (has_either (pos 2 *ℤ v) m [] h) [
  | inl i ↦ let k : nat_abs v ≤ offset_limit = s.size in subst (λ (z : ℤ). Short z spot_limit) i (record { size = omega (arith, ints) })
  | inr l ↦ absurd (has_none m l)
]

-- ---- none is at a number
pub odd : (x : Axis) (ps : List Plane) (m v : ℤ) → Has (middles x ps) m → m -ℤ (v *ℤ pos 2) ≡ pos 0 → ⊥
odd x ps m v h e = elim (middle_from x m ps h) [
  | inl i ↦ omega (arith, ints)
  | inr b ↦ let i : m ≡ pos 2 *ℤ b.number +ℤ pos 1 = b.is in omega (arith, ints)
]

-- ---- the one that stands for a place
-- a place is past t and not yet at u
between : (c w t u : ℤ) → pos 0 ≤ℤ w → pos 0 <ℤ (c -ℤ (t *ℤ w)) → (c -ℤ (u *ℤ w)) <ℤ pos 0 → t <ℤ u
between c w t u h k l = by_lt_z t u (λ i. i) (λ i. absurd (<ℤ_irrefl
    (solve 4 (λ c w t u. w ⊙ u :≤ t ⇒ con (pos 0) :< c :- t :* w ⟹ c :- u :* w :< con (pos 0) ⟹ con (pos 0) :< con (pos 0)) refl c w t u h i k l)))

-- a doubled coordinate is on the same side of number v as a place that is r past it
abbrev Splits : ℤ → ℤ → ℤ → Type 0
Splits m v r = (r <ℤ pos 0 → m <ℤ (pos 2 *ℤ v)) × (pos 0 <ℤ r → (pos 2 *ℤ v) <ℤ m)

-- on the same side of each plane's number
abbrev pub Chosen : Axis → List Plane → Place → ℤ → Type 0
Chosen x ps q m = (p : Plane) (v : ℤ) → Has ps p → number_along x p ≡ Some v → sgn (m -ℤ (v *ℤ pos 2)) ≡ sgn (rise x q v)

-- at none of the planes' numbers
abbrev pub Between : Axis → List Plane → Place → Type 0
Between x ps q = (p : Plane) (v : ℤ) → Has ps p → number_along x p ≡ Some v → rise x q v ≡ pos 0 → ⊥

-- the middle behind the last number that the place is past, or the lowest
record Best (x : Axis) (ps : List Plane) (q : Place) (m : ℤ) : Type 0 where
  listed : Has (middles x ps) m
  under : (m ≡ lowest) ⊎ ((u : ℤ) × (m ≡ pos 2 *ℤ u +ℤ pos 1) × (pos 0 <ℤ rise x q u))
  splits : (p : Plane) (v : ℤ) → Has ps p → number_along x p ≡ Some v → Splits m v (rise x q v)

module _ (x : Axis) (q : Place) where
  listed_more : (p : Plane) (ps : List Plane) (m : ℤ) → Has (middles x ps) m → Has (middles x (p ∷ ps)) m
  listed_more p ps m h = elim (has_either lowest m (behind_each x ps) h) [
    | inl e ↦ subst (λ (z : ℤ). Has (middles x (p ∷ ps)) z) e (has_here lowest (behind_each x (p ∷ ps)))
    | inr k ↦ has_there lowest m (behind_each x (p ∷ ps)) (has_right m (behind (number_along x p)) (behind_each x ps) k)
  ]

  listed_here : (p : Plane) (ps : List Plane) (v : ℤ) → number_along x p ≡ Some v → Has (middles x (p ∷ ps)) (pos 2 *ℤ v +ℤ pos 1)
  listed_here p ps v e =
      has_there lowest _ (behind_each x (p ∷ ps)) (has_left _ (behind (number_along x p)) (behind_each x ps)
      (subst (λ (o : Option ℤ). Has (behind o) (pos 2 *ℤ v +ℤ pos 1)) (sym e) (has_here (pos 2 *ℤ v +ℤ pos 1) [])))

  -- what is said of the planes behind, and of the first, is said of all
  all_more : (p : Plane) (ps : List Plane) (m : ℤ) →
      ((r : Plane) (v : ℤ) → Has ps r → number_along x r ≡ Some v → Splits m v (rise x q v)) →
      ((v : ℤ) → number_along x p ≡ Some v → Splits m v (rise x q v)) →
      (r : Plane) (v : ℤ) → Has (p ∷ ps) r → number_along x r ≡ Some v → Splits m v (rise x q v)
  all_more p ps m f g r v h e = elim (has_either p r ps h) [ inl i ↦ g v (ap (number_along x) i ∙ e) | inr k ↦ f r v k e ]

  module _ (w : 0 < q.w) where
    -- what the last number stands below is above it
    under_below : (u m : ℤ) → Short u offset_limit → (m ≡ lowest) ⊎ ((t : ℤ) × (m ≡ pos 2 *ℤ t +ℤ pos 1) × (pos 0 <ℤ rise x q t)) → rise x q u <ℤ pos 0 → m <ℤ (pos 2 *ℤ u)
    under_below u m s o k = elim o [
      | inl e ↦ let h : nat_abs u ≤ offset_limit = s.size in omega (arith, ints)
      | inr t ↦
          let h : pos 0 ≤ℤ pos q.w = omega (arith, ints) in
          let l : t.0 <ℤ u = between _ (pos q.w) t.0 u h t.2 k in
          let e : m ≡ pos 2 *ℤ t.0 +ℤ pos 1 = t.1 in
          omega (arith, ints)
    ]

    some_same : (u v : ℤ) (o : Option ℤ) → o ≡ Some u → o ≡ Some v → u ≡ v
    some_same u v o e f = cc

    never : (r : ℤ) → r <ℤ pos 0 → pos 0 <ℤ r → ⊥
    never r h k = omega (arith, ints)

    module _ (p : Plane) (ps : List Plane) (m : ℤ) (b : Best x ps q m) where
      -- the plane is of another axis
      skipped : number_along x p ≡ None → Best x (p ∷ ps) q m
      skipped e = record {
        listed = listed_more p ps m b.listed;
        under = b.under;
        splits = all_more p ps m b.splits (λ v f. let z : ◌≡◌ {A = ℕ} 0 1 = cc in absurd (omega arith));
      }

      module _ (u : ℤ) (e : number_along x p ≡ Some u) where
        -- the plane changes nothing
        kept : Splits m u (rise x q u) → Best x (p ∷ ps) q m
        kept s = record {
          listed = listed_more p ps m b.listed;
          under = b.under;
          splits = all_more p ps m b.splits (λ v f. subst (λ (z : ℤ). Splits m z (rise x q z)) (some_same u v (number_along x p) e f) s);
        }

        -- the plane is the last so far that the place is past
        later : pos 0 <ℤ rise x q u → m <ℤ (pos 2 *ℤ u +ℤ pos 1) → Best x (p ∷ ps) q (pos 2 *ℤ u +ℤ pos 1)
        later k l = record {
          listed = listed_here p ps u e;
          under = inr (u, refl, k);
          splits = all_more p ps (pos 2 *ℤ u +ℤ pos 1) (λ r v h f. (λ i. past v i, λ i. let j = (b.splits r v h f).1 i in omega (arith, ints)))
              (λ v f. subst (λ (z : ℤ). Splits (pos 2 *ℤ u +ℤ pos 1) z (rise x q z)) (some_same u v (number_along x p) e f) (λ i. absurd (never (rise x q u) i k), λ i. omega (arith, ints)));
        }
          where
            past : (v : ℤ) → rise x q v <ℤ pos 0 → (pos 2 *ℤ u +ℤ pos 1) <ℤ (pos 2 *ℤ v)
            past v i =
                let h : pos 0 ≤ℤ pos q.w = omega (arith, ints) in
                let j : u <ℤ v = between _ (pos q.w) u v h k i in
                omega (arith, ints)

    next : (p : Plane) (ps : List Plane) (m : ℤ) → Best x ps q m → (o : Option ℤ) → number_along x p ≡ o →
        ((u : ℤ) → o ≡ Some u → Short u offset_limit × (rise x q u ≡ pos 0 → ⊥)) → (n : ℤ) × Best x (p ∷ ps) q n
    next p ps m b None e f = (m, skipped p ps m b e)
    next p ps m b (Some u) e f = elim (tri (rise x q u) (pos 0)) [
      | below k ↦ (m, kept p ps m b u e (λ i. under_below u m (f u refl).0 b.under k, λ i. absurd (never (rise x q u) k i)))
      | same k ↦ absurd ((f u refl).1 k)
      | above k ↦ by_lt_z m (pos 2 *ℤ u +ℤ pos 1)
          (λ l. (pos 2 *ℤ u +ℤ pos 1, later p ps m b u e k l))
          (λ l. (m, kept p ps m b u e (λ i. absurd (never (rise x q u) i k), λ i. omega (arith, ints))))
    ]

    best : (ps : List Plane) → AllLevel ps → Between x ps q → (m : ℤ) × Best x ps q m
    best [] a n = (lowest, record { listed = has_here lowest []; under = inl refl; splits = λ p v h. absurd (has_none p h) })
    best (p ∷ ps) a n =
        let r = best ps (λ s h. a s (has_there p s ps h)) (λ s v h. n s v (has_there p s ps h)) in
        next p ps r.0 r.1 (number_along x p) refl (λ u e. (number_short x p u (a p (has_here p ps)) e, n p u (has_here p ps) e))

    -- the signs of both
    signs : (m v r : ℤ) → Splits m v r → (r ≡ pos 0 → ⊥) → sgn (m -ℤ (v *ℤ pos 2)) ≡ sgn r
    signs m v r s n = elim (tri r (pos 0)) [
      | below k ↦ let l = s.0 k in says_sgn minus (m -ℤ (v *ℤ pos 2)) (omega (arith, ints)) ∙ sym (says_sgn minus r k)
      | same k ↦ absurd (n k)
      | above k ↦ let l = s.1 k in says_sgn plus (m -ℤ (v *ℤ pos 2)) (omega (arith, ints)) ∙ sym (says_sgn plus r k)
    ]

    pub choose : (ps : List Plane) → AllLevel ps → Between x ps q → (m : ℤ) × Has (middles x ps) m × Chosen x ps q m
    choose ps a n =
        let r = best ps a n in
        (r.0, r.1.listed, λ p v h e. signs r.0 v (rise x q v) (r.1.splits p v h e) (n p v h e))
