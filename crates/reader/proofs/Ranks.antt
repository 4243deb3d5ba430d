-- Names one after the other: which comes first.
use Rattle.std.proofs.Common.{◌≡◌, ℕ, suc, ◌+◌, Bool, true, false, cond, not, ◌&&◌, ◌||◌, eqb, ltb, List, [], ◌∷◌, map, length, is_some, Some, None, Decides, Option, sym, refl, ap, ◌∙◌, subst, eq-eqb, arith, le-leb}
use Prim.Native.Nat.compare
use Rattle.std.specs.List.{position_or_len}
use Rattle.std.specs.Cmp.Lexicographic.{pointwise}
use Rattle.std.specs.Option.{option_map}
use Rattle.std.proofs.lemmas.Bool.{cond-true, both_ways, and_from}
use Rattle.std.proofs.lemmas.Bool.Decides.{Decides-eqb}
use Rattle.std.proofs.lemmas.Slice.Eq.{slice_eq-Decides}
use Rattle.grammar.proofs.Exact.{same_eq}
use Rattle.grammar.specs.Grammar.{same, one_of}
use Rattle.reader.specs.Names.{rank}

-- what `==` says of two words
pub same_from : (xs ys : List ℕ) (r : Bool) → Decides r (xs ≡ ys) → same ys xs ≡ r
same_from xs ys true d = subst (λ (w : List ℕ). same w xs ≡ true) (d.0 refl) (same_self xs)
  where
    same_self : (w : List ℕ) → same w w ≡ true
    same_self [] = refl
    same_self (b ∷ w) = and_from (eqb b b) (same w w) (eq-eqb b b refl) (same_self w)
same_from xs ys false d = cond_both' (same ys xs) refl
  where
    cond_both' : (b : Bool) → same ys xs ≡ b → b ≡ false
    cond_both' false e = refl
    cond_both' true e = absurd (both_ways false refl (d.1 (sym (same_eq ys xs e))))

pub same_pointwise : (xs ys : List ℕ) → same xs ys ≡ pointwise eqb xs ys
same_pointwise [] [] = refl
same_pointwise [] (y ∷ ys) = refl
same_pointwise (x ∷ xs) [] = refl
same_pointwise (x ∷ xs) (y ∷ ys) = ap (λ (b : Bool). eqb x y && b) (same_pointwise xs ys)

-- what `==` says of a word and a word that is written out
pub told_same : (w k v : List ℕ) (r : Bool) → r ≡ pointwise eqb w v → v ≡ k → same k w ≡ r
told_same w k v r e f = ap (λ (x : List ℕ). same x w) (sym f) ∙ same_from w v r (slice_eq-Decides Decides-eqb w v r e)

-- what `==` says of a word that is looked for, and of one that is there
pub eq_same : (w v u : List ℕ) (r : Bool) → r ≡ pointwise eqb v w → v ≡ u → r ≡ same w u
eq_same w v u r e f = sym (same_from v w r (slice_eq-Decides Decides-eqb v w r e)) ∙ ap (same w) f

-- the first of some places at whose word it is the same is its rank
pub rank_first : (f : ℕ → List ℕ) (w : List ℕ) (ps : List ℕ) →
    cond (ltb (position_or_len (λ s. same w (f s)) ps) (length ps)) (Some (position_or_len (λ s. same w (f s)) ps)) None ≡ rank (map f ps) w
rank_first f w [] = refl
rank_first f w (p ∷ ps) = go (same w (f p)) (rank_first f w ps)
  where
    n : ℕ
    n = position_or_len (λ s. same w (f s)) ps

    move : (b : Bool) → cond b (Some (suc n)) None ≡ option_map suc (cond b (Some n) None)
    move true = refl
    move false = refl

    go : (b : Bool) → cond (ltb n (length ps)) (Some n) None ≡ rank (map f ps) w →
        cond (ltb (cond (not b) (1 + n) 0) (suc (length ps))) (Some (cond (not b) (1 + n) 0)) None ≡ cond b (Some 0) (option_map suc (rank (map f ps) w))
    go true e = cond-true (ltb 0 (suc (length ps))) _ _ (le-leb 1 (suc (length ps)) (omega arith))
    go false e =
        let one : 1 + n ≡ suc n = omega arith in
        subst (λ (k : ℕ). cond (ltb k (suc (length ps))) (Some k) None ≡ option_map suc (rank (map f ps) w)) (sym one)
        (rw compare.suc-suc (move (ltb n (length ps)) ∙ ap (option_map suc) e))

-- a word is among some exactly if it has a rank there
pub among_rank : (ns : List (List ℕ)) (w : List ℕ) → one_of ns w ≡ is_some (rank ns w)
among_rank [] w = refl
among_rank (n ∷ ns) w = go (same w n) (among_rank ns w)
  where
    kept : (o : Option ℕ) → is_some o ≡ is_some (option_map suc o)
    kept None = refl
    kept (Some k) = refl

    go : (b : Bool) → one_of ns w ≡ is_some (rank ns w) → (b || one_of ns w) ≡ is_some (cond b (Some 0) (option_map suc (rank ns w)))
    go true e = refl
    go false e = e ∙ kept (rank ns w)
