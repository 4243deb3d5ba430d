-- Two words for each name.
--     pair_read, pair_whole, pair_written      two words read, all there are, and written
--     written                                  some words written behind others
--     pair_none, pair_some                     the pair of a name, by its rank
use Rattle.std.proofs.Common.{◌≡◌, ℕ, suc, ◌+◌, ◌*◌, ◌<◌, ◌≤◌, Bool, true, false, cond, List, [], ◌∷◌, ◌++◌, length, get_or, take, drop, set, Some, None, Option, sym, refl, ap, ◌∙◌, subst, append_assoc, arith}
use borrow.Rule.Slice.PartMut.{put_mid}
use Rattle.std.specs.Option.{option_map}
use Rattle.std.proofs.lemmas.List.{drop_more, drop-drop, length-set, take_more_set}
use Rattle.std.proofs.lemmas.Slice.{take-put_mid}
use Rattle.grammar.specs.Grammar.{same}
use Rattle.reader.specs.Names.{rank}
use Rattle.reader.specs.Lines.{pair_of}

-- two words read, and written
pub pair_read : (ps : List ℕ) (i : ℕ) → i + 1 < length ps → get_or ps i 0 ∷ get_or ps (i + 1) 0 ∷ [] ≡ take 2 (drop i ps)
pair_read ps i h =
    let a : i < length ps = omega arith in
    sym (ap (take 2) (drop_more ps i 0 a ∙ ap (λ (xs : List ℕ). get_or ps i 0 ∷ xs) (drop_more ps (i + 1) 0 h)))

pub pair_whole : (ps : List ℕ) → length ps ≡ 2 → get_or ps 0 0 ∷ get_or ps 1 0 ∷ [] ≡ ps
pair_whole [] h = absurd (omega arith)
pair_whole (a ∷ []) h = absurd (omega arith)
pair_whole (a ∷ (b ∷ [])) h = refl
pair_whole (a ∷ (b ∷ (d ∷ ps))) h = absurd (omega arith)

pub pair_written : (xs : List ℕ) (i a b : ℕ) → i + 2 ≤ length xs → take (i + 2) (set (set xs i a) (i + 1) b) ≡ take i xs ++ a ∷ b ∷ []
pair_written xs i a b h =
    let n : i + 2 ≡ i + 1 + 1 = omega arith in
    let l : i + 1 < length (set xs i a) = simp length-set (omega arith) in
    ap (λ (m : ℕ). take m (set (set xs i a) (i + 1) b)) n ∙ take_more_set (set xs i a) (i + 1) b l
    ∙ ap (λ (ys : List ℕ). ys ++ b ∷ []) (take_more_set xs i a (omega arith))
    ∙ append_assoc (take i xs) (a ∷ []) (b ∷ [])

-- n words written behind the first a
pub written : (a n k : ℕ) (xs ys zs : List ℕ) → ys ≡ zs → length zs ≡ n → a + n ≤ length xs → take (a + n) (put_mid a k xs ys) ≡ take a xs ++ zs
written a n k xs ys zs e l h = take-put_mid a k xs ys (a + n) (omega (arith, ap length e)) (omega arith) ∙ ap (λ (r : List ℕ). take a xs ++ r) e

-- what the rank of a word says of its pair
abbrev Ranked : Option ℕ → List (List ℕ) → List ℕ → List ℕ → Type 0
Ranked None ns ps r = r ≡ 0 ∷ 0 ∷ []
Ranked (Some j) ns ps r = (j < length ns) × (r ≡ take 2 (drop (2 * j) ps))

ranked : (ns : List (List ℕ)) (ps w : List ℕ) → Ranked (rank ns w) ns ps (pair_of ns ps w)
ranked [] ps w = refl
ranked (n ∷ ns) ps w = go (same w n) (rank ns w) (ranked ns (drop 2 ps) w)
  where
    go : (b : Bool) (o : Option ℕ) → Ranked o ns (drop 2 ps) (pair_of ns (drop 2 ps) w) →
        Ranked (cond b (Some 0) (option_map suc o)) (n ∷ ns) ps (cond b (take 2 ps) (pair_of ns (drop 2 ps) w))
    go true o h = (omega arith, refl)
    go false None h = h
    go false (Some j) h =
        let e : 2 + 2 * j ≡ 2 * suc j = omega arith in
        (omega (arith, h.0), h.1 ∙ ap (take 2) (drop-drop (2 * j) 2 ps ∙ ap (λ (m : ℕ). drop m ps) e))

pub pair_none : (ns : List (List ℕ)) (ps w : List ℕ) → None ≡ rank ns w → 0 ∷ 0 ∷ [] ≡ pair_of ns ps w
pair_none ns ps w e = sym (subst (λ (o : Option ℕ). Ranked o ns ps (pair_of ns ps w)) (sym e) (ranked ns ps w))

pub pair_some : (ns : List (List ℕ)) (ps w : List ℕ) (j : ℕ) → Some j ≡ rank ns w → (j < length ns) × (pair_of ns ps w ≡ take 2 (drop (2 * j) ps))
pair_some ns ps w j e = subst (λ (o : Option ℕ). Ranked o ns ps (pair_of ns ps w)) (sym e) (ranked ns ps w)
