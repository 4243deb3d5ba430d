-- Where the steps of each part lie, and how a part is found by its name.
--     steps_push, spots_push      the steps and the spots with one more part
--     spot_pair                   a part's spot is the pair of its name
use Rattle.std.proofs.Common.{◌≡◌, ℕ, ◌+◌, ◌*◌, Bool, true, false, cond, List, [], ◌∷◌, ◌++◌, map, length, sym, refl, ap, ◌∙◌, append_assoc, append-nil, arith}
use Rattle.std.specs.List.{flat_map}
use Rattle.std.proofs.lemmas.List.{length-append}
use Rattle.solid.specs.Steps.{words}
use Rattle.grammar.specs.Grammar.{same}
use Rattle.grammar.specs.Meaning.{Part}
use Rattle.reader.specs.Layout.{spot}
use Rattle.reader.specs.Lines.{pair_of}

abbrev pub names_of : List Part → List (List ℕ)
names_of ps = map (λ p. p.name) ps

-- the steps of some parts
abbrev pub steps_of : List Part → List ℕ
steps_of ps = flat_map (λ p. words p.shape) ps

-- where the steps of each part begin, and how many they are
abbrev pub spots_of : ℕ → List Part → List ℕ
spots_of u [] = []
spots_of u (p ∷ ps) = u ∷ length (words p.shape) ∷ spots_of (u + length (words p.shape)) ps

-- one more part
pub steps_push : (ps : List Part) (p : Part) → steps_of (ps ++ p ∷ []) ≡ steps_of ps ++ words p.shape
steps_push [] p = append-nil (words p.shape)
steps_push (q ∷ ps) p = ap (λ (l : List ℕ). words q.shape ++ l) (steps_push ps p) ∙ sym (append_assoc (words q.shape) (steps_of ps) (words p.shape))

pub spots_push : (u : ℕ) (ps : List Part) (p : Part) → spots_of u (ps ++ p ∷ []) ≡ spots_of u ps ++ (u + length (steps_of ps)) ∷ length (words p.shape) ∷ []
spots_push u [] p = let e : u ≡ u + 0 = omega arith in ap (λ (m : ℕ). m ∷ length (words p.shape) ∷ []) e
spots_push u (q ∷ ps) p =
    let n = length (words q.shape) in
    let e : u + n + length (steps_of ps) ≡ u + length (words q.shape ++ steps_of ps) = simp length-append (omega arith) in
    ap (λ (l : List ℕ). u ∷ n ∷ l) (spots_push (u + n) ps p ∙ ap (λ (m : ℕ). spots_of (u + n) ps ++ m ∷ length (words p.shape) ∷ []) e)

pub spots_length : (u : ℕ) (ps : List Part) → length (spots_of u ps) ≡ 2 * length ps
spots_length u [] = refl
spots_length u (p ∷ ps) = omega (arith, spots_length (u + length (words p.shape)) ps)

pub spot_length : (u : ℕ) (ps : List Part) (w : List ℕ) → length (spot u ps w) ≡ 2
spot_length u [] w = refl
spot_length u (p ∷ ps) w = go (same w p.name) (spot_length (u + length (words p.shape)) ps w)
  where
    go : (b : Bool) → length (spot (u + length (words p.shape)) ps w) ≡ 2 → length (cond b (u ∷ length (words p.shape) ∷ []) (spot (u + length (words p.shape)) ps w)) ≡ 2
    go true e = refl
    go false e = e

-- the spot of a part, by its name
pub spot_pair : (u : ℕ) (ps : List Part) (w : List ℕ) → pair_of (names_of ps) (spots_of u ps) w ≡ spot u ps w
spot_pair u [] w = refl
spot_pair u (p ∷ ps) w = ap (cond (same w p.name) (u ∷ length (words p.shape) ∷ [])) (spot_pair (u + length (words p.shape)) ps w)
