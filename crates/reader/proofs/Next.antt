-- Lines that are taken.
--     part_sound, place_sound           what holds of a part's line, and of a place's
--     next, next_part, next_place       which of the two comes next
use Rattle.std.proofs.Common.{◌≡◌, ℕ, true, false, not, ◌&&◌, ltb, List, [], ◌∷◌, ◌++◌, length, ℤ, codes, refl, subst, arith}
use Rattle.std.proofs.lemmas.Bool.{and_parts, and_from, both_ways}
use Rattle.grammar.specs.Grammar.{Expr, half, box, two, move, one, called, Name, Line, part, place, same_as, meet, model, same, one_of}
use Rattle.grammar.specs.Tokens.{code_of}
use Rattle.grammar.specs.Faults.{most_parts}
use Rattle.grammar.specs.Meaning.{short, scales, fine_shape, fine}

-- what holds of a line that is taken
pub part_sound : (ns : List (List ℕ)) (n : Name) (e : Expr) (ls : List Line) → fine ns (part n e ∷ ls) ≡ true → (fine_shape e ≡ true) × (fine (ns ++ n.0 ∷ []) ls ≡ true)
part_sound ns n e ls h = and_parts (fine_shape e) _ (and_parts (not (one_of ns n.0)) _ (and_parts (ltb (length ns) most_parts) _ h).1).1

pub record Sound (ns : List (List ℕ)) (n : Name) (x y z w : ℤ) (ls : List Line) : Type 0 where
  pub known : one_of ns n.0 ≡ true
  pub numbers : (short x && (short y && (short z && scales w))) ≡ true
  pub later : fine ns ls ≡ true

pub place_sound : (ns : List (List ℕ)) (n : Name) (x y z w : ℤ) (ls : List Line) → fine ns (place n x y z w ∷ ls) ≡ true → Sound ns n x y z w ls
place_sound ns n x y z w ls h =
    let k = and_parts (one_of ns n.0) _ h in
    let a = and_parts (short x) _ k.1 in
    let b = and_parts (short y) _ a.1 in
    let c = and_parts (short z) _ b.1 in
    let d = and_parts (scales w) (fine ns ls) c.1 in
    record { known = k.0; numbers = and_from (short x) _ a.0 (and_from (short y) _ b.0 (and_from (short z) (scales w) c.0 d.0)); later = d.1 }

-- the line that comes next
pub record PartNext (left : List Line) : Type 0 where
  pub name : Name
  pub x0 : ℤ
  pub x1 : ℤ
  pub y0 : ℤ
  pub y1 : ℤ
  pub z0 : ℤ
  pub z1 : ℤ
  pub more : List Line
  pub is : left ≡ part name (box x0 x1 y0 y1 z0 z1) ∷ more

pub record PlaceNext (left : List Line) : Type 0 where
  pub name : Name
  pub x : ℤ
  pub y : ℤ
  pub z : ℤ
  pub w : ℤ
  pub more : List Line
  pub is : left ≡ place name x y z w ∷ more

pub data Next (left : List Line) (w : List ℕ) : Type 0 where
  a_part : w ≡ codes "part" → PartNext left → Next left w
  a_place : w ≡ codes "place" → PlaceNext left → Next left w

pub next : (ns : List (List ℕ)) (ls : List Line) (w : List ℕ) (ws : List (List ℕ)) → fine ns ls ≡ true → w ∷ ws ≡ code_of ls → Next ls w
next ns [] w ws h e = let z : ◌≡◌ {A = ℕ} 0 1 = cc in absurd (omega arith)
next ns (part n (half a b c d) ∷ ls) w ws h e = absurd (both_ways false refl (part_sound ns n (half a b c d) ls h).0)
next ns (part n (box a b c d f g) ∷ ls) w ws h e =
    a_part (cc) (record { name = n; x0 = a; x1 = b; y0 = c; y1 = d; z0 = f; z1 = g; more = ls; is = refl })
next ns (part n (two o a b) ∷ ls) w ws h e = absurd (both_ways false refl (part_sound ns n (two o a b) ls h).0)
next ns (part n (move x y z a) ∷ ls) w ws h e = absurd (both_ways false refl (part_sound ns n (move x y z a) ls h).0)
next ns (part n (one o a) ∷ ls) w ws h e = absurd (both_ways false refl (part_sound ns n (one o a) ls h).0)
next ns (part n (called m) ∷ ls) w ws h e = absurd (both_ways false refl (part_sound ns n (called m) ls h).0)
next ns (place n x y z s ∷ ls) w ws h e = a_place (cc) (record { name = n; x = x; y = y; z = z; w = s; more = ls; is = refl })
next ns (same_as n m ∷ ls) w ws h e = absurd (both_ways false refl h)
next ns (meet n m ∷ ls) w ws h e = absurd (both_ways false refl h)
next ns (model n ∷ ls) w ws h e = absurd (both_ways false refl h)

pub next_part : (ls : List Line) (w : List ℕ) → Next ls w → same (codes "part") w ≡ true → PartNext ls
next_part ls w (a_part e p) s = p
next_part ls w (a_place e p) s = absurd (both_ways false refl (subst (λ (v : List ℕ). same (codes "part") v ≡ true) e s))

pub next_place : (ls : List Line) (w : List ℕ) → Next ls w → same (codes "part") w ≡ false → PlaceNext ls
next_place ls w (a_part e p) s = absurd (both_ways true (subst (λ (v : List ℕ). same (codes "part") v ≡ false) e s) refl)
next_place ls w (a_place e p) s = p
