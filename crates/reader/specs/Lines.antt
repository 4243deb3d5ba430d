-- Lines that are taken, as they lie in a text, and the words that they are laid into.
use Rattle.std.specs.Prelude.{◌≡◌, ℕ, true, cond, ◌&&◌, List, [], ◌∷◌, ◌++◌, take, drop, ℤ, unsigned_abs}
use Rattle.std.specs.Int.{w64, cast_unsigned}
use Rattle.solid.specs.Shapes.{box as box_of}
use Rattle.solid.specs.Steps.{words}
use Rattle.grammar.specs.Grammar.{Name, box, part, place, same}
use Rattle.grammar.specs.Tokens.{code_l}
use Rattle.grammar.specs.Meaning.{short, scales, fine_shape}

-- words begin with a part's line that is taken
pub record PartAt (ws : List (List ℕ)) : Type 0 where
  pub name : Name
  pub x0 : ℤ
  pub x1 : ℤ
  pub y0 : ℤ
  pub y1 : ℤ
  pub z0 : ℤ
  pub z1 : ℤ
  pub behind : List (List ℕ)
  pub read : ws ≡ code_l (part name (box x0 x1 y0 y1 z0 z1)) behind
  pub sound : fine_shape (box x0 x1 y0 y1 z0 z1) ≡ true

-- the steps of its part
abbrev pub steps_at : {ws : List (List ℕ)} → PartAt ws → List ℕ
steps_at p = words (box_of p.x0 p.x1 p.y0 p.y1 p.z0 p.z1)

-- the two words that belong to a name, where each of some names has two
abbrev pub pair_of : List (List ℕ) → List ℕ → List ℕ → List ℕ
pair_of [] pairs w = 0 ∷ 0 ∷ []
pair_of (n ∷ ns) pairs w = cond (same w n) (take 2 pairs) (pair_of ns (drop 2 pairs) w)

-- words begin with a question about a place that is taken
pub record PlaceAt (ws : List (List ℕ)) : Type 0 where
  pub name : Name
  pub x : ℤ
  pub y : ℤ
  pub z : ℤ
  pub w : ℤ
  pub behind : List (List ℕ)
  pub read : ws ≡ code_l (place name x y z w) behind
  pub sound : (short x && (short y && (short z && scales w))) ≡ true

-- the words of its question
abbrev pub question_at : {ws : List (List ℕ)} → List (List ℕ) → List ℕ → PlaceAt ws → List ℕ
question_at names spots p = pair_of names spots p.name.0 ++ (cast_unsigned w64 p.x ∷ cast_unsigned w64 p.y ∷ cast_unsigned w64 p.z ∷ unsigned_abs p.w ∷ [])
