-- How far a model reaches in bytes that may be anything.
use Rattle.std.specs.Prelude.{◌≡◌, ℕ, ◌+◌, ◌<◌, List, ◌++◌, length, take, ◌≢◌, Ok, Err, Result}
use Rattle.std.specs.List.{flat_map}
use Rattle.model.specs.declared.types.Layout.{Layout}
use Rattle.model.specs.declared.types.Misfit.{Misfit}
use Rattle.model.specs.declared.types.Misfit.TheVariants.{Short, Long}
use Rattle.model.specs.Wire.{WireModel, InRange}
use Rattle.model.specs.Format.{piece_bytes, face_bytes, model_bytes}
use Rattle.model.specs.Finds.{Decoded, Stands}

-- the parts of a model stand where they are said to
pub record Laid (l : List ℕ) (m : WireModel) (k : Layout) : Type 0 where
  pub pieces : k.pieces ≡ length m.pieces
  pub faces : k.faces ≡ length m.faces
  pub pieces_stand : Stands l 4 (flat_map piece_bytes m.pieces) k.middle
  pub faces_stand : Stands l (k.middle + 4) (flat_map face_bytes m.faces) (length l)

-- bytes are no model and begin with none
abbrev pub NoModel : List ℕ → Type 0
NoModel l = (m : WireModel) (rest : List ℕ) → InRange m → l ≢ model_bytes m ++ rest

-- more bytes behind them make them a model
pub record Unfinished (l : List ℕ) : Type 0 where
  pub more : List ℕ
  pub model : WireModel
  pub range : InRange model
  pub are : l ++ more ≡ model_bytes model

-- what is said of bytes
abbrev pub Measured : List ℕ → Result Layout Misfit → Type 0
Measured l (Ok k) = (m : WireModel) × Decoded model_bytes InRange l m × Laid l m k
Measured l (Err Short) = NoModel l × Unfinished l
Measured l (Err (Long p)) = (p < length l) × ((m : WireModel) × Decoded model_bytes InRange (take p l) m)

-- what was written is found again: of the bytes of a model it is said that they are one, and where its parts stand
abbrev pub ReadAgain : List ℕ → Result Layout Misfit → Type 0
ReadAgain l r = (m : WireModel) → InRange m → l ≡ model_bytes m → (k : Layout) × (r ≡ Ok k) × Laid l m k
