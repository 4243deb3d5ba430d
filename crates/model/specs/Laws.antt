-- What holds of the format as such. Each is a statement; a function of this crate has them in its contract.
use Rattle.std.specs.Prelude.{◌≡◌, ℕ, List, ◌++◌}
use Rattle.plane.specs.declared.types.Plane.{Plane}
use Rattle.plane.specs.declared.types.Place.{Place}
use Rattle.plane.specs.Limits.{FitsPlane, SmallPlace}
use Rattle.solid.specs.Models.{Model}
use Rattle.model.specs.Wire.{WireModel, InRangePlane, InRangePlace, InRange, wire_place, wire}
use Rattle.model.specs.Format.{model_bytes}

-- bytes begin with one model at most
abbrev pub BegunOnce : Type 0
BegunOnce = (m n : WireModel) (r s : List ℕ) → InRange m → InRange n → model_bytes m ++ r ≡ model_bytes n ++ s → (m ≡ n) × (r ≡ s)

-- and are those of one at most, also of one of a solid
abbrev pub MeantOnce : Type 0
MeantOnce = (m n : WireModel) → InRange m → InRange n → model_bytes m ≡ model_bytes n → m ≡ n

abbrev pub SolidOnce : Type 0
SolidOnce = (m n : Model) → InRange (wire m) → InRange (wire n) → model_bytes (wire m) ≡ model_bytes (wire n) → m ≡ n

-- planes and places in range can be written
pub record Writable : Type 0 where
  pub plane : (p : Plane) → FitsPlane p → InRangePlane p
  pub place : (q : Place) → SmallPlace q → InRangePlace (wire_place q)
