-- The format: a model in bytes, low byte first. Numbers of things have no sign; all others have one, in two's complement.
use Rattle.std.specs.Prelude.{ℕ, zero, suc, ◌/◌, ◌%◌, List, [], ◌∷◌, ◌++◌, length, ℤ}
use Rattle.std.specs.Int.{Width, w8, w16, w32, w64}
use mir.Val.{bytes}
use Rattle.std.specs.Int.{cast_unsigned}
use Rattle.std.specs.List.{flat_map}
use Rattle.plane.specs.declared.types.Plane.{Plane}
use Rattle.model.specs.Wire.{WirePlace, WirePiece, WireFace, WireModel}

-- the n lowest bytes of a number, the lowest first
abbrev pub low_first : ℕ → ℕ → List ℕ
low_first zero k = []
low_first (suc n) k = (k % 256) ∷ low_first n (k / 256)

-- a number of things
unfoldable pub count_bytes : Width → ℕ → List ℕ
count_bytes w n = low_first (bytes w) n

-- a number with a sign
unfoldable pub signed_bytes : Width → ℤ → List ℕ
signed_bytes w z = low_first (bytes w) (cast_unsigned w z)

-- how many there are, and each
unfoldable pub listed : {X : Type 0} → Width → (X → List ℕ) → List X → List ℕ
listed w f xs = count_bytes w (length xs) ++ flat_map f xs

unfoldable pub plane_bytes : Plane → List ℕ
plane_bytes p = signed_bytes w8 p.a ++ (signed_bytes w8 p.b ++ (signed_bytes w8 p.c ++ signed_bytes w32 p.d))

unfoldable pub place_bytes : WirePlace → List ℕ
place_bytes q = signed_bytes w64 q.x ++ (signed_bytes w64 q.y ++ (signed_bytes w64 q.z ++ signed_bytes w64 q.w))

unfoldable pub piece_bytes : WirePiece → List ℕ
piece_bytes c = listed w16 plane_bytes c.planes ++ place_bytes c.place

unfoldable pub face_bytes : WireFace → List ℕ
face_bytes f = plane_bytes f.plane ++ (listed w16 plane_bytes f.edges ++ (place_bytes f.place ++ listed w16 place_bytes f.corners))

unfoldable pub model_bytes : WireModel → List ℕ
model_bytes m = listed w32 piece_bytes m.pieces ++ listed w32 face_bytes m.faces
