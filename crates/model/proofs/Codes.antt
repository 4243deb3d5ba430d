-- Numbers as they are written in the bytes of a model, and read again.
use Rattle.std.proofs.Common.{sym, ◌≡◌, ℕ, suc, ◌+◌, ◌*◌, ◌^◌, ◌<◌, ◌≤◌, T, leb, List, [], ◌∷◌, map, length, ℤ, refl, ap, ◌∙◌, ap₂, mul-suc, arith, leb→le, length-append, to_z-of_z, w64, SFits, to_z, of_z}
use lib.Signed.{mag}
use mir.Syntax.{Width}
use mir.Val.{bytes, hbits}
use Rattle.std.specs.Int.{to_le_bytes}
use Rattle.std.specs.List.{flat_map, AllByRecursion}
use Rattle.plane.specs.declared.types.Place.{Place}
use Rattle.plane.specs.declared.types.Plane.{Plane}
use Rattle.model.specs.Wire.{WirePlace, wire_place, InRangePlace}
use Rattle.model.specs.Format.{listed, signed_bytes, plane_bytes, place_bytes, count_bytes}
use Rattle.model.proofs.Digits.{length-low_first, le_bytes}

pub length-signed_bytes : (w : Width) (z : ℤ) → length (signed_bytes w z) ≡ bytes w
unfolding signed_bytes
length-signed_bytes w z = length-low_first (bytes w) (of_z w z)

pub length_count : (w : Width) (n : ℕ) → length (count_bytes w n) ≡ bytes w
unfolding count_bytes
length_count w n = length-low_first (bytes w) n

pub length-plane_bytes : (p : Plane) → length (plane_bytes p) ≡ 7
unfolding plane_bytes signed_bytes
length-plane_bytes p = refl

pub length-place_bytes : (q : WirePlace) → length (place_bytes q) ≡ 32
unfolding place_bytes signed_bytes
length-place_bytes q = refl

pub length-flat_map : {X : Type 0} (f : X → List ℕ) (k : ℕ) → ((x : X) → length (f x) ≡ k) → (xs : List X) → length (flat_map f xs) ≡ k * length xs
length-flat_map f k h [] = omega arith
length-flat_map f k h (x ∷ xs) =
    length-append (f x) (flat_map f xs) ∙ ap (λ (n : ℕ). n + length (flat_map f xs)) (h x) ∙ ap (λ (n : ℕ). k + n) (length-flat_map f k h xs) ∙ one_more (length xs)
  where
    one_more : (n : ℕ) → k + k * n ≡ k * suc n
    one_more n = omega (arith, mul-suc k n)

pub length-listed : {X : Type 0} (w : Width) (f : X → List ℕ) (k : ℕ) → ((x : X) → length (f x) ≡ k) → (xs : List X) → length (listed w f xs) ≡ bytes w + k * length xs
unfolding listed
length-listed w f k h xs = length-append (count_bytes w (length xs)) (flat_map f xs) ∙ ap₂ (λ (m n : ℕ). m + n) (length_count w (length xs)) (length-flat_map f k h xs)

-- places that can be written
pub w_small : (qs : List Place) → AllByRecursion InRangePlace (map wire_place qs) → AllByRecursion (λ (q : Place). q.w < 2 ^ 63) qs
w_small [] h = tt
w_small (q ∷ qs) h = (h.0.w.sfits, w_small qs h.1)

-- what fits fewer bits fits 64
pub fits_64 : {w : Width} {z : ℤ} → SFits w z → T (leb (2 ^ hbits w) (2 ^ 63)) → SFits w64 z
fits_64 {w} {z} s t = let h : mag z < 2 ^ hbits w = s.sfits in let k : 2 ^ hbits w ≤ 2 ^ 63 = leb→le (2 ^ hbits w) (2 ^ 63) t in record { sfits = omega arith }

-- a number cast down from 64 bits
pub narrowed : (w : Width) {z : ℤ} → SFits w z → T (leb (2 ^ hbits w) (2 ^ 63)) → to_z w (of_z w (to_z w64 (of_z w64 z))) ≡ z
narrowed w s t = ap (λ (x : ℤ). to_z w (of_z w x)) (to_z-of_z (fits_64 s t)) ∙ to_z-of_z s

-- numbers as the library writes them
pub count_written : (w : Width) (n : ℕ) → count_bytes w n ≡ to_le_bytes w n
unfolding count_bytes
count_written w n = sym (le_bytes w n)

pub signed_written : (w : Width) {z : ℤ} → SFits w z → signed_bytes w z ≡ to_le_bytes w (of_z w (to_z w (of_z w z)))
unfolding signed_bytes
signed_written w {z} s = sym (le_bytes w (of_z w z)) ∙ ap (λ (x : ℤ). to_le_bytes w (of_z w x)) (sym (to_z-of_z s))
