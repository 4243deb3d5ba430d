-- How to walk over the bytes of a model: where its parts stand, and that what is read there are they.
use Rattle.std.proofs.Common.{◌≡◌, ℕ, zero, suc, ◌+◌, ◌*◌, ◌<◌, ◌≤◌, List, [], ◌∷◌, ◌++◌, length, get_or, drop, Some, None, Option, sym, refl, ap, ◌∙◌, mul-suc, arith, w16}
use Rattle.std.proofs.lemmas.List.{drop_all}
use Rattle.std.specs.List.{between, flat_map}
use Rattle.model.specs.Wire.{WirePlace, WirePiece, WireFace}
use Rattle.model.specs.Format.{count_bytes, listed, plane_bytes, place_bytes, piece_bytes, face_bytes}
use Rattle.model.specs.Finds.{Decoded, Stands, Found}
use Rattle.model.proofs.Coding.{Code}
use Rattle.model.proofs.Codes.{length-plane_bytes, length-place_bytes, length-listed}
use Rattle.model.proofs.Standing.{Split, stands_split, stands_as}
use Rattle.model.proofs.Finding.{one_thing, listed_stands}

-- what is read is what stands there
pub what_is_read : {X : Type 0} {f : X → List ℕ} {R : X → Type 0} {l : List ℕ} {at end : ℕ} {x r : X} → R x → Stands l at (f x) end → Decoded f R (between at end l) r → r ≡ x
what_is_read {x = x} h s d = sym (d.only x h s.are)

-- where what stands there ends is what is found
pub what_is_found : {X : Type 0} {f : X → List ℕ} {R : X → Type 0} {n : ℕ} → Code f R n → {l : List ℕ} {at end : ℕ} {x : X} → R x → Stands l at (f x) end → (r : Option ℕ) → Found f R l at r → r ≡ Some end
what_is_found k {x = x} h s None p = absurd (p x _ h s)
what_is_found k h s (Some e) p = ap Some (one_thing k p.1 h p.2 s).end

-- behind the last
pub none_left : {X : Type 0} (f : X → List ℕ) (xs : List X) (i : ℕ) {l : List ℕ} {at end : ℕ} → length xs ≤ i → Stands l at (flat_map f (drop i xs)) end → at ≡ end
none_left f xs i {at = at} {end = end} h s =
    let e : at + 0 ≡ end = (stands_as refl (ap (flat_map f) (drop_all i xs h)) refl s).long in
    omega arith

-- the i-th of a list of things of k bytes each
pub each_of : {X : Type 0} (f : X → List ℕ) (k : ℕ) → ((x : X) → length (f x) ≡ k) → (xs : List X) {l : List ℕ} {at end : ℕ} → Stands l at (flat_map f xs) end →
    (i : ℕ) (d : X) → i < length xs → Stands l (at + k * i) (f (get_or xs i d)) (at + k * i + k)
each_of f k long [] s i d h = absurd (omega arith)
each_of f k long (x ∷ xs) {at = at} s zero d h =
    let e : length (f x) ≡ k = long x in
    let a : at ≡ at + k * 0 = omega arith in
    let b : at + length (f x) ≡ at + k * 0 + k = omega arith in
    stands_as a refl b (stands_split (f x) (flat_map f xs) s).first
each_of f k long (x ∷ xs) {at = at} s (suc i) d h =
    let e : length (f x) ≡ k = long x in
    let m : k * suc i ≡ k * i + k = mul-suc k i in
    let a : at + length (f x) + k * i ≡ at + k * suc i = omega arith in
    stands_as a refl (ap (λ (n : ℕ). n + k) a) (each_of f k long xs (stands_split (f x) (flat_map f xs) s).second i d (omega arith))

-- the parts of a list of things of k bytes each: its number, its things, and where it ends
pub record Of-size {X : Type 0} (f : X → List ℕ) (k : ℕ) (l : List ℕ) (at : ℕ) (xs : List X) (end : ℕ) : Type 0 where
  pub number : Stands l at (count_bytes w16 (length xs)) (at + 2)
  pub each : (i : ℕ) (d : X) → i < length xs → Stands l (at + 2 + k * i) (f (get_or xs i d)) (at + 2 + k * i + k)
  pub ends : at + 2 + k * length xs ≡ end

of_size : {X : Type 0} (f : X → List ℕ) (k : ℕ) → ((x : X) → length (f x) ≡ k) → (xs : List X) {l : List ℕ} {at end : ℕ} → Stands l at (listed w16 f xs) end → Of-size f k l at xs end
of_size f k long xs {at = at} {end = end} s =
    let u = listed_stands w16 f xs s in
    let n : length (listed w16 f xs) ≡ 2 + k * length xs = length-listed w16 f k long xs in
    let e : at + length (listed w16 f xs) ≡ end = s.long in
    record { number = u.number; each = each_of f k long xs u.things; ends = omega arith }

-- where the place of a piece stands, which stands at `at`, and the place and the corners of a face
abbrev pub piece_place : ℕ → WirePiece → ℕ
piece_place at c = at + 2 + 7 * length c.planes

abbrev pub face_place : ℕ → WireFace → ℕ
face_place at f = at + 7 + 2 + 7 * length f.edges

abbrev pub face_corners : ℕ → WireFace → ℕ
face_corners at f = face_place at f + 32

-- the parts of a piece
pub record PieceParts (l : List ℕ) (at : ℕ) (c : WirePiece) (end : ℕ) : Type 0 where
  pub planes : Of-size plane_bytes 7 l at c.planes (piece_place at c)
  pub place : Stands l (piece_place at c) (place_bytes c.place) (piece_place at c + 32)
  pub ends : piece_place at c + 32 ≡ end

-- the second of two, if it is known where the first ends
behind : {l : List ℕ} {a c : ℕ} (bs cs : List ℕ) {b : ℕ} → b ≡ a + length bs → Split l a bs cs c → Stands l b cs c
behind bs cs e u = stands_as (sym e) refl refl u.second

-- a place that ends there
place_ends : {l : List ℕ} {at end : ℕ} (q : WirePlace) → Stands l at (place_bytes q) end → at + 32 ≡ end
place_ends {at = at} q s = ap (λ (n : ℕ). at + n) (sym (length-place_bytes q)) ∙ s.long

pub piece_parts : {l : List ℕ} {at end : ℕ} (c : WirePiece) → Stands l at (piece_bytes c) end → PieceParts l at c end
unfolding piece_bytes
piece_parts {l} {at} {end} c s =
    let u = stands_split (listed w16 plane_bytes c.planes) (place_bytes c.place) s in
    let p = of_size plane_bytes 7 length-plane_bytes c.planes u.first in
    let q = behind (listed w16 plane_bytes c.planes) (place_bytes c.place) p.ends u in
    let e = place_ends c.place q in
    record { planes = record { number = p.number; each = p.each; ends = refl }; place = stands_as refl refl (sym e) q; ends = e }

-- the parts of a face
pub record FaceParts (l : List ℕ) (at : ℕ) (f : WireFace) (end : ℕ) : Type 0 where
  pub plane : Stands l at (plane_bytes f.plane) (at + 7)
  pub edges : Of-size plane_bytes 7 l (at + 7) f.edges (face_place at f)
  pub place : Stands l (face_place at f) (place_bytes f.place) (face_place at f + 32)
  pub corners : Of-size place_bytes 32 l (face_corners at f) f.corners end

pub face_parts : {l : List ℕ} {at end : ℕ} (f : WireFace) → Stands l at (face_bytes f) end → FaceParts l at f end
unfolding face_bytes
face_parts {l} {at} {end} f s =
    let es = listed w16 plane_bytes f.edges in
    let q = place_bytes f.place in
    let vs = listed w16 place_bytes f.corners in
    let u = stands_split (plane_bytes f.plane) (es ++ (q ++ vs)) s in
    let e : at + 7 ≡ at + length (plane_bytes f.plane) = ap (λ (n : ℕ). at + n) (sym (length-plane_bytes f.plane)) in
    let v = stands_split es (q ++ vs) (behind (plane_bytes f.plane) (es ++ (q ++ vs)) e u) in
    let p = of_size plane_bytes 7 length-plane_bytes f.edges v.first in
    let w = stands_split q vs (behind es (q ++ vs) p.ends v) in
    let z = place_ends f.place w.first in
    record {
      plane = stands_as refl refl (sym e) u.first;
      edges = record { number = p.number; each = p.each; ends = refl };
      place = stands_as refl refl (sym z) w.first;
      corners = of_size place_bytes 32 length-place_bytes f.corners (behind q vs z w);
    }
