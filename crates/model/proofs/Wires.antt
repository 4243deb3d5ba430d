-- A solid's model and what of it stands in the bytes.
use Rattle.std.proofs.Common.{◌≡◌, ℕ, ◌^◌, ◌<◌, ◌≤◌, List, [], ◌∷◌, ◌++◌, map, ℤ, pos, nat_abs, ◌≤ℤ◌, sym, refl, ap, ◌∙◌, ap₂, arith, w8, w32, SFits}
use Rattle.arith.specs.Bounds.{Short}
use Rattle.arith.proofs.Sized.{short_fits}
use Rattle.std.specs.List.{AllByRecursion}
use Rattle.std.proofs.lemmas.Int.{ints}
use Rattle.plane.specs.declared.types.Place.{Place}
use Rattle.solid.specs.Models.{Piece, Face, Model}
use Rattle.model.specs.Wire.{WirePlace, WirePiece, WireFace, WireModel, wire_place, wire_piece, wire_face, wire, unwire_place, unwire_piece, unwire_face, unwire}
use Rattle.model.specs.Laws.{BegunOnce, MeantOnce, SolidOnce, Writable}
use Rattle.model.proofs.Things.{model_code}

map_back : {X Y : Type 0} (f : X → Y) (g : Y → X) → ((x : X) → g (f x) ≡ x) → (xs : List X) → map g (map f xs) ≡ xs
map_back f g h [] = refl
map_back f g h (x ∷ xs) = ap₂ (λ y ys. y ∷ ys) (h x) (map_back f g h xs)

face_back : (f : Face) → unwire_face (wire_face f) ≡ f
face_back f = ap (λ (vs : List Place). record { plane = f.plane; edges = f.edges; place = f.place; corners = vs }) (map_back wire_place unwire_place (λ q. refl) f.corners)

pub unwire-wire : (m : Model) → unwire (wire m) ≡ m
unwire-wire m =
    ap₂ (λ (cs : List Piece) (fs : List Face). record { pieces = cs; faces = fs }) (map_back wire_piece unwire_piece (λ c. refl) m.pieces) (map_back wire_face unwire_face face_back m.faces)

-- and the other way, where no w is below 0
map_again : {X Y : Type 0} (f : X → Y) (g : Y → X) (P : Y → Type 0) → ((y : Y) → P y → f (g y) ≡ y) → (ys : List Y) → AllByRecursion P ys → map f (map g ys) ≡ ys
map_again f g P h [] a = refl
map_again f g P h (y ∷ ys) a = ap₂ (λ z zs. z ∷ zs) (h y a.0) (map_again f g P h ys a.1)

natural : (z : ℤ) → pos 0 ≤ℤ z → pos (nat_abs z) ≡ z
natural z h = omega (arith, ints)

pub place_again : (q : WirePlace) → pos 0 ≤ℤ q.w → wire_place (unwire_place q) ≡ q
place_again q h = ap (λ (n : ℤ). record { x = q.x; y = q.y; z = q.z; w = n }) (natural q.w h)

pub piece_again : (c : WirePiece) → pos 0 ≤ℤ c.place.w → wire_piece (unwire_piece c) ≡ c
piece_again c h = ap (λ (q : WirePlace). record { planes = c.planes; place = q }) (place_again c.place h)

abbrev pub NaturalFace : WireFace → Type 0
NaturalFace f = (pos 0 ≤ℤ f.place.w) × AllByRecursion (λ (q : WirePlace). pos 0 ≤ℤ q.w) f.corners

pub face_again : (f : WireFace) → NaturalFace f → wire_face (unwire_face f) ≡ f
face_again f h =
    ap₂ (λ (q : WirePlace) (vs : List WirePlace). record { plane = f.plane; edges = f.edges; place = q; corners = vs }) (place_again f.place h.0)
    (map_again wire_place unwire_place (λ (q : WirePlace). pos 0 ≤ℤ q.w) place_again f.corners h.1)

pub wire-unwire : (m : WireModel) → AllByRecursion (λ (c : WirePiece). pos 0 ≤ℤ c.place.w) m.pieces → AllByRecursion NaturalFace m.faces → wire (unwire m) ≡ m
wire-unwire m g h =
    ap₂ (λ (cs : List WirePiece) (fs : List WireFace). record { pieces = cs; faces = fs })
    (map_again wire_piece unwire_piece (λ (c : WirePiece). pos 0 ≤ℤ c.place.w) piece_again m.pieces g) (map_again wire_face unwire_face NaturalFace face_again m.faces h)

pub begun_once : BegunOnce
begun_once = model_code.apart

pub meant_once : MeantOnce
meant_once m n g h e = (model_code.apart m n [] [] g h (ap (λ (a : List ℕ). a ++ []) e)).0

pub solid_once : SolidOnce
solid_once m n g h e = sym (unwire-wire m) ∙ ap unwire (meant_once (wire m) (wire n) g h e) ∙ unwire-wire n

-- what is small fits
slope_fits : (z : ℤ) → Short z 6 → SFits w8 z
slope_fits z s = let h : nat_abs z ≤ 6 = s.size in omega (arith, ints)

offset_fits : (z : ℤ) → Short z 294912 → SFits w32 z
offset_fits z s = let h : nat_abs z ≤ 294912 = s.size in omega (arith, ints)

pub writable : Writable
writable =
    record {
      plane = λ p h. record { a = slope_fits p.a h.a; b = slope_fits p.b h.b; c = slope_fits p.c h.c; d = offset_fits p.d h.d };
      place = λ q h. record { x = short_fits h.x tt; y = short_fits h.y tt; z = short_fits h.z tt; w = record { sfits = small q.w h.w } };
    }
  where
    small : (w : ℕ) → w ≤ 4398046511103 → w < 2 ^ 63
    small w h = omega arith
