-- The things of a model as they are written: parts one behind the other.
use Rattle.std.proofs.Common.{ℕ, ◌+◌, ◌*◌, ◌^◌, refl, w8, w16, w32, w64, SFits}
use Rattle.model.specs.Wire.{InRangePlane, InRangePlace, InRangePiece, InRangeFace, InRange}
use Rattle.model.specs.Format.{signed_bytes, listed, plane_bytes, place_bytes, piece_bytes, face_bytes, model_bytes}
use Rattle.model.specs.Finds.{Few}
use Rattle.model.proofs.Coding.{Code, As, both, Both, code_as, code_signed, code_both, code_listed}

plane_as : As (both (signed_bytes w8) (both (signed_bytes w8) (both (signed_bytes w8) (signed_bytes w32)))) (Both (SFits w8) (Both (SFits w8) (Both (SFits w8) (SFits w32)))) plane_bytes InRangePlane
unfolding plane_bytes
plane_as =
    record {
      to = λ p. (p.a, (p.b, (p.c, p.d)));
      back = λ t. record { a = t.0; b = t.1.0; c = t.1.1.0; d = t.1.1.1 };
      are = λ p. refl;
      into = λ p h. (h.a, (h.b, (h.c, h.d)));
      out = λ t h. record { a = h.0; b = h.1.0; c = h.1.1.0; d = h.1.1.1 };
      again = λ p h. refl;
      over = λ t h. refl;
    }

pub plane_code : Code plane_bytes InRangePlane 7
plane_code = code_as plane_as (code_both (code_signed w8) (code_both (code_signed w8) (code_both (code_signed w8) (code_signed w32))))

place_as : As (both (signed_bytes w64) (both (signed_bytes w64) (both (signed_bytes w64) (signed_bytes w64)))) (Both (SFits w64) (Both (SFits w64) (Both (SFits w64) (SFits w64)))) place_bytes InRangePlace
unfolding place_bytes
place_as =
    record {
      to = λ q. (q.x, (q.y, (q.z, q.w)));
      back = λ t. record { x = t.0; y = t.1.0; z = t.1.1.0; w = t.1.1.1 };
      are = λ q. refl;
      into = λ q h. (h.x, (h.y, (h.z, h.w)));
      out = λ t h. record { x = h.0; y = h.1.0; z = h.1.1.0; w = h.1.1.1 };
      again = λ q h. refl;
      over = λ t h. refl;
    }

pub place_code : Code place_bytes InRangePlace 32
place_code = code_as place_as (code_both (code_signed w64) (code_both (code_signed w64) (code_both (code_signed w64) (code_signed w64))))

-- the most bytes that a piece, a face and a model can have
abbrev pub piece_most : ℕ
piece_most = (2 + 7 * 2 ^ 16) + 32

abbrev pub face_most : ℕ
face_most = 7 + ((2 + 7 * 2 ^ 16) + (32 + (2 + 32 * 2 ^ 16)))

abbrev pub model_most : ℕ
model_most = (4 + piece_most * 2 ^ 32) + (4 + face_most * 2 ^ 32)

pub piece_as : As (both (listed w16 plane_bytes) place_bytes) (Both (Few InRangePlane w16) InRangePlace) piece_bytes InRangePiece
unfolding piece_bytes
piece_as =
    record {
      to = λ c. (c.planes, c.place);
      back = λ t. record { planes = t.0; place = t.1 };
      are = λ c. refl;
      into = λ c h. ((h.few, h.planes), h.place);
      out = λ t h. record { few = h.0.0; planes = h.0.1; place = h.1 };
      again = λ c h. refl;
      over = λ t h. refl;
    }

pub piece_code : Code piece_bytes InRangePiece piece_most
piece_code = code_as piece_as (code_both (code_listed plane_code w16) place_code)

pub face_as : As (both plane_bytes (both (listed w16 plane_bytes) (both place_bytes (listed w16 place_bytes))))
    (Both InRangePlane (Both (Few InRangePlane w16) (Both InRangePlace (Few InRangePlace w16)))) face_bytes InRangeFace
unfolding face_bytes
face_as =
    record {
      to = λ f. (f.plane, (f.edges, (f.place, f.corners)));
      back = λ t. record { plane = t.0; edges = t.1.0; place = t.1.1.0; corners = t.1.1.1 };
      are = λ f. refl;
      into = λ f h. (h.plane, ((h.few_edges, h.edges), (h.place, (h.few_corners, h.corners))));
      out = λ t h. record { plane = h.0; few_edges = h.1.0.0; edges = h.1.0.1; place = h.1.1.0; few_corners = h.1.1.1.0; corners = h.1.1.1.1 };
      again = λ f h. refl;
      over = λ t h. refl;
    }

pub face_code : Code face_bytes InRangeFace face_most
face_code = code_as face_as (code_both plane_code (code_both (code_listed plane_code w16) (code_both place_code (code_listed place_code w16))))

pub model_as : As (both (listed w32 piece_bytes) (listed w32 face_bytes)) (Both (Few InRangePiece w32) (Few InRangeFace w32)) model_bytes InRange
unfolding model_bytes
model_as =
    record {
      to = λ m. (m.pieces, m.faces);
      back = λ t. record { pieces = t.0; faces = t.1 };
      are = λ m. refl;
      into = λ m h. ((h.few_pieces, h.pieces), (h.few_faces, h.faces));
      out = λ t h. record { few_pieces = h.0.0; pieces = h.0.1; few_faces = h.1.0; faces = h.1.1 };
      again = λ m h. refl;
      over = λ t h. refl;
    }

pub model_code : Code model_bytes InRange model_most
model_code = code_as model_as (code_both (code_listed piece_code w32) (code_listed face_code w32))
