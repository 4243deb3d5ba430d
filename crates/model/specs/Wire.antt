-- What stands in the bytes of a model: pieces and faces as a solid's, but with any numbers that fit their bytes.
use Rattle.std.specs.Prelude.{◌^◌, ◌<◌, List, map, length, pos, FitsSigned, unsigned_abs}
use Rattle.std.specs.Int.{w8, w32, w64}
use Rattle.std.specs.List.{AllByRecursion}
use Rattle.plane.specs.declared.types.Plane.{Plane}
use Rattle.plane.specs.declared.types.Place.{Place}
use Rattle.solid.specs.Models.{Piece, Face, Model}
use Rattle.model.specs.declared.types.RawPlace.{RawPlace}

-- a place: its w has a sign too
abbrev pub WirePlace : Type 0
WirePlace = RawPlace

pub record WirePiece : Type 0 where
  pub planes : List Plane
  pub place : WirePlace

pub record WireFace : Type 0 where
  pub plane : Plane
  pub edges : List Plane
  pub place : WirePlace
  pub corners : List WirePlace

pub record WireModel : Type 0 where
  pub pieces : List WirePiece
  pub faces : List WireFace

-- what can be written: each number fits its bytes
pub record InRangePlane (p : Plane) : Type 0 where
  pub a : FitsSigned w8 p.a
  pub b : FitsSigned w8 p.b
  pub c : FitsSigned w8 p.c
  pub d : FitsSigned w32 p.d

pub record InRangePlace (q : WirePlace) : Type 0 where
  pub x : FitsSigned w64 q.x
  pub y : FitsSigned w64 q.y
  pub z : FitsSigned w64 q.z
  pub w : FitsSigned w64 q.w

pub record InRangePiece (c : WirePiece) : Type 0 where
  pub few : length c.planes < 2 ^ 16
  pub planes : AllByRecursion InRangePlane c.planes
  pub place : InRangePlace c.place

pub record InRangeFace (f : WireFace) : Type 0 where
  pub plane : InRangePlane f.plane
  pub few_edges : length f.edges < 2 ^ 16
  pub edges : AllByRecursion InRangePlane f.edges
  pub place : InRangePlace f.place
  pub few_corners : length f.corners < 2 ^ 16
  pub corners : AllByRecursion InRangePlace f.corners

pub record InRange (m : WireModel) : Type 0 where
  pub few_pieces : length m.pieces < 2 ^ 32
  pub pieces : AllByRecursion InRangePiece m.pieces
  pub few_faces : length m.faces < 2 ^ 32
  pub faces : AllByRecursion InRangeFace m.faces

-- a solid's model as it is written
abbrev pub wire_place : Place → WirePlace
wire_place q = record { x = q.x; y = q.y; z = q.z; w = pos q.w }

abbrev pub wire_piece : Piece → WirePiece
wire_piece c = record { planes = c.planes; place = wire_place c.place }

abbrev pub wire_face : Face → WireFace
wire_face f = record { plane = f.plane; edges = f.edges; place = wire_place f.place; corners = map wire_place f.corners }

abbrev pub wire : Model → WireModel
wire m = record { pieces = map wire_piece m.pieces; faces = map wire_face m.faces }

-- and back: w without its sign
abbrev pub unwire_place : WirePlace → Place
unwire_place q = record { x = q.x; y = q.y; z = q.z; w = unsigned_abs q.w }

abbrev pub unwire_piece : WirePiece → Piece
unwire_piece c = record { planes = c.planes; place = unwire_place c.place }

abbrev pub unwire_face : WireFace → Face
unwire_face f = record { plane = f.plane; edges = f.edges; place = unwire_place f.place; corners = map unwire_place f.corners }

abbrev pub unwire : WireModel → Model
unwire m = record { pieces = map unwire_piece m.pieces; faces = map unwire_face m.faces }
