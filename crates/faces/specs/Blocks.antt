-- Blocks: what of a box lies in the workshop, and the model of that.
use Rattle.std.specs.Prelude.{Bool, cond, ◌&&◌, List, [], ◌∷◌, map, ℤ, pos, ◌+ℤ◌, neg_ℤ, ◌≤ℤ◌, ◌<ℤ◌, Some, None, Option, int_lt}
use Rattle.std.specs.Int.{int_max, int_min}
use Rattle.std.specs.List.{AllByRecursion}
use Rattle.plane.specs.declared.types.Place.{Place}
use Rattle.plane.specs.Limits.{reach, FitsPlane, SmallPlace}
use Rattle.plane.specs.Moves.{rolled_plane, rolled_place}
use Rattle.solid.specs.Shapes.{Shape, box, planes, plane}
use Rattle.solid.specs.Models.{Piece, Face, Model}
use Rattle.solid.specs.Examples.{at}
use Rattle.faces.specs.declared.types.Span.{Span}
use Rattle.faces.specs.declared.types.Bounds.{Bounds}
use Rattle.faces.specs.declared.types.Rectangle.TheInside.{Inside}

-- the places in a block
abbrev pub as_shape : Bounds → Shape
as_shape b = box b.x.low b.x.high b.y.low b.y.high b.z.low b.z.high

-- what of it lies in the workshop: each end comes no further than the workshop's
abbrev pub low_end : ℤ → ℤ
low_end n = int_max n (neg_ℤ (pos reach))

abbrev pub high_end : ℤ → ℤ
high_end n = int_min n (pos reach)

abbrev pub cut_span : Span → Span
cut_span s = record { low = low_end s.low; high = high_end s.high }

unfoldable pub cut : Bounds → Bounds
cut b = record { x = cut_span b.x; y = cut_span b.y; z = cut_span b.z }

-- there are places in it
unfoldable pub thick : Bounds → Bool
thick b = int_lt b.x.low b.x.high && (int_lt b.y.low b.y.high && int_lt b.z.low b.z.high)

-- the same, and none if there are no places in it
unfoldable pub left_of : Bounds → Option Bounds
left_of b = cond (thick (cut b)) (Some (cut b)) None

-- the one piece of a block, and the place in the middle of it
unfoldable pub block_piece : Bounds → Piece
block_piece b = record { planes = planes (as_shape b); place = at (b.x.low +ℤ b.x.high) (b.y.low +ℤ b.y.high) (b.z.low +ℤ b.z.high) 2 }

-- in the middle of a face at x, and round it: counter-clockwise, seen from more x
abbrev pub middle_at : Bounds → ℤ → Place
middle_at b x = at (x +ℤ x) (b.y.low +ℤ b.y.high) (b.z.low +ℤ b.z.high) 2

abbrev pub round_at : Bounds → ℤ → List Place
round_at b x = at x b.y.low b.z.low 1 ∷ at x b.y.high b.z.low 1 ∷ at x b.y.high b.z.high 1 ∷ at x b.y.low b.z.high 1 ∷ []

-- the face that looks toward more x, and the one that looks toward less
unfoldable pub high_face : Bounds → Face
high_face b = record {
  plane = plane (pos 1) (pos 0) (pos 0) b.x.high;
  edges = plane (pos 0) (pos 1) (pos 0) b.y.high ∷ plane (pos 0) (neg_ℤ (pos 1)) (pos 0) (neg_ℤ b.y.low) ∷ plane (pos 0) (pos 0) (pos 1) b.z.high ∷ plane (pos 0) (pos 0) (neg_ℤ (pos 1)) (neg_ℤ b.z.low) ∷ [];
  place = middle_at b b.x.high;
  corners = round_at b b.x.high;
}

unfoldable pub low_face : Bounds → Face
low_face b = record {
  plane = plane (neg_ℤ (pos 1)) (pos 0) (pos 0) (neg_ℤ b.x.low);
  edges = plane (pos 0) (pos 0) (pos 1) b.z.high ∷ plane (pos 0) (pos 0) (neg_ℤ (pos 1)) (neg_ℤ b.z.low) ∷ plane (pos 0) (pos 1) (pos 0) b.y.high ∷ plane (pos 0) (neg_ℤ (pos 1)) (pos 0) (neg_ℤ b.y.low) ∷ [];
  place = middle_at b b.x.low;
  corners = at b.x.low b.y.low b.z.low 1 ∷ at b.x.low b.y.low b.z.high 1 ∷ at b.x.low b.y.high b.z.high 1 ∷ at b.x.low b.y.high b.z.low 1 ∷ [];
}

-- a face turned from x to y to z to x, and the block that is b when it is turned so
unfoldable pub rolled_face : Face → Face
rolled_face f = record { plane = rolled_plane f.plane; edges = map rolled_plane f.edges; place = rolled_place f.place; corners = map rolled_place f.corners }

abbrev pub rolled_back : Bounds → Bounds
rolled_back b = record { x = b.y; y = b.z; z = b.x }

-- the two faces across each axis
unfoldable pub block_faces : Bounds → List Face
block_faces b =
    let c = rolled_back b in
    let d = rolled_back c in
    high_face b ∷ low_face b ∷ rolled_face (high_face c) ∷ rolled_face (low_face c) ∷ rolled_face (rolled_face (high_face d)) ∷ rolled_face (rolled_face (low_face d)) ∷ []

-- a block's model; without a block it is empty
unfoldable pub model_of : Option Bounds → Model
model_of None = record { pieces = []; faces = [] }
model_of (Some b) = record { pieces = block_piece b ∷ []; faces = block_faces b }

-- the model of a box: of what of it lies in the workshop
abbrev pub box_model : Bounds → Model
box_model b = model_of (left_of b)

-- from one number to a larger one, both in the workshop
pub record FitsSpan (s : Span) : Type 0 where
  pub low : neg_ℤ (pos reach) ≤ℤ s.low
  pub thick : s.low <ℤ s.high
  pub high : s.high ≤ℤ pos reach

-- a block with places in it, all in the workshop
pub record FitsBlock (b : Bounds) : Type 0 where
  pub x : FitsSpan b.x
  pub y : FitsSpan b.y
  pub z : FitsSpan b.z

-- a face whose numbers are all in range
pub record FitsFace (f : Face) : Type 0 where
  pub plane : FitsPlane f.plane
  pub edges : AllByRecursion FitsPlane f.edges
  pub place : SmallPlace f.place
  pub corners : AllByRecursion SmallPlace f.corners

-- a face as the code has it
abbrev pub as_face : Inside → Face
as_face r = record { plane = r.plane; edges = r.edges; place = r.place; corners = r.corners }
