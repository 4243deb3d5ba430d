-- The numbers of a block's model are in range.
use Rattle.std.proofs.Common.{◌≡◌, ◌+◌, eqb, ℤ, ◌+ℤ◌, nat_abs, refl, ap, arith, lit<, lit≤}
use Rattle.std.proofs.lemmas.Int.{ints}
use Rattle.std.proofs.lemmas.Bool.{eqb-true}
use Rattle.std.specs.List.{AllByRecursion}
use Rattle.std.proofs.ByRecursion.{All-map, All-weaker}
use Rattle.arith.specs.Bounds.{Short}
use Rattle.arith.proofs.Sized.{is_self, is_add, is_short, short_more, short_neg}
use Rattle.plane.specs.declared.types.Place.{Place}
use Rattle.plane.specs.Limits.{reach, offset_limit, coordinate_limit, FitsPlane, SmallPlace}
use Rattle.plane.specs.Moves.{rolled_plane, rolled_place}
use Rattle.plane.proofs.Ranges.{rolled_fits}
use Rattle.solid.specs.Shapes.{plane, planes, box}
use Rattle.solid.specs.Models.{Face}
use Rattle.solid.specs.Examples.{at}
use Rattle.faces.specs.declared.types.Span.{Span}
use Rattle.faces.specs.declared.types.Bounds.{Bounds}
use Rattle.faces.specs.Blocks.{block_piece, high_face, low_face, rolled_face, rolled_back, FitsSpan, FitsBlock, FitsFace}
use Rattle.faces.proofs.Ways.{Way, east, west, north, south, up, down, toward, normal, top}
use Rattle.faces.proofs.Sixfold.{all_ways_each}

-- ---- numbers
module _ (s : Span) (f : FitsSpan s) where
  pub low_short : Short s.low reach
  low_short = record { size = omega (arith, ints) }

  pub high_short : Short s.high reach
  high_short = record { size = omega (arith, ints) }

sum_short : {m n : ℤ} → Short m reach → Short n reach → Short (m +ℤ n) coordinate_limit
sum_short s t = short_more coordinate_limit (is_short (is_add (is_self s) (is_self t))) tt

-- ---- planes
level : (a b c d : ℤ) → nat_abs a + nat_abs b + nat_abs c ≡ 1 → Short d reach → FitsPlane (plane a b c d)
level a b c d h s = record {
  a = record { size = omega arith };
  b = record { size = omega arith };
  c = record { size = omega arith };
  d = short_more offset_limit s tt;
  sloped = λ z. (let i = ap nat_abs z.0 in let j = ap nat_abs z.1 in let k = ap nat_abs z.2 in omega arith);
}

unit : (e : Way) → nat_abs (normal e).a + nat_abs (normal e).b + nat_abs (normal e).c ≡ 1
unit e = eqb-true _ 1 (all_ways_each (λ f. eqb (nat_abs (normal f).a + nat_abs (normal f).b + nat_abs (normal f).c) 1) refl e)

module _ (b : Bounds) (f : FitsBlock b) where
  top_short : (e : Way) → Short (top b e) reach
  top_short east = high_short b.x f.x
  top_short west = short_neg (low_short b.x f.x)
  top_short north = high_short b.y f.y
  top_short south = short_neg (low_short b.y f.y)
  top_short up = high_short b.z f.z
  top_short down = short_neg (low_short b.z f.z)

  wall_fits : (e : Way) → FitsPlane (toward e (top b e))
  wall_fits e = level (normal e).a (normal e).b (normal e).c (top b e) (unit e) (top_short e)

  pub piece_fits : AllByRecursion FitsPlane (block_piece b).planes
  unfolding block_piece planes box
  piece_fits = (wall_fits east, (wall_fits west, (wall_fits north, (wall_fits south, (wall_fits up, (wall_fits down, tt))))))

-- ---- places
middle : {i j k l m n : ℤ} → Short i reach → Short j reach → Short k reach → Short l reach → Short m reach → Short n reach → SmallPlace (at (i +ℤ j) (k +ℤ l) (m +ℤ n) 2)
middle i j k l m n = record { x = sum_short i j; y = sum_short k l; z = sum_short m n; w = lit≤ tt; real = lit< tt }

corner : {i j k : ℤ} → Short i reach → Short j reach → Short k reach → SmallPlace (at i j k 1)
corner i j k = record { x = short_more coordinate_limit i tt; y = short_more coordinate_limit j tt; z = short_more coordinate_limit k tt; w = lit≤ tt; real = lit< tt }

module _ (b : Bounds) (f : FitsBlock b) where
  x0 : Short b.x.low reach
  x0 = low_short b.x f.x

  x1 : Short b.x.high reach
  x1 = high_short b.x f.x

  y0 : Short b.y.low reach
  y0 = low_short b.y f.y

  y1 : Short b.y.high reach
  y1 = high_short b.y f.y

  z0 : Short b.z.low reach
  z0 = low_short b.z f.z

  z1 : Short b.z.high reach
  z1 = high_short b.z f.z

  pub piece_small : SmallPlace (block_piece b).place
  unfolding block_piece
  piece_small = middle x0 x1 y0 y1 z0 z1

  pub high_fits : FitsFace (high_face b)
  unfolding high_face
  high_fits = record {
    plane = wall_fits b f east;
    edges = (wall_fits b f north, (wall_fits b f south, (wall_fits b f up, (wall_fits b f down, tt))));
    place = middle x1 x1 y0 y1 z0 z1;
    corners = (corner x1 y0 z0, (corner x1 y1 z0, (corner x1 y1 z1, (corner x1 y0 z1, tt))));
  }

  pub low_fits : FitsFace (low_face b)
  unfolding low_face
  low_fits = record {
    plane = wall_fits b f west;
    edges = (wall_fits b f up, (wall_fits b f down, (wall_fits b f north, (wall_fits b f south, tt))));
    place = middle x0 x0 y0 y1 z0 z1;
    corners = (corner x0 y0 z0, (corner x0 y0 z1, (corner x0 y1 z1, (corner x0 y1 z0, tt))));
  }

  pub back_fits : FitsBlock (rolled_back b)
  back_fits = record { x = f.y; y = f.z; z = f.x }

rolled_small : (q : Place) → SmallPlace q → SmallPlace (rolled_place q)
unfolding rolled_place
rolled_small q s = record { x = s.z; y = s.x; z = s.y; w = s.w; real = s.real }

pub rolled_face_fits : (f : Face) → FitsFace f → FitsFace (rolled_face f)
unfolding rolled_face
rolled_face_fits f s = record {
  plane = rolled_fits s.plane;
  edges = All-map FitsPlane rolled_plane f.edges (All-weaker FitsPlane (λ p. FitsPlane (rolled_plane p)) (λ p h. rolled_fits h) f.edges s.edges);
  place = rolled_small f.place s.place;
  corners = All-map SmallPlace rolled_place f.corners (All-weaker SmallPlace (λ q. SmallPlace (rolled_place q)) rolled_small f.corners s.corners);
}
