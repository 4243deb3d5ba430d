-- The six ways along the axes. A block reaches from `bot` to `top` each way, and each face looks one way.
use Rattle.std.proofs.Common.{◌≡◌, List, [], ◌∷◌, map, ℤ, pos, negsuc, ◌+ℤ◌, ◌-ℤ◌, ◌*ℤ◌, neg_ℤ, sym, refl, ap, arith}
use lib.IntN.{neg_ℤ-neg_ℤ}
use Rattle.std.specs.Int.{int_max, int_min}
use Rattle.std.proofs.lemmas.Int.{ints, clamps}
use Rattle.plane.specs.declared.types.Plane.{Plane}
use Rattle.plane.specs.declared.types.Place.{Place}
use Rattle.plane.specs.Limits.{reach}
use Rattle.plane.specs.Planes.{weight, height, turned}
use Rattle.plane.specs.Moves.{rolled_plane, rolled_place}
use Rattle.solid.specs.Shapes.{box, planes, plane}
use Rattle.solid.specs.Models.{Face}
use Rattle.solid.specs.Examples.{at}
use Rattle.faces.specs.declared.types.Bounds.{Bounds}
use Rattle.faces.specs.Blocks.{as_shape, cut, high_face, low_face, rolled_face, rolled_back, block_faces}

-- toward more x and less x, more y and less y, more z and less z
pub data Way : Type 0 where
  east : Way
  west : Way
  north : Way
  south : Way
  up : Way
  down : Way

abbrev pub ways : List Way
ways = east ∷ west ∷ north ∷ south ∷ up ∷ down ∷ []

abbrev pub opp : Way → Way
opp east = west
opp west = east
opp north = south
opp south = north
opp up = down
opp down = up

-- two ways across: counter-clockwise from the first to the second, seen from where the way leads to
abbrev pub first : Way → Way
first east = north
first west = up
first north = up
first south = east
first up = east
first down = north

abbrev pub second : Way → Way
second east = up
second west = north
second north = east
second south = up
second up = north
second down = east

-- the plane through 0 that looks that way, and any other
abbrev pub normal : Way → Plane
normal east = plane (pos 1) (pos 0) (pos 0) (pos 0)
normal west = plane (negsuc 0) (pos 0) (pos 0) (pos 0)
normal north = plane (pos 0) (pos 1) (pos 0) (pos 0)
normal south = plane (pos 0) (negsuc 0) (pos 0) (pos 0)
normal up = plane (pos 0) (pos 0) (pos 1) (pos 0)
normal down = plane (pos 0) (pos 0) (negsuc 0) (pos 0)

abbrev pub toward : Way → ℤ → Plane
toward e d = plane (normal e).a (normal e).b (normal e).c d

-- how far a place is that way, in units of its w
abbrev pub far : Way → Place → ℤ
far east q = q.x
far west q = neg_ℤ q.x
far north q = q.y
far south q = neg_ℤ q.y
far up q = q.z
far down q = neg_ℤ q.z

abbrev pub top : Bounds → Way → ℤ
top b east = b.x.high
top b west = neg_ℤ b.x.low
top b north = b.y.high
top b south = neg_ℤ b.y.low
top b up = b.z.high
top b down = neg_ℤ b.z.low

abbrev pub bot : Bounds → Way → ℤ
bot b east = b.x.low
bot b west = neg_ℤ b.x.high
bot b north = b.y.low
bot b south = neg_ℤ b.y.high
bot b up = b.z.low
bot b down = neg_ℤ b.z.high

-- ---- what holds of each way
pub far-opp : (e : Way) (q : Place) → far (opp e) q ≡ neg_ℤ (far e q)
far-opp east q = refl
far-opp west q = sym (neg_ℤ-neg_ℤ q.x)
far-opp north q = refl
far-opp south q = sym (neg_ℤ-neg_ℤ q.y)
far-opp up q = refl
far-opp down q = sym (neg_ℤ-neg_ℤ q.z)

pub bot-top : (b : Bounds) (e : Way) → bot b e ≡ neg_ℤ (top b (opp e))
bot-top b east = sym (neg_ℤ-neg_ℤ b.x.low)
bot-top b west = refl
bot-top b north = sym (neg_ℤ-neg_ℤ b.y.low)
bot-top b south = refl
bot-top b up = sym (neg_ℤ-neg_ℤ b.z.low)
bot-top b down = refl

pub turned-toward : (e : Way) (d : ℤ) → turned (toward e d) ≡ toward (opp e) (neg_ℤ d)
unfolding turned
turned-toward east d = refl
turned-toward west d = refl
turned-toward north d = refl
turned-toward south d = refl
turned-toward up d = refl
turned-toward down d = refl

pub weight-far : (e : Way) (q : Place) → weight (normal e) q.x q.y q.z ≡ far e q
weight-far east q = omega (arith, ints)
weight-far west q = omega (arith, ints)
weight-far north q = omega (arith, ints)
weight-far south q = omega (arith, ints)
weight-far up q = omega (arith, ints)
weight-far down q = omega (arith, ints)

pub height-far : (e : Way) (d : ℤ) (q : Place) → height (toward e d) q ≡ far e q -ℤ (d *ℤ pos q.w)
unfolding height
height-far e d q = ap (λ (h : ℤ). h -ℤ (d *ℤ pos q.w)) (weight-far e q)

-- the ends of a block that is cut
high_neg : (n : ℤ) → neg_ℤ (int_max n (neg_ℤ (pos reach))) ≡ int_min (neg_ℤ n) (pos reach)
high_neg n = omega (arith, ints, clamps)

pub top-cut : (b : Bounds) (e : Way) → top (cut b) e ≡ int_min (top b e) (pos reach)
unfolding cut
top-cut b east = refl
top-cut b west = high_neg b.x.low
top-cut b north = refl
top-cut b south = high_neg b.y.low
top-cut b up = refl
top-cut b down = high_neg b.z.low

-- ---- a block's planes and faces by the ways
pub planes-ways : (b : Bounds) → planes (as_shape b) ≡ map (λ e. toward e (top b e)) ways
unfolding planes box
planes-ways b = refl

abbrev pub rim : Bounds → Way → List Plane
rim b e =
    let f = first e in
    let g = second e in
    toward f (top b f) ∷ toward (opp f) (top b (opp f)) ∷ toward g (top b g) ∷ toward (opp g) (top b (opp g)) ∷ []

-- four corners round, ahead by d, across from i to j and from k to l
abbrev pub rectangle : ℤ → ℤ → ℤ → ℤ → ℤ → List Place
rectangle d i j k l = at d i k 1 ∷ at d j k 1 ∷ at d j l 1 ∷ at d i l 1 ∷ []

unfoldable pub face_at : Bounds → Way → Face
face_at b east = high_face b
face_at b west = low_face b
face_at b north = rolled_face (high_face (rolled_back b))
face_at b south = rolled_face (low_face (rolled_back b))
face_at b up = rolled_face (rolled_face (high_face (rolled_back (rolled_back b))))
face_at b down = rolled_face (rolled_face (low_face (rolled_back (rolled_back b))))

pub faces_ways : (b : Bounds) → block_faces b ≡ map (face_at b) ways
unfolding block_faces face_at
faces_ways b = refl

-- a place as it is seen from a face: how far it is ahead, and both ways across
abbrev pub seen : Way → Place → Place
seen e q = at (far e q) (far (first e) q) (far (second e) q) q.w

-- what a face is made of
pub record Made (b : Bounds) (e : Way) (f : Face) : Type 0 where
  pub plane : f.plane ≡ toward e (top b e)
  pub edges : f.edges ≡ rim b e
  pub ahead : ℤ
  pub twice : ahead ≡ top b e +ℤ top b e
  pub place : seen e f.place ≡ at ahead (bot b (first e) +ℤ top b (first e)) (bot b (second e) +ℤ top b (second e)) 2
  pub corners : map (seen e) f.corners ≡ rectangle (top b e) (bot b (first e)) (top b (first e)) (bot b (second e)) (top b (second e))

neg_twice : (n : ℤ) → neg_ℤ (n +ℤ n) ≡ neg_ℤ n +ℤ neg_ℤ n
neg_twice n = omega (arith, ints)

pub made : (b : Bounds) (e : Way) → Made b e (face_at b e)
unfolding face_at high_face low_face rolled_face rolled_plane rolled_place
made b east = record { plane = refl; edges = refl; ahead = _; twice = refl; place = refl; corners = refl }
made b west = record { plane = refl; edges = refl; ahead = _; twice = neg_twice b.x.low; place = refl; corners = refl }
made b north = record { plane = refl; edges = refl; ahead = _; twice = refl; place = refl; corners = refl }
made b south = record { plane = refl; edges = refl; ahead = _; twice = neg_twice b.y.low; place = refl; corners = refl }
made b up = record { plane = refl; edges = refl; ahead = _; twice = refl; place = refl; corners = refl }
made b down = record { plane = refl; edges = refl; ahead = _; twice = neg_twice b.z.low; place = refl; corners = refl }
