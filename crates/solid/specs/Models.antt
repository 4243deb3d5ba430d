-- Pieces and faces, and when a model is right.
use Rattle.std.specs.Prelude.{◌≡◌, ℕ, suc, ◌+◌, ◌<◌, ◌≤◌, Bool, true, cond, not, ◌&&◌, ◌⊎◌, List, [], ◌∷◌, length, ℤ, pos, ◌+ℤ◌, ◌-ℤ◌, ◌*ℤ◌, ◌<ℤ◌, ◌==◌, ◌≢◌, int_lt}
use Rattle.plane.specs.declared.types.Plane.{Plane}
use Rattle.plane.specs.declared.types.Place.{Place}
use Rattle.plane.specs.Limits.{SmallPlace}
use Rattle.plane.specs.Planes.{height, below, on, turned, same_way, SamePlace}
use Rattle.plane.specs.Meets.{determinant}
use Rattle.solid.specs.Shapes.{Shape, holds, planes, At, Has, Clear, ClearBut, ends}

-- a piece: everything below some planes, and a place in it
pub record Piece : Type 0 where
  pub planes : List Plane
  pub place : Place

-- a face: the places on a plane that are below some others, its edges; a place of it; and its corners, in order
pub record Face : Type 0 where
  pub plane : Plane
  pub edges : List Plane
  pub place : Place
  pub corners : List Place

pub record Model : Type 0 where
  pub pieces : List Piece
  pub faces : List Face

unfoldable pub all_below : List Plane → Place → Bool
all_below [] q = true
all_below (p ∷ ps) q = below p q && all_below ps q

-- in how many pieces a place is
unfoldable pub in_pieces : List Piece → Place → ℕ
in_pieces [] q = 0
in_pieces (c ∷ cs) q = cond (all_below c.planes q) 1 0 + in_pieces cs q

-- in how many faces that look as plane p does a place is
unfoldable pub in_faces : List Face → Plane → Place → ℕ
in_faces [] p q = 0
in_faces (f ∷ fs) p q = cond (same_way f.plane p && (on f.plane q && all_below f.edges q)) 1 0 + in_faces fs p q

-- all are planes of the shape, one way round or the other
abbrev pub Ours : Shape → List Plane → Type 0
Ours s ps = (p : Plane) → Has ps p → Has (planes s) p ⊎ Has (planes s) (turned p)

-- THE PROMISE ON PIECES: every place off the planes lies in exactly one piece if it is in the shape, and in none if it isn't
pub record RightPieces (s : Shape) (cs : List Piece) : Type 0 where
  pub once : (q : Place) → Clear s q → in_pieces cs q ≡ cond (holds s q) 1 0
  pub ours : (c : Piece) → Has cs c → Ours s c.planes
  pub small : (c : Piece) → Has cs c → SmallPlace c.place
  pub inside : (c : Piece) → Has cs c → all_below c.planes c.place ≡ true
  pub clear : (c : Piece) → Has cs c → Clear s c.place

-- above none of some planes
unfoldable pub none_above : List Plane → Place → Bool
none_above [] q = true
none_above (p ∷ ps) q = not (int_lt (pos 0) (height p q)) && none_above ps q

-- a corner of a face: two edges meet there on its plane, and it is above no edge
pub record Corner (f : Face) (v : Place) : Type 0 where
  pub real : 0 < v.w
  pub on_plane : on f.plane v ≡ true
  pub closed : none_above f.edges v ≡ true
  pub first : Plane
  pub second : Plane
  pub has_first : Has f.edges first
  pub has_second : Has f.edges second
  pub on_first : on first v ≡ true
  pub on_second : on second v ≡ true
  pub crossing : determinant f.plane first second ≡ pos 0 → ⊥

-- from u to v, in units of the two w's
unfoldable pub across : ℤ → ℕ → ℤ → ℕ → ℤ
across u uw v vw = (v *ℤ pos uw) -ℤ (u *ℤ pos vw)

-- above 0 where t lies to the left of the way from u to v, seen from above the plane
unfoldable pub leftward : Plane → Place → Place → Place → ℤ
leftward p u v t =
    let vx = across u.x u.w v.x v.w in
    let vy = across u.y u.w v.y v.w in
    let vz = across u.z u.w v.z v.w in
    let tx = across u.x u.w t.x t.w in
    let ty = across u.y u.w t.y t.w in
    let tz = across u.z u.w t.z t.w in
    ((p.a *ℤ ((vy *ℤ tz) -ℤ (vz *ℤ ty))) +ℤ (p.b *ℤ ((vz *ℤ tx) -ℤ (vx *ℤ tz)))) +ℤ (p.c *ℤ ((vx *ℤ ty) -ℤ (vy *ℤ tx)))

-- the number behind i in a round of n
abbrev pub next : ℕ → ℕ → ℕ
next n i = cond (suc i == n) 0 (suc i)

-- the corners are the face's, all of them and at least three, in order round it, counter-clockwise seen from outside:
-- all others lie to the left of the way from each to the next
pub record RightCorners (f : Face) : Type 0 where
  pub enough : 3 ≤ length f.corners
  pub corner : (v : Place) → Has f.corners v → Corner f v
  pub small : (v : Place) → Has f.corners v → SmallPlace v
  pub all : (v : Place) → Corner f v → (u : Place) × Has f.corners u × SamePlace u v
  pub round : (i k : ℕ) (u v t : Place) → At f.corners i u → At f.corners (next (length f.corners) i) v → At f.corners k t →
      (k ≢ i) → (k ≢ next (length f.corners) i) → pos 0 <ℤ leftward f.plane u v t

-- THE PROMISE ON FACES: every place of a plane, off the planes that cross it, lies in exactly one outward face if the shape ends there,
-- and in none if it doesn't
pub record RightFaces (s : Shape) (fs : List Face) : Type 0 where
  pub once : (p : Plane) (q : Place) → (Has (planes s) p ⊎ Has (planes s) (turned p)) → ClearBut s p q → in_faces fs p q ≡ cond (ends s p q) 1 0
  pub ours : (f : Face) → Has fs f → Ours s (f.plane ∷ f.edges)
  pub small : (f : Face) → Has fs f → SmallPlace f.place
  pub inside : (f : Face) → Has fs f → all_below f.edges f.place ≡ true
  pub clear : (f : Face) → Has fs f → ClearBut s f.plane f.place
  pub corners : (f : Face) → Has fs f → RightCorners f

pub record Right (s : Shape) (m : Model) : Type 0 where
  pub pieces : RightPieces s m.pieces
  pub faces : RightFaces s m.faces
