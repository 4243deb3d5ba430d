-- What the lines of a text say: parts, and questions about them; and which lines are taken.
use Rattle.std.specs.Prelude.{ℕ, Bool, true, false, cond, not, ◌&&◌, List, [], ◌∷◌, ◌++◌, length, ℤ, pos, int_le, nat_le, nat_lt, unsigned_abs}
use Rattle.plane.specs.declared.types.Place.{Place}
use Rattle.plane.specs.declared.types.Shift.{Shift}
use Rattle.plane.specs.Moves.{moved_plane, mirrored_plane, swapped_plane, rolled_plane}
use Rattle.solid.specs.Shapes.{Shape, plane, with_planes, half as below_plane, box as box_of, both as in_both, either as in_either, without as in_without}
use Rattle.grammar.specs.Grammar.{Expr, half, box, Two, both, either, without, two, move, One, mirror, swap, turn, one, called, Line, part, place, same_as, meet, model, same, one_of}
use Rattle.grammar.specs.Faults.{most_parts}
use Rattle.grammar.specs.Values.{number_limit, scale_most}

-- a part: its name and its shape
pub record Part : Type 0 where
  pub name : List ℕ
  pub shape : Shape

-- a shape with nothing in it
abbrev pub nothing : Shape
nothing = in_without (below_plane (plane (pos 1) (pos 0) (pos 0) (pos 0))) (below_plane (plane (pos 1) (pos 0) (pos 0) (pos 0)))

-- the shape of the part of that name
abbrev pub named : List Part → List ℕ → Shape
named [] w = nothing
named (p ∷ ps) w = cond (same w p.name) p.shape (named ps w)

abbrev pub joined : Two → Shape → Shape → Shape
joined both s t = in_both s t
joined either s t = in_either s t
joined without s t = in_without s t

abbrev pub changed : One → Shape → Shape
changed mirror s = with_planes mirrored_plane s
changed swap s = with_planes swapped_plane s
changed turn s = with_planes rolled_plane s

abbrev pub shift : ℤ → ℤ → ℤ → Shift
shift x y z = record { x = x; y = y; z = z }

-- the shape that an expression says, below some parts
abbrev pub says : List Part → Expr → Shape
says ps (half a b c d) = below_plane (plane a b c d)
says ps (box x0 x1 y0 y1 z0 z1) = box_of x0 x1 y0 y1 z0 z1
says ps (two o e f) = joined o (says ps e) (says ps f)
says ps (move x y z e) = with_planes (moved_plane (shift x y z)) (says ps e)
says ps (one o e) = changed o (says ps e)
says ps (called n) = named ps n.0

pub data Question : Type 0 where
  where_is : Shape → Place → Question
  are_same : Shape → Shape → Question
  do_meet : Shape → Shape → Question
  model_of : Shape → Question

abbrev pub at : ℤ → ℤ → ℤ → ℤ → Place
at x y z w = record { x = x; y = y; z = z; w = unsigned_abs w }

-- the questions of lines, below some parts
abbrev pub questions : List Part → List Line → List Question
questions ps [] = []
questions ps (part n e ∷ ls) = questions (ps ++ record { name = n.0; shape = says ps e } ∷ []) ls
questions ps (place n x y z w ∷ ls) = where_is (named ps n.0) (at x y z w) ∷ questions ps ls
questions ps (same_as n m ∷ ls) = are_same (named ps n.0) (named ps m.0) ∷ questions ps ls
questions ps (meet n m ∷ ls) = do_meet (named ps n.0) (named ps m.0) ∷ questions ps ls
questions ps (model n ∷ ls) = model_of (named ps n.0) ∷ questions ps ls

-- numbers in range
abbrev pub short : ℤ → Bool
short z = nat_le (unsigned_abs z) number_limit

abbrev pub scales : ℤ → Bool
scales w = int_le (pos 1) w && int_le w (pos scale_most)

-- a shape that is taken: so far, a box with numbers in range
abbrev pub fine_shape : Expr → Bool
fine_shape (half a b c d) = false
fine_shape (box x0 x1 y0 y1 z0 z1) = short x0 && (short x1 && (short y0 && (short y1 && (short z0 && short z1))))
fine_shape (two o e f) = false
fine_shape (move x y z e) = false
fine_shape (one o e) = false
fine_shape (called n) = false

-- lines that are taken, below parts of some names: each name is new where a part has it, and there where it is used, and all numbers are in
-- range; so far, the only questions are those about places
abbrev pub fine : List (List ℕ) → List Line → Bool
fine names [] = true
fine names (part n e ∷ ls) = nat_lt (length names) most_parts && (not (one_of names n.0) && (fine_shape e && fine (names ++ n.0 ∷ []) ls))
fine names (place n x y z w ∷ ls) = one_of names n.0 && (short x && (short y && (short z && (scales w && fine names ls))))
fine names (same_as n m ∷ ls) = false
fine names (meet n m ∷ ls) = false
fine names (model n ∷ ls) = false
