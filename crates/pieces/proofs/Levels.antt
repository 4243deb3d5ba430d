-- The planes of two parts and of the workshop are level.
use Rattle.std.proofs.Common.{◌≡◌, ℕ, ◌≤◌, ◌⊎◌, List, ◌++◌, nat_abs, refl, ap, inl, inr, arith, lit≤}
use Rattle.plane.specs.declared.types.Plane.{Plane}
use Rattle.plane.specs.Limits.{FitsPlane, offset_limit}
use Rattle.solid.specs.Shapes.{Has, planes, solid, workshop, box}
use Rattle.solid.specs.Stacks.{shape_of}
use Rattle.solid.proofs.Members.{has_part, each_of}
use Rattle.search.specs.Levels.{Level, AllLevel}
use Rattle.pieces.specs.Questions.{planes_of_two, LevelSteps}
use Rattle.pieces.proofs.Shaped.{coded_fits}

abbrev Good : Plane → Type 0
Good p = FitsPlane p × Level p

-- a level plane is in range if its offset is
level_good : (p : Plane) → Level p → nat_abs p.d ≤ offset_limit → Good p
level_good p l d = (
  record {
    a = record { size = omega (arith, l) };
    b = record { size = omega (arith, l) };
    c = record { size = omega (arith, l) };
    d = record { size = d };
    sloped = λ h.
        let a : nat_abs p.a ≡ 0 = ap nat_abs h.0 in
        let b : nat_abs p.b ≡ 0 = ap nat_abs h.1 in
        let c : nat_abs p.c ≡ 0 = ap nat_abs h.2 in
        omega (arith, l);
  },
  l,
)

walls : (p : Plane) → Has (planes workshop) p → Good p
unfolding planes workshop box
walls = each_of Good (planes workshop)
    (level_good _ refl (lit≤ tt), (level_good _ refl (lit≤ tt), (level_good _ refl (lit≤ tt), (level_good _ refl (lit≤ tt), (level_good _ refl (lit≤ tt), (level_good _ refl (lit≤ tt), tt))))))

steps_good : (ws : List ℕ) → LevelSteps ws → (p : Plane) → Has (planes (shape_of ws)) p → Good p
steps_good ws l p h = ((coded_fits ws l.coded).each p h, l.level p h)

pub two_level : (first second : List ℕ) → LevelSteps first → LevelSteps second → AllLevel (planes_of_two (shape_of first) (shape_of second))
unfolding solid planes
two_level first second a b p h = go (has_part p (planes workshop ++ planes (shape_of first)) (planes (shape_of second)) h)
  where
    first_half : Has (planes workshop) p ⊎ Has (planes (shape_of first)) p → Good p
    first_half (inl k) = walls p k
    first_half (inr k) = steps_good first a p k

    go : Has (planes workshop ++ planes (shape_of first)) p ⊎ Has (planes (shape_of second)) p → Good p
    go (inl k) = first_half (has_part p (planes workshop) (planes (shape_of first)) k)
    go (inr k) = steps_good second b p k
