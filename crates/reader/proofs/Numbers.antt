-- The numbers of lines that are taken.
--     box_numbers, place_numbers      they are in range
--     number_read                     the number that is read where one stands
--     box_length                      how many steps a box has
use Rattle.std.proofs.Common.{◌≡◌, ℕ, ◌<◌, ◌≤◌, true, false, ◌&&◌, List, length, ℤ, pos, negsuc, nat_abs, refl, arith, w64, to_z, of_z}
use lib.Signed.{le_z}
use Rattle.std.proofs.lemmas.Bool.{and_parts, both_ways, leb-true}
use Rattle.arith.specs.Bounds.{Short}
use Rattle.solid.specs.Shapes.{box as box_of}
use Rattle.solid.specs.Steps.{words}
use Rattle.arith.proofs.Sized.{Is, is_back}
use Rattle.grammar.specs.Grammar.{signed, box}
use Rattle.grammar.specs.Meaning.{short, scales, fine_shape}
use Rattle.grammar.specs.Values.{number_limit, scale_most}

pub short_is : (z : ℤ) → short z ≡ true → Short z number_limit
short_is z e = record { size = leb-true (nat_abs z) number_limit e }

-- the six numbers of a box in range
pub record Numbers (a b c d e f : ℤ) : Type 0 where
  pub x0 : Short a number_limit
  pub x1 : Short b number_limit
  pub y0 : Short c number_limit
  pub y1 : Short d number_limit
  pub z0 : Short e number_limit
  pub z1 : Short f number_limit

pub box_numbers : (x0 x1 y0 y1 z0 z1 : ℤ) → fine_shape (box x0 x1 y0 y1 z0 z1) ≡ true → Numbers x0 x1 y0 y1 z0 z1
box_numbers x0 x1 y0 y1 z0 z1 e =
    let a = and_parts (short x0) _ e in
    let b = and_parts (short x1) _ a.1 in
    let c = and_parts (short y0) _ b.1 in
    let d = and_parts (short y1) _ c.1 in
    let f = and_parts (short z0) (short z1) d.1 in
    record {
      x0 = short_is x0 a.0;
      x1 = short_is x1 b.0;
      y0 = short_is y0 c.0;
      y1 = short_is y1 d.0;
      z0 = short_is z0 f.0;
      z1 = short_is z1 f.1;
    }

-- the four numbers of a place in range
pub record Coordinates (a b c d : ℤ) : Type 0 where
  pub x : Short a number_limit
  pub y : Short b number_limit
  pub z : Short c number_limit
  pub w_short : Short d number_limit
  pub w : nat_abs d ≤ scale_most
  pub real : d ≡ pos (nat_abs d)
  pub some : 0 < nat_abs d

scale_is : (w : ℤ) → le_z (pos 1) w ≡ true → le_z w (pos scale_most) ≡ true → (nat_abs w ≤ scale_most) × (w ≡ pos (nat_abs w)) × (0 < nat_abs w)
scale_is (pos n) h k = (leb-true n scale_most k, refl, leb-true 1 n h)
scale_is (negsuc n) h k = absurd (both_ways false refl h)

pub place_numbers : (x y z w : ℤ) → (short x && (short y && (short z && scales w))) ≡ true → Coordinates x y z w
place_numbers x y z w e =
    let a = and_parts (short x) _ e in
    let b = and_parts (short y) _ a.1 in
    let c = and_parts (short z) (scales w) b.1 in
    let d = and_parts (le_z (pos 1) w) (le_z w (pos scale_most)) c.1 in
    let s = scale_is w d.0 d.1 in
    record { x = short_is x a.0; y = short_is y b.0; z = short_is z c.0; w_short = record { size = omega (arith, s.0) }; w = s.0; real = s.1; some = s.2 }

-- the number r that is read where z stands, as it is passed on
pub number_read : (w : List ℕ) (r z : ℤ) → w ≡ signed z → Short z number_limit → ((y : ℤ) → w ≡ signed y → Short y number_limit → r ≡ y) → Is (to_z w64 (of_z w64 r)) z number_limit
number_read w r z e s f = is_back (record { same = f z e s; short = s }) tt

pub box_length : (x0 x1 y0 y1 z0 z1 : ℤ) → length (words (box_of x0 x1 y0 y1 z0 z1)) ≡ 11
unfolding words box_of
box_length x0 x1 y0 y1 z0 z1 = refl
