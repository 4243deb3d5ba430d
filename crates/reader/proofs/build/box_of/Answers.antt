use Rattle.std.proofs.Common.{◌≡◌, ℕ, List, [], get_or, ℤ, ap, ◌∙◌, w64, to_z, of_z}
use Rattle.arith.specs.Bounds.{Short}
use Rattle.arith.proofs.Sized.{Is, is_short}
use Rattle.grammar.specs.Grammar.{signed}
use Rattle.grammar.specs.Values.{number_limit}
use Rattle.reader.specs.Lines.{PartAt}
use Rattle.reader.proofs.Numbers.{box_numbers, number_read}
use Rattle.reader.proofs.build.box_of.Goals as goal

-- the number that is read from the k-th word
abbrev Read : List (List ℕ) → ℕ → ℤ → Type 0
Read ws k r = (w : List ℕ) × (w ≡ get_or ws k []) × ((y : ℤ) → w ≡ signed y → Short y number_limit → r ≡ y)

-- the six numbers as they are passed on
record Sides (ws : List (List ℕ)) (b : PartAt ws) (r0 r1 r2 r3 r4 r5 : ℤ) : Type 0 where
  x0 : Is (to_z w64 (of_z w64 r0)) b.x0 number_limit
  x1 : Is (to_z w64 (of_z w64 r1)) b.x1 number_limit
  y0 : Is (to_z w64 (of_z w64 r2)) b.y0 number_limit
  y1 : Is (to_z w64 (of_z w64 r3)) b.y1 number_limit
  z0 : Is (to_z w64 (of_z w64 r4)) b.z0 number_limit
  z1 : Is (to_z w64 (of_z w64 r5)) b.z1 number_limit

sides : (ws : List (List ℕ)) (b : PartAt ws) (r0 r1 r2 r3 r4 r5 : ℤ) → Read ws 3 r0 → Read ws 4 r1 → Read ws 5 r2 → Read ws 6 r3 → Read ws 7 r4 → Read ws 8 r5 → Sides ws b r0 r1 r2 r3 r4 r5
sides ws b r0 r1 r2 r3 r4 r5 f0 f1 f2 f3 f4 f5 =
    let n = box_numbers b.x0 b.x1 b.y0 b.y1 b.z0 b.z1 b.sound in
    let word = λ (k : ℕ). ap (λ (vs : List (List ℕ)). get_or vs k []) b.read in
    record {
      x0 = number_read f0.0 r0 b.x0 (f0.1 ∙ word 3) n.x0 f0.2;
      x1 = number_read f1.0 r1 b.x1 (f1.1 ∙ word 4) n.x1 f1.2;
      y0 = number_read f2.0 r2 b.y0 (f2.1 ∙ word 5) n.y0 f2.2;
      y1 = number_read f3.0 r3 b.y1 (f3.1 ∙ word 6) n.y1 f3.2;
      z0 = number_read f4.0 r4 b.z0 (f4.1 ∙ word 7) n.z0 f4.2;
      z1 = number_read f5.0 r5 b.z1 (f5.1 ∙ word 8) n.z1 f5.2;
    }

pub box_words-requires : goal.box_words-requires
box_words-requires c =
    let s =
    sides c.args.line.now c.requires c.number.result c.number-2.result c.number-3.result c.number-4.result c.number-5.result c.number-6.result
    (c.at.result.now, c.at.ensures, c.number.ensures) (c.at-2.result.now, c.at-2.ensures, c.number-2.ensures) (c.at-3.result.now, c.at-3.ensures, c.number-3.ensures) (c.at-4.result.now, c.at-4.ensures, c.number-4.ensures) (c.at-5.result.now, c.at-5.ensures, c.number-5.ensures) (c.at-6.result.now, c.at-6.ensures, c.number-6.ensures) in
    record { low = (is_short s.x0, (is_short s.y0, is_short s.z0)); high = (is_short s.x1, (is_short s.y1, is_short s.z1)) }

pub returns : goal.returns
returns c b =
    let s =
    sides c.args.line.now b c.number.result c.number-2.result c.number-3.result c.number-4.result c.number-5.result c.number-6.result
    (c.at.result.now, c.at.ensures, c.number.ensures) (c.at-2.result.now, c.at-2.ensures, c.number-2.ensures) (c.at-3.result.now, c.at-3.ensures, c.number-3.ensures) (c.at-4.result.now, c.at-4.ensures, c.number-4.ensures) (c.at-5.result.now, c.at-5.ensures, c.number-5.ensures) (c.at-6.result.now, c.at-6.ensures, c.number-6.ensures) in
    let x0 = s.x0.same in
    let x1 = s.x1.same in
    let y0 = s.y0.same in
    let y1 = s.y1.same in
    let z0 = s.z0.same in
    let z1 = s.z1.same in
    cc
