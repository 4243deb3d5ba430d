use Rattle.std.proofs.Common.{◌≡◌, ℤ, pos, ◌-ℤ◌, neg_ℤ, arith, w64, to_z, of_z}
use Rattle.std.proofs.lemmas.Int.{ints}
use Rattle.arith.specs.Bounds.{Short}
use Rattle.arith.proofs.Sized.{is_num}
use Rattle.grammar.specs.Values.{number_limit}
use Rattle.solid.specs.Shapes.{box}
use Rattle.solid.specs.Steps.{words}
use Rattle.reader.proofs.build.box_words.Goals as goal

-- a number as it is passed on, and with its sign changed
kept : (z : ℤ) → Short z number_limit → to_z w64 (of_z w64 z) ≡ z
kept z s = (is_num s tt).same

turned : (z : ℤ) → Short z number_limit → to_z w64 (of_z w64 (pos 0 -ℤ to_z w64 (of_z w64 z))) ≡ neg_ℤ z
turned z s = let h = s.size in omega (arith, ints)

pub returns : goal.returns
unfolding words box
returns c =
    let x0 = turned c.args.x0 c.requires.low.0 in
    let y0 = turned c.args.y0 c.requires.low.1.0 in
    let z0 = turned c.args.z0 c.requires.low.1.1 in
    let x1 = kept c.args.x1 c.requires.high.0 in
    let y1 = kept c.args.y1 c.requires.high.1.0 in
    let z1 = kept c.args.z1 c.requires.high.1.1 in
    cc
