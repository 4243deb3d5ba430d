use Rattle.std.proofs.Common.{ℤ, ltb, nat_abs, ap, ◌∙◌, rules, tests, w64, to_z, of_z}
use Rattle.std.proofs.lemmas.Int.{ints}
use Rattle.std.proofs.lemmas.Iterator.{YieldsList-from_slice}
use Rattle.std.proofs.lemmas.Iterator.Search.{all_from_yields_List}
use Rattle.arith.proofs.Sized.{is_num}
use Rattle.solid.proofs.Walls.{end, in_walls, and_three}
use Rattle.solid.proofs.value.in_walls.Goals as goal

pub returns : goal.returns
returns c =
    let q = c.args.q in
    let t = λ (n : ℤ). ltb (nat_abs (to_z w64 (of_z w64 n))) (end q) in
    all_from_yields_List (λ (n : ℤ). ltb (nat_abs n) (end q)) _ _ c.all.result c.all.ensures.ran (YieldsList-from_slice _ c.iter.ensures.rest) (λ x b p k. search (rules, tests, ints))
    ∙ and_three (t q.x) (t q.y) (t q.z)
    ∙ in_walls q _ _ _ (ap nat_abs (is_num c.requires.x tt).same) (ap nat_abs (is_num c.requires.y tt).same) (ap nat_abs (is_num c.requires.z tt).same)
