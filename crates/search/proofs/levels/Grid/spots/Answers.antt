use Rattle.std.proofs.Common.{◌≡◌, List, [], ◌∷◌, ℤ, Option, pos, ◌*ℤ◌, sym, ap, ◌∙◌, subst, lit≤}
use Rattle.arith.proofs.Sized.{is_num, is_mul, is_back, is_pos}
use Rattle.search.specs.Levels.{numbers, spots_by, middles, AllShort}
use Rattle.search.proofs.Middles.{twice_short}
use Rattle.search.proofs.levels.Grid.spots.Goals as goal

pub returns-in-Some : goal.returns-in-Some
returns-in-Some c =
    let i = is_num c.in-Some.ensures.short tt in
    let e : numbers c.into_slice.result.now ≡ (pos 2 *ℤ c.in-Some.v) ∷ [] =
    rw (c.into_slice.ensures.items, c.push.ensures.items, c.new-list.ensures.empty, c.cast_unsigned.ensures)
    (ap (λ (m : ℤ). m ∷ []) (is_back (is_back (is_mul (is_pos {k = 2} {n = 2} (lit≤ tt)) i) tt) tt).same) in
    record {
      value = e ∙ ap (λ (o : Option ℤ). spots_by o (middles c.args.axis c.args.self.now.planes)) c.in-Some.ensures.value;
      short = subst (λ (ms : List ℤ). AllShort ms) (sym e) (twice_short c.in-Some.v c.in-Some.ensures.short);
    }
