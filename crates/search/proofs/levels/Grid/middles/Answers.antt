use Rattle.std.proofs.Common.{◌≡◌, subst, ℕ, List, ℤ, pos, ◌+ℤ◌, ◌*ℤ◌, sym, ap, ◌∙◌, arith, length-append}
use Rattle.std.proofs.lemmas.Grind.{common_steps}
use Rattle.arith.proofs.Sized.{is_num}
use Rattle.solid.proofs.Members.{has_read}
use Rattle.search.specs.Levels.{Grid, AllLevel, numbers, middles, AllShort}
use Rattle.search.proofs.Middles.{one_more, none_more, middles_short}
use Rattle.search.proofs.levels.Grid.middles.Goals as goal
use Rattle.search.proofs.levels.Grid.middles.Goals.{in-Some, in_default}

pub number_of-requires : goal.number_of-requires
number_of-requires c = c.self.invariant.1 _ (has_read c.self.inside.planes.now c.loop-p.p-index _ c.loop-p-test.true)

pub loop-p-preserved : goal.loop-p-preserved
loop-p-preserved c =
    let ps = c.self.inside.planes.now in
    let ws = c.loop-p.list.items in
    elim c.match-number_of.branch [
      | in-Some w ↦
          let b = is_num w.in-Some.ensures.short tt in
          rw (w.list-is, w.push-in-Some.ensures.items, w.push-in-Some.ensures.room) (
            omega (arith, length-append {A = ℕ}),
            c.loop-p.invariant.1,
            one_more c.args.axis ps c.loop-p.p-index _ c.loop-p-test.true ws c.loop-p.invariant.2
                w.in-Some.v w.middle_behind.result (sym w.in-Some.ensures.value) (w.middle_behind.ensures ∙ ap (λ (v : ℤ). pos 2 *ℤ v +ℤ pos 1) b.same),
          )
      | in_default w ↦
          rw w.list-is (
            omega arith,
            c.loop-p.invariant.1,
            none_more c.args.axis ps c.loop-p.p-index _ c.loop-p-test.true ws c.loop-p.invariant.2 (sym w.in_default.ensures.value),
          )
    ]

pub returns : goal.returns
returns c =
    let ps = c.args.self.now.planes in
    let v : numbers c.into_slice.result.now ≡ middles c.args.axis ps = grind (arith, common_steps) in
    record { value = v; short = subst (λ (ms : List ℤ). AllShort ms) (sym v) (middles_short c.args.axis ps (subst (λ (s : Grid). AllLevel s.planes) c.self.view_is c.self.invariant.1)) }
