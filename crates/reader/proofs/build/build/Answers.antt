use Rattle.std.proofs.Common.{rules, ◌≡◌, ◌+◌, ◌*◌, ◌/◌, ◌<◌, ◌∷◌, [], ◌++◌, List, ℕ, codes, length, take, sym, refl, ap, ◌∙◌, arith}
use Rattle.grammar.specs.Grammar.{same}
use Rattle.reader.specs.Lines.{PlaceAt, question_at}
use Rattle.reader.proofs.Ranks.{told_same}
use Rattle.reader.proofs.Laying.{front_length, lines_in, part_there, part_long, part_laid, place_there, place_long, place_laid, parts_known, parts_even, ends}
use Rattle.reader.proofs.build.build.Goals as goal

pub lay_part-requires-clause-taken : goal.lay_part-requires-clause-taken
lay_part-requires-clause-taken c =
    let g = c.loop-spots.invariant.going c.requires.taken in
    let h : 0 < length c.loop-spots.rest = search rules in
    let e = ap (same (codes "part")) (sym c.at.ensures) ∙ told_same c.at.result.now (codes "part") c.as_slice.result.now c.eq.result c.eq.ensures c.as_slice.ensures ∙ c.if-eq.true in
    part_there g h e

pub lay_part-requires-clause-spots_room : goal.lay_part-requires-clause-spots_room
lay_part-requires-clause-spots_room c =
    let g = c.loop-spots.invariant.going c.requires.taken in
    let h : 0 < length c.loop-spots.rest = search rules in
    let e = ap (same (codes "part")) (sym c.at.ensures) ∙ told_same c.at.result.now (codes "part") c.as_slice.result.now c.eq.result c.eq.ensures c.as_slice.ensures ∙ c.if-eq.true in
    let l = part_long g h e in
    omega (arith, l, g.passed, g.spots_room)

pub lay_part-requires-clause-steps_room : goal.lay_part-requires-clause-steps_room
lay_part-requires-clause-steps_room c =
    let g = c.loop-spots.invariant.going c.requires.taken in
    let h : 0 < length c.loop-spots.rest = search rules in
    let e = ap (same (codes "part")) (sym c.at.ensures) ∙ told_same c.at.result.now (codes "part") c.as_slice.result.now c.eq.result c.eq.ensures c.as_slice.ensures ∙ c.if-eq.true in
    let l = part_long g h e in
    let u = front_length c.loop-spots.laid.used c.loop-spots.steps c.loop-spots.invariant.steps_fit in
    omega (arith, l, g.passed, g.each, g.steps_room)

pub behind-rest-requires-then-eq : goal.behind-rest-requires-then-eq
behind-rest-requires-then-eq c =
    let g = c.loop-spots.invariant.going c.requires.taken in
    let h : 0 < length c.loop-spots.rest = search rules in
    let e = ap (same (codes "part")) (sym c.at.ensures) ∙ told_same c.at.result.now (codes "part") c.as_slice.result.now c.eq.result c.eq.ensures c.as_slice.ensures ∙ c.if-eq.true in
    part_long g h e

pub loop-spots-preserved-then-eq : goal.loop-spots-preserved-then-eq
loop-spots-preserved-then-eq c =
    record {
      steps_fit =
          let g = c.loop-spots.invariant.going c.requires.taken in
          let h : 0 < length c.loop-spots.rest = search rules in
          let e = ap (same (codes "part")) (sym c.at.ensures) ∙ told_same c.at.result.now (codes "part") c.as_slice.result.now c.eq.result c.eq.ensures c.as_slice.ensures ∙ c.if-eq.true in
          let l = part_long g h e in
          let u = front_length c.loop-spots.laid.used c.loop-spots.steps c.loop-spots.invariant.steps_fit in
          omega (arith, l, g.passed, g.each, g.steps_room, c.lay_part.auto.steps);
      asked_fit = c.loop-spots.invariant.asked_fit;
      going =
          λ t.
          let g = c.loop-spots.invariant.going t in
          let h : 0 < length c.loop-spots.rest = search rules in
          let e = ap (same (codes "part")) (sym c.at.ensures) ∙ told_same c.at.result.now (codes "part") c.as_slice.result.now c.eq.result c.eq.ensures c.as_slice.ensures ∙ c.if-eq.true in
          let p = c.lay_part.ensures in
          let u = front_length c.loop-spots.laid.used c.loop-spots.steps c.loop-spots.invariant.steps_fit in
          let spots = p.spots ∙ ap (λ (m : ℕ). c.loop-spots.spots.items ++ m ∷ 11 ∷ []) (sym u) in
          let l = lines_in c.lay_part.new.spots (record { used = c.loop-spots.laid.used + 11; asked = c.loop-spots.laid.asked }) c.lay_part.new.steps c.loop-spots.asked in
          rw c.behind-rest-then-eq.ensures (part_laid g h e l spots p.steps (p.room, c.lay_part.auto.steps) refl);
    }

pub first-names-requires : goal.first-names-requires
first-names-requires c =
    let g = c.loop-spots.invariant.going c.requires.taken in
    omega (arith, parts_even g (c.len.result / 2) (ap (λ (n : ℕ). n / 2) c.len.ensures), parts_known g)

pub lay_place-requires-clause-taken : goal.lay_place-requires-clause-taken
lay_place-requires-clause-taken c =
    let g = c.loop-spots.invariant.going c.requires.taken in
    let h : 0 < length c.loop-spots.rest = search rules in
    let e = ap (same (codes "part")) (sym c.at.ensures) ∙ told_same c.at.result.now (codes "part") c.as_slice.result.now c.eq.result c.eq.ensures c.as_slice.ensures ∙ c.if-eq.false in
    place_there g h e

pub lay_place-requires-clause-room : goal.lay_place-requires-clause-room
lay_place-requires-clause-room c =
    let g = c.loop-spots.invariant.going c.requires.taken in
    let h : 0 < length c.loop-spots.rest = search rules in
    let e = ap (same (codes "part")) (sym c.at.ensures) ∙ told_same c.at.result.now (codes "part") c.as_slice.result.now c.eq.result c.eq.ensures c.as_slice.ensures ∙ c.if-eq.false in
    let l = place_long g h e in
    let q = front_length (6 * c.loop-spots.laid.asked) c.loop-spots.asked c.loop-spots.invariant.asked_fit in
    omega (arith, l, g.passed, g.asked_room)

pub behind-rest-requires-else-eq : goal.behind-rest-requires-else-eq
behind-rest-requires-else-eq c =
    let g = c.loop-spots.invariant.going c.requires.taken in
    let h : 0 < length c.loop-spots.rest = search rules in
    let e = ap (same (codes "part")) (sym c.at.ensures) ∙ told_same c.at.result.now (codes "part") c.as_slice.result.now c.eq.result c.eq.ensures c.as_slice.ensures ∙ c.if-eq.false in
    place_long g h e

pub loop-spots-preserved : goal.loop-spots-preserved
loop-spots-preserved c =
    record {
      steps_fit = c.loop-spots.invariant.steps_fit;
      asked_fit =
          let g = c.loop-spots.invariant.going c.requires.taken in
          let h : 0 < length c.loop-spots.rest = search rules in
          let e = ap (same (codes "part")) (sym c.at.ensures) ∙ told_same c.at.result.now (codes "part") c.as_slice.result.now c.eq.result c.eq.ensures c.as_slice.ensures ∙ c.if-eq.false in
          let l = place_long g h e in
          let q = front_length (6 * c.loop-spots.laid.asked) c.loop-spots.asked c.loop-spots.invariant.asked_fit in
          omega (arith, l, g.passed, g.asked_room, c.lay_place.auto.asked);
      going =
          λ t.
          let g = c.loop-spots.invariant.going t in
          let h : 0 < length c.loop-spots.rest = search rules in
          let e = ap (same (codes "part")) (sym c.at.ensures) ∙ told_same c.at.result.now (codes "part") c.as_slice.result.now c.eq.result c.eq.ensures c.as_slice.ensures ∙ c.if-eq.false in
          let n = c.loop-spots.laid.asked in
          let six : 6 * (n + 1) ≡ 6 * n + 6 = omega arith in
          let asked = λ (q : PlaceAt c.loop-spots.rest).
          ap (λ (m : ℕ). take m c.lay_place.new.asked) six ∙ c.lay_place.ensures q
          ∙ ap (λ (ns : List (List ℕ)). take (6 * n) c.loop-spots.asked ++ question_at ns c.as_slice-else-eq.result.now q) c.first-names.ensures
          ∙ ap (λ (ps : List ℕ). take (6 * n) c.loop-spots.asked ++ question_at (take (c.len.result / 2) c.args.found.now.names) ps q) c.as_slice-else-eq.ensures in
          let l = lines_in c.loop-spots.spots (record { used = c.loop-spots.laid.used; asked = n + 1 }) c.loop-spots.steps c.lay_place.new.asked in
          rw c.behind-rest-else-eq.ensures (place_laid g h e l (c.len.result / 2) (parts_even g _ (ap (λ (m : ℕ). m / 2) c.len.ensures)) asked c.lay_place.auto.asked (refl, refl));
    }

pub returns : goal.returns
returns c text e =
    let t = e.0 in
    let l = ends (c.loop-spots.invariant.going t) (search rules) in
    let fit = c.loop-spots.invariant in
    let q = front_length (6 * c.loop-spots.laid.asked) c.loop-spots.asked fit.asked_fit in
    (t.lines, e.1, t.sound, record { steps_are = l.0; used_fits = fit.steps_fit; asked_are = l.1; asked_fits = fit.asked_fit; count = omega (arith, l.2) })
