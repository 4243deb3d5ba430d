use Rattle.std.proofs.Common.{◌≡◌, ℕ, List, Err, Result, Some, None, Option, sym, refl, subst, w32, rules}
use Rattle.model.specs.declared.types.Layout.{Layout}
use Rattle.model.specs.declared.types.Misfit.{Misfit}
use Rattle.model.specs.declared.types.Misfit.TheVariants.{Short}
use Rattle.model.specs.Wire.{InRangePiece, InRangeFace}
use Rattle.model.specs.Format.{listed, piece_bytes, face_bytes}
use Rattle.model.specs.Finds.{Few, Found}
use Rattle.model.specs.Extents.{Measured, ReadAgain}
use Rattle.model.proofs.Whole.{no_pieces, model_found, number_within, short_measured, long_measured, whole_measured, read_again}
use Rattle.model.proofs.measure.extent.Goals as goal

-- what is found, as `ok_or` tells it
pieces_as : (l : List ℕ) {r s : Option ℕ} → r ≡ s → Found (listed w32 piece_bytes) (Few InRangePiece w32) l 0 r → Found (listed w32 piece_bytes) (Few InRangePiece w32) l 0 s
pieces_as l e p = subst (Found (listed w32 piece_bytes) (Few InRangePiece w32) l 0) e p

faces_as : (l : List ℕ) (at : ℕ) {r s : Option ℕ} → r ≡ s → Found (listed w32 face_bytes) (Few InRangeFace w32) l at r → Found (listed w32 face_bytes) (Few InRangeFace w32) l at s
faces_as l at e p = subst (Found (listed w32 face_bytes) (Few InRangeFace w32) l at) e p

-- what is measured is read again too
both : (l : List ℕ) {r s : Result Layout Misfit} → s ≡ r → Measured l r → record { measured : Measured l s; again : ReadAgain l s }
both l {s = s} e m =
    let n : Measured l s = subst (Measured l) (sym e) m in
    record { measured = n; again = read_again l s n }

pub returns-in_err-middle : goal.returns-in_err-middle
returns-in_err-middle c =
    let l = c.args.model.now in
    let e : c.from_residual.result ≡ Err Short = search rules in
    both l e (short_measured l c.type_inv.model (no_pieces l (pieces_as l c.in_err-middle.ensures.ok_part c.parts_end.ensures)))

pub returns-in_err-end : goal.returns-in_err-end
returns-in_err-end c =
    let l = c.args.model.now in
    let middle = c.in_ok-middle.middle in
    let e : c.from_residual-in_err-end.result ≡ Err Short = search rules in
    both l e
    (short_measured l c.type_inv.model
    (model_found l middle (pieces_as l c.in_ok-middle.ensures.ok_part c.parts_end.ensures) None (faces_as l middle c.in_err-end.ensures.ok_part c.parts_end-2.ensures)))

pub returns-then-end-model : goal.returns-then-end-model
returns-then-end-model c =
    let l = c.args.model.now in
    let middle = c.in_ok-middle.middle in
    let end = c.in_ok-end.end in
    both l refl
    (long_measured l end
    (model_found l middle (pieces_as l c.in_ok-middle.ensures.ok_part c.parts_end.ensures) (Some end) (faces_as l middle c.in_ok-end.ensures.ok_part c.parts_end-2.ensures)) c.if-end-model.true)

pub read-requires : goal.read-requires
read-requires c =
    let l = c.args.model.now in
    record { there = number_within piece_bytes InRangePiece l 0 c.in_ok-middle.middle (pieces_as l c.in_ok-middle.ensures.ok_part c.parts_end.ensures) }

pub read-requires-2 : goal.read-requires-2
read-requires-2 c =
    let l = c.args.model.now in
    let middle = c.in_ok-middle.middle in
    record { there = number_within face_bytes InRangeFace l middle c.in_ok-end.end (faces_as l middle c.in_ok-end.ensures.ok_part c.parts_end-2.ensures) }

pub returns : goal.returns
returns c =
    let l = c.args.model.now in
    let middle = c.in_ok-middle.middle in
    both l refl
    (whole_measured l middle c.in_ok-end.end c.read.result c.read-2.result (pieces_as l c.in_ok-middle.ensures.ok_part c.parts_end.ensures) (faces_as l middle c.in_ok-end.ensures.ok_part c.parts_end-2.ensures)
    c.if-end-model.false c.read.ensures c.read-2.ensures)
