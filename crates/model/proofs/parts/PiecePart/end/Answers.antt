use Rattle.std.proofs.Common.{sym, subst}
use Rattle.model.specs.Wire.{InRangePiece}
use Rattle.model.specs.Format.{piece_bytes}
use Rattle.model.specs.Finds.{Found}
use Rattle.model.proofs.Things.{piece_code}
use Rattle.model.proofs.Finding.{stands_once}
use Rattle.model.proofs.Ends.{piece_found, no_planes}
use Rattle.model.proofs.parts.PiecePart.end.Goals as goal

pub returns-in_err-place : goal.returns-in_err-place
returns-in_err-place c =
    let l = c.args.model.now in
    record {
      found = subst (Found piece_bytes InRangePiece l c.args.at) (sym c.from_residual.ensures) (no_planes l c.type_inv.model c.args.at c.in_err-place.ensures);
      once = stands_once piece_code l c.args.at;
    }

pub returns : goal.returns
returns c =
    let l = c.args.model.now in
    record {
      found = piece_found l c.type_inv.model c.args.at c.in_ok-place.place c.in_ok-place.ensures c.end_of.result c.end_of.ensures;
      once = stands_once piece_code l c.args.at;
    }
