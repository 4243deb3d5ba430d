use Rattle.std.proofs.Common.{sym, subst}
use Rattle.model.specs.Wire.{InRangeFace}
use Rattle.model.specs.Format.{face_bytes}
use Rattle.model.specs.Finds.{Found}
use Rattle.model.proofs.Things.{face_code}
use Rattle.model.proofs.Finding.{stands_once}
use Rattle.model.proofs.Ends.{face_found, no_place, no_edges, no_plane}
use Rattle.model.proofs.parts.FacePart.end.Goals as goal

pub returns-in_err-edges : goal.returns-in_err-edges
returns-in_err-edges c =
    let l = c.args.model.now in
    record {
      found = subst (Found face_bytes InRangeFace l c.args.at) (sym c.from_residual.ensures) (no_plane l c.type_inv.model c.args.at c.in_err-edges.ensures);
      once = stands_once face_code l c.args.at;
    }

pub returns-in_err-place : goal.returns-in_err-place
returns-in_err-place c =
    let l = c.args.model.now in
    record {
      found = subst (Found face_bytes InRangeFace l c.args.at) (sym c.from_residual-in_err-place.ensures)
          (no_edges l c.type_inv.model c.args.at c.in_ok-edges.edges c.in_ok-edges.ensures c.in_err-place.ensures);
      once = stands_once face_code l c.args.at;
    }

pub returns-in_err-corners : goal.returns-in_err-corners
returns-in_err-corners c =
    let l = c.args.model.now in
    record {
      found = subst (Found face_bytes InRangeFace l c.args.at) (sym c.from_residual-in_err-corners.ensures)
          (no_place l c.type_inv.model c.args.at c.in_ok-edges.edges c.in_ok-place.place c.in_ok-edges.ensures c.in_ok-place.ensures c.in_err-corners.ensures);
      once = stands_once face_code l c.args.at;
    }

pub returns : goal.returns
returns c =
    let l = c.args.model.now in
    record {
      found = face_found l c.type_inv.model c.args.at c.in_ok-edges.edges c.in_ok-place.place c.in_ok-corners.corners
          c.in_ok-edges.ensures c.in_ok-place.ensures c.in_ok-corners.ensures c.list_end-2.result c.list_end-2.ensures;
      once = stands_once face_code l c.args.at;
    }
