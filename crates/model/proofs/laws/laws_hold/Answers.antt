use Rattle.std.proofs.Common.{rules}
use Rattle.model.proofs.Wires.{begun_once, meant_once, solid_once, writable}
use Rattle.model.proofs.laws.laws_hold.Goals as goal

pub returns : goal.returns
returns c = record { told = search rules; begun_once = begun_once; meant_once = meant_once; solid_once = solid_once; writable = writable }
