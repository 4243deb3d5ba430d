use Rattle.std.proofs.Common.{w64}
use Rattle.std.proofs.lemmas.Nat.{from_le_bytes-to_le_bytes_8}
use Rattle.model.proofs.Decodes.{signed_read}
use Rattle.model.proofs.numbers.I64Read.read.Goals as goal

pub returns : goal.returns
returns c =
    signed_read w64 from_le_bytes-to_le_bytes_8 c.args.model.now c.args.at c.type_inv.model c.requires.there
    (record { sfits = c.from_le_bytes.type_inv }) c.array_at.ensures c.from_le_bytes.ensures
