use Rattle.std.proofs.Common.{w32}
use Rattle.std.proofs.lemmas.Nat.{from_le_bytes-to_le_bytes_4}
use Rattle.model.proofs.Decodes.{count_read}
use Rattle.model.proofs.numbers.U32Read.read.Goals as goal

pub returns : goal.returns
returns c = count_read w32 from_le_bytes-to_le_bytes_4 c.args.model.now c.args.at c.type_inv.model c.requires.there c.array_at.ensures c.from_le_bytes.ensures
