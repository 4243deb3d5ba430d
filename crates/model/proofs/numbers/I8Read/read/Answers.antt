use Rattle.std.proofs.Common.{◌≡◌, ℕ, ◌%◌, ◌<◌, arith, w8}
use Rattle.model.proofs.Decodes.{signed_read}
use Rattle.model.proofs.numbers.I8Read.read.Goals as goal

one_byte : (n : ℕ) → n < 256 → n % 256 ≡ n
one_byte n h = omega arith

pub returns : goal.returns
returns c =
    signed_read w8 one_byte c.args.model.now c.args.at c.type_inv.model c.requires.there
    (record { sfits = c.from_le_bytes.type_inv }) c.array_at.ensures c.from_le_bytes.ensures
