use Rattle.std.proofs.Common.{rules}
use Rattle.fixed_bits.proofs.ByteLists.{le_back_2}
use Rattle.fixed_bits.proofs.bytes.U16BitWord.from_le_bytes.Goals as goal

pub returns : goal.returns
returns c = le_back_2 c.args.bytes c.from_le_bytes.result (search rules) (search rules) (search rules) c.from_le_bytes.ensures
