use Rattle.std.proofs.Common.{rules}
use Rattle.fixed_bits.proofs.ByteLists.{be_back_2}
use Rattle.fixed_bits.proofs.bytes.U16BitWord.from_be_bytes.Goals as goal

pub returns : goal.returns
returns c = be_back_2 c.args.bytes c.from_be_bytes.result (search rules) (search rules) (search rules) c.from_be_bytes.ensures
