use Rattle.fixed_bits.proofs.Words.{same_from_bits, same_from_bytes}
use Rattle.fixed_bits.proofs.laws.read_back_law.Goals as goal

pub returns-clause-bits : goal.returns-clause-bits
returns-clause-bits c = same_from_bits

pub returns-clause-bytes : goal.returns-clause-bytes
returns-clause-bytes c = same_from_bytes
