use Rattle.std.proofs.Common.{refl}
use Rattle.fixed_machine.specs.Rows.{exact}
use Rattle.fixed_agree.proofs.Policies.{by_wrapping}
use Rattle.fixed_agree.proofs.wrapping.unary_unsigned.Goals as goal

pub returns-in-NextPowerOfTwo : goal.returns-in-NextPowerOfTwo
unfolding exact
returns-in-NextPowerOfTwo g c = rw c.in-NextPowerOfTwo.is (by_wrapping g.T.RawWord.SIGNED g.T.Valued.BITS _ _ _ _ _ refl c.bits_of.ensures c.wrapping_next_power_of_two.ensures)
