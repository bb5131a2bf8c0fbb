use Rattle.fixed_machine.specs.Rows.{exact}
use Rattle.fixed_agree.proofs.Policies.{by_checked}
use Rattle.fixed_agree.proofs.checked.unary_unsigned.Goals as goal

pub returns-in-NextPowerOfTwo : goal.returns-in-NextPowerOfTwo
unfolding exact
returns-in-NextPowerOfTwo g c = rw c.in-NextPowerOfTwo.is (by_checked g.T.RawWord.SIGNED g.T.Valued.BITS _ _ _ _ c.bits_or_absent.ensures c.checked_next_power_of_two.ensures)
