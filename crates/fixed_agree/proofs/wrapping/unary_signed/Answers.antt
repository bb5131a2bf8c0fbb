use Rattle.std.proofs.Common.{refl}
use Rattle.fixed_machine.specs.Rows.{exact}
use Rattle.fixed_agree.proofs.Policies.{by_wrapping}
use Rattle.fixed_agree.proofs.wrapping.unary_signed.Goals as goal

pub returns-in-Abs : goal.returns-in-Abs
unfolding exact
returns-in-Abs g c = rw c.in-Abs.is (by_wrapping g.T.RawWord.SIGNED g.T.Valued.BITS _ _ _ _ _ refl c.bits_of.ensures c.wrapping_abs.ensures)

pub returns-in-Signum : goal.returns-in-Signum
unfolding exact
returns-in-Signum g c = rw c.in-Signum.is (by_wrapping g.T.RawWord.SIGNED g.T.Valued.BITS _ _ _ _ _ refl c.bits_of-in-Signum.ensures c.wrapping_signum.ensures)
