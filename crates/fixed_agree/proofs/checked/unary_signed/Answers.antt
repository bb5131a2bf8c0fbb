use Rattle.fixed_machine.specs.Rows.{exact}
use Rattle.fixed_agree.proofs.Policies.{by_checked}
use Rattle.fixed_agree.proofs.checked.unary_signed.Goals as goal

pub returns-in-Abs : goal.returns-in-Abs
unfolding exact
returns-in-Abs g c = rw c.in-Abs.is (by_checked g.T.RawWord.SIGNED g.T.Valued.BITS _ _ _ _ c.bits_or_absent.ensures c.checked_abs.ensures)

pub returns-in-Signum : goal.returns-in-Signum
unfolding exact
returns-in-Signum g c = rw c.in-Signum.is (by_checked g.T.RawWord.SIGNED g.T.Valued.BITS _ _ _ _ c.bits_or_absent-in-Signum.ensures c.checked_signum.ensures)
