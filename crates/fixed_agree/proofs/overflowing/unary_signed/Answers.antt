use Rattle.std.proofs.Common.{refl}
use Rattle.fixed_machine.specs.Rows.{exact}
use Rattle.fixed_agree.proofs.Policies.{by_overflowing}
use Rattle.fixed_agree.proofs.overflowing.unary_signed.Goals as goal

pub returns-in-Abs : goal.returns-in-Abs
unfolding exact
returns-in-Abs g c = rw c.in-Abs.is (by_overflowing g.T.RawWord.SIGNED g.T.Valued.BITS _ _ _ _ _ _ refl c.flagged_of.ensures c.overflowing_abs.ensures)

pub returns-in-Signum : goal.returns-in-Signum
unfolding exact
returns-in-Signum g c = rw c.in-Signum.is (by_overflowing g.T.RawWord.SIGNED g.T.Valued.BITS _ _ _ _ _ _ refl c.flagged_of-in-Signum.ensures c.overflowing_signum.ensures)
