use Rattle.std.proofs.Common.{refl}
use Rattle.fixed_machine.specs.Rows.{exact}
use Rattle.fixed_agree.proofs.Policies.{by_saturating}
use Rattle.fixed_agree.proofs.saturating.unary_signed.Goals as goal

pub returns-in-Abs : goal.returns-in-Abs
unfolding exact
returns-in-Abs g c = rw c.in-Abs.is (by_saturating g.T.RawWord.SIGNED g.T.Valued.BITS _ _ _ _ _ refl c.bits_of.ensures c.saturating_abs.ensures)

pub returns-in-Signum : goal.returns-in-Signum
unfolding exact
returns-in-Signum g c = rw c.in-Signum.is (by_saturating g.T.RawWord.SIGNED g.T.Valued.BITS _ _ _ _ _ refl c.bits_of-in-Signum.ensures c.saturating_signum.ensures)
