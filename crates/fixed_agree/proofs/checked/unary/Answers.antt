use Rattle.fixed_machine.specs.Rows.{exact}
use Rattle.fixed_agree.proofs.Policies.{by_checked}
use Rattle.fixed_agree.proofs.checked.unary.Goals as goal

pub returns-in-Neg : goal.returns-in-Neg
unfolding exact
returns-in-Neg g c = rw c.in-Neg.is (by_checked g.T.RawWord.SIGNED g.T.Valued.BITS _ _ _ _ c.bits_or_absent.ensures c.checked_neg.ensures)

pub returns-in-Recip : goal.returns-in-Recip
unfolding exact
returns-in-Recip g c = rw c.in-Recip.is (by_checked g.T.RawWord.SIGNED g.T.Valued.BITS _ _ _ _ c.bits_or_absent-in-Recip.ensures c.checked_recip.ensures)

pub returns-in-Sqrt : goal.returns-in-Sqrt
unfolding exact
returns-in-Sqrt g c = rw c.in-Sqrt.is (by_checked g.T.RawWord.SIGNED g.T.Valued.BITS _ _ _ _ c.bits_or_absent-in-Sqrt.ensures c.checked_sqrt.ensures)
