use Rattle.std.proofs.Common.{refl}
use Rattle.fixed_kernel.specs.Root.{root_of}
use Rattle.fixed_kernel.specs.Rows.{exact_recip}
use Rattle.fixed_machine.specs.Rows.{exact}
use Rattle.fixed_agree.proofs.Policies.{by_overflowing, some_divided, some_rooted}
use Rattle.fixed_agree.proofs.overflowing.unary.Goals as goal

pub returns-in-Neg : goal.returns-in-Neg
unfolding exact
returns-in-Neg g c = rw c.in-Neg.is (by_overflowing g.T.RawWord.SIGNED g.T.Valued.BITS _ _ _ _ _ _ refl c.flagged_of.ensures c.overflowing_neg.ensures)

pub returns-in-Recip : goal.returns-in-Recip
unfolding exact
returns-in-Recip g c = rw c.in-Recip.is (by_overflowing g.T.RawWord.SIGNED g.T.Valued.BITS _ _ _ _ _ _ (some_divided (g.T.Valued.value c.args.a.bits) (exact_recip (g.T.Valued.value c.args.a.bits) g.row.F) (rw c.in-Recip.is at c.requires.row)) c.flagged_of-in-Recip.ensures c.overflowing_recip.ensures)

pub returns-in-Sqrt : goal.returns-in-Sqrt
unfolding exact
returns-in-Sqrt g c = rw c.in-Sqrt.is (by_overflowing g.T.RawWord.SIGNED g.T.Valued.BITS _ _ _ _ _ _ (some_rooted (g.T.Valued.value c.args.a.bits) (root_of (g.T.Valued.value c.args.a.bits) g.row.F) (rw c.in-Sqrt.is at c.requires.row)) c.flagged_of-in-Sqrt.ensures c.overflowing_sqrt.ensures)
