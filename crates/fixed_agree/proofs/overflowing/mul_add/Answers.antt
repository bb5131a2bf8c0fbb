use Rattle.std.proofs.Common.{refl}
use Rattle.fixed_machine.specs.Rows.{exact}
use Rattle.fixed_agree.proofs.Policies.{by_overflowing}
use Rattle.fixed_agree.proofs.overflowing.mul_add.Goals as goal

pub returns : goal.returns
unfolding exact
returns g c = by_overflowing g.T.RawWord.SIGNED g.T.Valued.BITS _ _ _ _ _ _ refl c.flagged_of.ensures c.overflowing_mul_add.ensures
