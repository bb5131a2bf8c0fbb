use Rattle.std.proofs.Common.{refl}
use Rattle.fixed_machine.specs.Rows.{exact}
use Rattle.fixed_agree.proofs.Policies.{by_wrapping}
use Rattle.fixed_agree.proofs.wrapping.mul_add.Goals as goal

pub returns : goal.returns
unfolding exact
returns g c = by_wrapping g.T.RawWord.SIGNED g.T.Valued.BITS _ _ _ _ _ refl c.bits_of.ensures c.wrapping_mul_add.ensures
