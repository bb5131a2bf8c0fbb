use Rattle.std.proofs.Common.{refl}
use Rattle.fixed_machine.specs.Rows.{exact}
use Rattle.fixed_agree.proofs.Policies.{by_wrapping}
use Rattle.fixed_agree.proofs.wrapping.add_prod.Goals as goal

pub returns : goal.returns
unfolding exact
returns g c = by_wrapping g.T.RawWord.SIGNED g.T.Valued.BITS _ _ _ _ _ refl c.bits_of.ensures c.wrapping_add_prod.ensures
