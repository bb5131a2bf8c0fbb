use Rattle.std.proofs.Common.{refl}
use Rattle.fixed_machine.specs.Rows.{exact}
use Rattle.fixed_agree.proofs.Policies.{by_saturating}
use Rattle.fixed_agree.proofs.saturating.add_prod.Goals as goal

pub returns : goal.returns
unfolding exact
returns g c = by_saturating g.T.RawWord.SIGNED g.T.Valued.BITS _ _ _ _ _ refl c.bits_of.ensures c.saturating_add_prod.ensures
