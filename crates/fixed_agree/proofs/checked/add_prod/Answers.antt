use Rattle.fixed_machine.specs.Rows.{exact}
use Rattle.fixed_agree.proofs.Policies.{by_checked}
use Rattle.fixed_agree.proofs.checked.add_prod.Goals as goal

pub returns : goal.returns
unfolding exact
returns g c = by_checked g.T.RawWord.SIGNED g.T.Valued.BITS _ _ _ _ c.bits_or_absent.ensures c.checked_add_prod.ensures
