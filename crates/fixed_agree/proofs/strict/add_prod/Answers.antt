use Rattle.std.proofs.Common.{refl}
use Rattle.fixed_machine.specs.Rows.{exact}
use Rattle.fixed_agree.proofs.Policies.{by_strict}
use Rattle.fixed_agree.proofs.strict.add_prod.Goals as goal

pub returns : goal.returns
unfolding exact
returns g c = by_strict g.T.RawWord.SIGNED g.T.Valued.BITS _ _ _ _ _ refl c.bits_of.ensures c.strict_add_prod.ensures
