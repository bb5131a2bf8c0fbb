use Rattle.std.proofs.Common.{refl}
use Rattle.fixed_elementary.proofs.Halves.{scaled_is}
use Rattle.fixed_elementary.proofs.wide.broad_scaled.Goals as goal

pub returns-clause-below : goal.returns-clause-below
returns-clause-below c = (scaled_is c.args.number c.split-number.result.high c.split-number.result.low c.args.factor c.from-factor.result _ c.split-number.ensures.value c.from-factor.ensures refl).0

pub returns-clause-above : goal.returns-clause-above
returns-clause-above c = (scaled_is c.args.number c.split-number.result.high c.split-number.result.low c.args.factor c.from-factor.result _ c.split-number.ensures.value c.from-factor.ensures refl).1
