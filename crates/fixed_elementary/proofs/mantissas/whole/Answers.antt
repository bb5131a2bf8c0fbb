use Rattle.std.proofs.Common.{rules}
use Rattle.fixed_elementary.proofs.Reading.{mantissa_is}
use Rattle.fixed_elementary.proofs.mantissas.whole.Goals as goal

pub returns-clause-value : goal.returns-clause-value
returns-clause-value c =
    let z = c.zeros_of-zeros.ensures in
    mantissa_is c.args.a c.zeros_of-zeros.result _ _ z.few z.below z.above (search rules) c.raised.ensures
