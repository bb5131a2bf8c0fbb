use Rattle.std.proofs.Common.{sym}
use Rattle.fixed_elementary.proofs.Reading.{log2_is}
use Rattle.fixed_elementary.proofs.logarithms.log2_of.Goals as goal

pub returns : goal.returns
returns g c =
    let is = log2_is g.T.Valued.BITS _ (g.T.Valued.value c.args.a) _ c.args.frac _ c.BITS.ensures c.requires.sign c.magnitude.ensures.magnitude c.units_of.ensures in
    (_, is, rw (sym c.in_units.ensures) c.outcome_of_difference.ensures)
