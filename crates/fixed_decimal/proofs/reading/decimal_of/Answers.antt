use Rattle.fixed_kernel.proofs.Alikes.{width_at_most}
use Rattle.std.proofs.Common.{arith}
use Rattle.fixed_decimal.specs.Decimal.{decimal_row}
use Rattle.fixed_decimal.proofs.Decided.{fault_stood, stood}
use Rattle.fixed_decimal.proofs.reading.decimal_of.Goals as goal

pub magnitude_of-requires : goal.magnitude_of-requires
magnitude_of-requires g c = omega (arith, c.requires, width_at_most g.T.Valued.BITS g.met.T.RawWord.width_law)

pub returns-in-Ok : goal.returns-in-Ok
returns-in-Ok g c =
    stood g.T.Valued.value g.T.RawWord.SIGNED g.T.Valued.BITS (decimal_row c.args.text.now c.args.frac c.args.rounding) c.in-Ok.below_zero c.in-Ok.magnitude c.outcome_of_magnitude.result
    g.met.T.RawWord.width_law c.in-Ok.ensures c.outcome_of_magnitude.ensures

pub returns-in-Err : goal.returns-in-Err
returns-in-Err g c =
    fault_stood g.T.Valued.value g.T.RawWord.SIGNED g.T.Valued.BITS (decimal_row c.args.text.now c.args.frac c.args.rounding) c.in-Err.error c.in-Err.ensures
