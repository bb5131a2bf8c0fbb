use Rattle.std.specs.Float.{binary64}
use Rattle.fixed_float.proofs.Formats.{below_nans}
use Rattle.fixed_float.proofs.binary.F64Binary.of_pattern.Goals as goal

pub float_from_bits-result : goal.float_from_bits-result
float_from_bits-result c = below_nans binary64 c.args.bits c.requires.not_nan
