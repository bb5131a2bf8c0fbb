use Rattle.std.proofs.Common.{arith}
use Rattle.tests_math.proofs.turns_fitting.sine_and_cosine_in_radians.Goals as goal

pub strict_sin-requires : goal.strict_sin-requires
strict_sin-requires c = (omega arith, (omega arith, λ r. c.radian_law.ensures.sine_fits 41 32 16 c.args.angle.bits r (omega arith)))

pub unwrapped_cos-requires : goal.unwrapped_cos-requires
unwrapped_cos-requires c = (omega arith, (omega arith, λ r. c.radian_law.ensures.cosine_fits 41 32 16 c.args.angle.bits r (omega arith)))
