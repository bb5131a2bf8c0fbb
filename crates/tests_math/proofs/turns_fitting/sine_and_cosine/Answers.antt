use Rattle.std.proofs.Common.{arith}
use Rattle.tests_math.proofs.turns_fitting.sine_and_cosine.Goals as goal

pub strict_sin_turns-requires : goal.strict_sin_turns-requires
strict_sin_turns-requires c = (omega arith, (omega arith, λ r. c.sine_law.ensures.fits 41 32 16 c.args.angle.bits r (omega arith)))

pub unwrapped_cos_turns-requires : goal.unwrapped_cos_turns-requires
unwrapped_cos_turns-requires c = (omega arith, (omega arith, λ r. c.cosine_law.ensures.fits 41 32 16 c.args.angle.bits r (omega arith)))
