use Rattle.std.proofs.Common.{arith}
use Rattle.tests_math.proofs.turns_fitting.angle_in_radians.Goals as goal

pub strict_atan2-requires : goal.strict_atan2-requires
strict_atan2-requires c = (omega arith, (omega arith, (c.requires, λ r. c.radian_angle_law.ensures.fits 41 32 16 c.args.x.bits c.args.y.bits r (omega arith))))

pub unwrapped_atan2-requires : goal.unwrapped_atan2-requires
unwrapped_atan2-requires c = (omega arith, (omega arith, (c.requires, λ r. c.radian_angle_law.ensures.fits 41 32 16 c.args.x.bits c.args.y.bits r (omega arith))))
