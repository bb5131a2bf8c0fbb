use Rattle.std.proofs.Common.{arith}
use Rattle.tests_math.proofs.turns_fitting.angle_of.Goals as goal

pub strict_atan2_turns-requires : goal.strict_atan2_turns-requires
strict_atan2_turns-requires c =
    (omega arith, (omega arith, (c.requires, λ r h. c.angle_law.ensures.fits 40 32 16 c.args.x.bits c.args.y.bits r (omega arith) h)))
