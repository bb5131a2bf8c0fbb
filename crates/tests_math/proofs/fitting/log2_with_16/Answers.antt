use Rattle.std.proofs.Common.{true, arith, rules}
use Rattle.fixed_word.specs.Format.{InRange}
use Rattle.tests_math.proofs.fitting.log2_with_16.Goals as goal

pub strict_log2-requires : goal.strict_log2-requires
strict_log2-requires c =
    let range : InRange true 32 c.args.number.bits = search rules in
    (omega arith, (omega arith, (c.requires, λ r. c.log2_law.ensures.fits 62 32 16 c.args.number.bits r (omega arith) (omega arith) (omega arith) (omega arith) range c.requires)))
