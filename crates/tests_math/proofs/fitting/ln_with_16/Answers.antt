use Rattle.std.proofs.Common.{true, arith, rules}
use Rattle.fixed_word.specs.Format.{InRange}
use Rattle.tests_math.proofs.fitting.ln_with_16.Goals as goal

pub strict_ln-requires : goal.strict_ln-requires
strict_ln-requires c =
    let range : InRange true 32 c.args.number.bits = search rules in
    (omega arith, (omega arith, (c.requires, λ r. c.ln_law.ensures.fits 24 32 16 c.args.number.bits r (omega arith) (omega arith) (omega arith) (omega arith) range c.requires)))
