use Rattle.std.proofs.Common.{◌%◌, ap, arith}
use Rattle.std.proofs.Math.Nat.{one-le-pow}
use Rattle.std.proofs.lemmas.Nat.{one_shl}
use Rattle.fixed_decimal.proofs.halves.low_bits.Goals as goal

pub nonzero_rem-result : goal.nonzero_rem-result
nonzero_rem-result c = omega (arith, one_shl c.args.count 128 (omega arith), one-le-pow c.args.count 2 (omega arith))

pub returns : goal.returns
returns c = ap (λ n. c.args.number % n) (one_shl c.args.count 128 (omega arith))
