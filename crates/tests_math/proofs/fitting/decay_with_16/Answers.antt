use Rattle.std.proofs.Common.{◌^◌, ◌≤ℤ◌, pos, arith}
use Rattle.std.proofs.lemmas.Int.{ints}
use Rattle.tests_math.proofs.fitting.decay_with_16.Goals as goal

pub strict_exp-requires : goal.strict_exp-requires
strict_exp-requires c = (
  omega arith,
  (
    omega arith,
    λ r h.
        let low = c.exp_law.ensures.from_zero 16 c.args.number.bits r h in
        let high : r ≤ℤ pos (2 ^ 16) = c.exp_law.ensures.up_to_one 16 c.args.number.bits r (omega arith) c.requires h in
        (omega (arith, ints), omega (arith, ints)),
  ),
)
