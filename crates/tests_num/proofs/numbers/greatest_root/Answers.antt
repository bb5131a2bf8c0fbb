use Rattle.std.proofs.Common.{◌≤ℤ◌, pos, lit≤, rules, arith}
use Rattle.std.proofs.lemmas.Int.{ints}
use Rattle.fixed_root.specs.Root.{root_of}
use Rattle.fixed_kernel.proofs.RowLawsFits.{sqrt_unsigned}
use Rattle.tests_num.proofs.numbers.greatest_root.Goals as goal

pub sqrt_counted-requires : goal.sqrt_counted-requires
sqrt_counted-requires c =
    let fits : root_of (pos c.from_bits.result.bits) 8 ≤ℤ pos 255 = (sqrt_unsigned 8 8 (pos c.from_bits.result.bits) (lit≤ tt) (omega (arith, ints), omega (arith, ints))).1 in
    search rules
