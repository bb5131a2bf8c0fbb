use Rattle.std.proofs.Common.{false, pos, lit≤, rules, arith}
use Rattle.std.proofs.lemmas.Int.{ints}
use Rattle.fixed_word.specs.Format.{InRange}
use Rattle.fixed_root.specs.Root.{root_of}
use Rattle.fixed_kernel.proofs.RowLawsFits.{sqrt_unsigned}
use Rattle.tests_num.proofs.plain_names.greatest_root.Goals as goal

pub sqrt-requires : goal.sqrt-requires
sqrt-requires c =
    let a = pos c.u8_of.result.bits in
    let fits : InRange false 8 (root_of a 8) = sqrt_unsigned 8 8 a (lit≤ tt) (omega (arith, ints), omega (arith, ints)) in
    search rules
