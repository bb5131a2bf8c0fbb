use Rattle.std.proofs.Common.{true, refl, inl, lit<, rules, arith}
use Rattle.std.proofs.lemmas.Int.{ints}
use Rattle.fixed_word.specs.Format.{InRange}
use Rattle.fixed_root.specs.Root.{root_of}
use Rattle.fixed_ops.proofs.Roots.{root_fits}
use Rattle.tests_num.proofs.plain_names.root_of_two.Goals as goal

pub sqrt-requires : goal.sqrt-requires
sqrt-requires c =
    let a = c.i8_of.result.bits in
    let fits : InRange true 8 (root_of a 4) = root_fits 8 4 a (inl refl) (lit< tt) (omega (arith, ints), omega (arith, ints)) (omega (arith, ints)) in
    search rules
