-- The whole number that a sign and a magnitude hold.
use Rattle.std.specs.Prelude.{ℤ}
use Rattle.fixed_word.specs.Format.{with_sign}
use Rattle.fixed_kernel.specs.declared.wide.Wide.{Wide}

abbrev pub value_of : Wide → ℤ
value_of w = with_sign w.below_zero w.magnitude
