-- The whole number of a sign and a magnitude, and its quotients.
use Rattle.std.specs.Prelude.{ℤ}
use Rattle.fixed_word.specs.Format.{with_sign}
use Rattle.fixed_interval.specs.declared.signed_magnitude.Outward.{Outward}
use Rattle.fixed_interval.specs.declared.signed_magnitude.Outward.TheVariants.{Down, Up}
use Rattle.fixed_interval.specs.declared.signed_magnitude.SignedMagnitude.{SignedMagnitude}
use Rattle.fixed_interval.specs.Ends.{ceiling_over, floor_over}

abbrev pub value_of : SignedMagnitude → ℤ
value_of w = with_sign w.below_zero w.magnitude

abbrev pub rounded_over : Outward → ℤ → ℤ → ℤ
rounded_over Down x d = floor_over x d
rounded_over Up x d = ceiling_over x d
