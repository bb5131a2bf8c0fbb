-- The value so far is that of the digits so far, capped.
use Rattle.std.proofs.Common.{◌≡◌, take}
use Rattle.std.specs.Str.Parse.{digits_value}
use Rattle.fixed_digits.specs.Numerals.{cap}
use Rattle.fixed_digits.proofs.numerals.value_of.Given as goal

abbrev pub invariant-loop-b : goal.invariant-loop-b
invariant-loop-b l = l.value ≡ cap (digits_value 10 (take l.b-index l.digits))
