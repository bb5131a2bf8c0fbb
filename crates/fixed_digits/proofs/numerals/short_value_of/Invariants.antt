-- The bytes so far are digits, and the value is that of these.
use Rattle.fixed_digits.proofs.Short.{IsRead}
use Rattle.fixed_digits.proofs.numerals.short_value_of.Given as goal

abbrev pub invariant-loop-b : goal.invariant-loop-b
invariant-loop-b l = IsRead l.bytes l.b-index l.value
