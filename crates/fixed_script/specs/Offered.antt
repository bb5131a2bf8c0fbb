-- Which policies an operation is offered under, on signed and unsigned words.
use Rattle.std.specs.Prelude.{Bool, true, false, not, ◌&&◌}
use Rattle.fixed_script.specs.declared.names.Policy.{Policy}
use Rattle.fixed_script.specs.declared.names.Policy.TheVariants.{Checked, Wrapping, Strict}
use Rattle.fixed_script.specs.declared.names.Op.{Op}
use Rattle.fixed_script.specs.declared.names.Op.TheVariants.{Abs, Signum, Rem, RemInt, RemEuclid, NextPowerOfTwo}

abbrev pub is_checked_or_strict : Policy → Bool
is_checked_or_strict Checked = true
is_checked_or_strict Strict = true
is_checked_or_strict _ = false

unfoldable pub is_offered : Bool → Policy → Op → Bool
is_offered signed policy Abs = signed
is_offered signed policy Signum = signed
is_offered signed policy Rem = is_checked_or_strict policy
is_offered signed policy RemInt = is_checked_or_strict policy
is_offered signed policy RemEuclid = is_checked_or_strict policy
is_offered signed Wrapping NextPowerOfTwo = not signed
is_offered signed policy NextPowerOfTwo = not signed && is_checked_or_strict policy
is_offered signed policy _ = true
