-- The value so far is that of the digits so far.
use Rattle.std.proofs.Common.{◌≡◌, ◌≤◌, ◌-◌, take, drop, true}
use Rattle.std.specs.List.{list_all}
use Rattle.std.specs.Char.{is_ascii_digit}
use Rattle.std.specs.Str.Parse.{digits_value}
use Rattle.fixed_machine.proofs.quick.digits_at.Given as goal

abbrev pub invariant-loop-count : goal.invariant-loop-count
invariant-loop-count l = record {
  most : l.count ≤ 19;
  digits : list_all is_ascii_digit (take l.count (drop l.at l.bytes)) ≡ true;
  value : l.value ≡ digits_value 10 (take l.count (drop l.at l.bytes));
}

abbrev pub decreases-loop-count : goal.decreases-loop-count
decreases-loop-count l = 19 - l.count
