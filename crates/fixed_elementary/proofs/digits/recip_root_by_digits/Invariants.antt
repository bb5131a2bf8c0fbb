use Rattle.std.proofs.Common.{◌+◌, ◌%◌, ◌^◌}
use Rattle.fixed_elementary.proofs.Turns.{Found}
use Rattle.fixed_elementary.proofs.digits.recip_root_by_digits.Given as goal

abbrev pub invariant-loop-i : goal.invariant-loop-i
invariant-loop-i l = Found l.fn.a (2 ^ (126 + l.fn.exponent % 2)) l.part.root l.part.remainder l.part.rest l.i
