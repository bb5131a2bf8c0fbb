use Rattle.std.proofs.Common.{◌^◌}
use Rattle.fixed_elementary.specs.inside.Digits.{IsRead}
use Rattle.fixed_elementary.proofs.mantissas.narrow_squarings.Given as goal

abbrev pub invariant-loop-i : goal.invariant-loop-i
invariant-loop-i l = IsRead (2 ^ 63) l.fn.a l.i l.digits l.mantissa
