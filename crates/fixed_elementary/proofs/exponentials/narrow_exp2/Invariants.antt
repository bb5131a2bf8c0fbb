use Rattle.std.proofs.Common.{◌-◌, ◌*◌, ◌/◌, ◌^◌}
use Rattle.fixed_elementary.specs.inside.Power.{IsPart}
use Rattle.fixed_elementary.proofs.exponentials.narrow_exp2.Given as goal

abbrev pub invariant-loop-i : goal.invariant-loop-i
invariant-loop-i l = IsPart (2 ^ 62) (8 * l.i) (2 * l.i) (l.fn.part / 2 ^ (8 * (l.fn.groups - l.i))) l.power
