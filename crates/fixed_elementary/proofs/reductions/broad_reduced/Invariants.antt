use Rattle.std.proofs.Common.{◌*◌, ◌^◌}
use Rattle.fixed_elementary.specs.inside.Reduced.{IsNearOne, IsOver}
use Rattle.fixed_elementary.proofs.reductions.broad_reduced.Given as goal

abbrev pub invariant-loop-group : goal.invariant-loop-group
invariant-loop-group l = IsNearOne (2 ^ 127) (2 ^ 64) (128 ^ l.group) l.group l.part.mantissa × IsOver 126 (3 * l.group) l.fn.mantissa l.part.mantissa l.part.log
