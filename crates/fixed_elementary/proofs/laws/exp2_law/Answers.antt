use Rattle.fixed_elementary.proofs.ExpLaws.{exp2_below, exp2_exact, exp2_from_zero, exp2_monotone, exp2_of_log2}
use Rattle.fixed_elementary.proofs.Returned.{exp2_of_log2_near, exp2_of_log2_powers}
use Rattle.fixed_elementary.proofs.laws.exp2_law.Goals as goal

pub returns : goal.returns
returns c = record {
  exact = exp2_exact;
  from_zero = exp2_from_zero;
  below = exp2_below;
  monotone = exp2_monotone;
  of_log2 = exp2_of_log2;
  near_log2 = exp2_of_log2_near;
  near_log2_powers = exp2_of_log2_powers;
}
