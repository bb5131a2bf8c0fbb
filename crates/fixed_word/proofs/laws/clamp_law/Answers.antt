use Rattle.fixed_word.proofs.Nearest.{clamp_above, clamp_below, clamp_in_range, clamp_nearest}
use Rattle.fixed_word.proofs.Standings.{clamp_same}
use Rattle.fixed_word.proofs.laws.clamp_law.Goals as goal

pub returns : goal.returns
returns c = record {
  in_range = clamp_in_range;
  same = clamp_same;
  below = clamp_below;
  above = clamp_above;
  nearest = clamp_nearest;
}
