use Rattle.std.proofs.Common.{◌∙◌}
use Rattle.fixed_word.proofs.Wraps.{width_pos, wrap_same}
use Rattle.fixed_cast.proofs.Exact.{in_range}
use Rattle.fixed_cast.proofs.policies.exact_word.Goals as goal

pub returns : goal.returns
returns g c = λ x h fits. h.wrapped ∙ wrap_same g.T.RawWord.SIGNED g.T.Valued.BITS x (width_pos g.T.Valued.BITS g.met.T.RawWord.width_law) (in_range g.T.RawWord.SIGNED g.T.Valued.BITS x fits)
