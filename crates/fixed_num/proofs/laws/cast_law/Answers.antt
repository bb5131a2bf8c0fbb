use Rattle.std.proofs.Common.{◌∙◌}
use Rattle.fixed_word.proofs.Wraps.{width_pos, wrap-wrap, wrap_same}
use Rattle.fixed_num.proofs.laws.cast_law.Goals as goal

pub returns : goal.returns
returns c = λ s t n x w h. wrap-wrap s t n x (width_pos n w) ∙ wrap_same s n x (width_pos n w) h
