use Rattle.std.proofs.Common.{◌∙◌, true, false}
use Rattle.fixed_word.proofs.Wraps.{width_pos, wrap-wrap, wrap_same}
use Rattle.fixed_word.proofs.laws.return_law.Goals as goal

pub returns : goal.returns
returns c = record {
  by_unsigned = λ s n x w r. wrap-wrap s false n x (width_pos n w) ∙ wrap_same s n x (width_pos n w) r;
  by_signed = λ s n x w r. wrap-wrap s true n x (width_pos n w) ∙ wrap_same s n x (width_pos n w) r;
}
