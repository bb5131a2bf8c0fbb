use Rattle.std.proofs.Common.{Some, ap, ◌∙◌}
use Rattle.fixed_cast.proofs.Exact.{kept_side}
use Rattle.fixed_cast.proofs.policies.strict_num.Goals as goal

pub strict_word-requires : goal.strict_word-requires
strict_word-requires g c = kept_side g.N.Word.Valued.value g.N.Word.RawWord.SIGNED g.N.Word.Valued.BITS c.args.outcome c.requires

pub returns : goal.returns
returns g c = λ x h. ap (λ (z : _). Some z) (c.from_word.ensures ∙ c.strict_word.ensures x h)
