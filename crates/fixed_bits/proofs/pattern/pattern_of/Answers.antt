use Rattle.fixed_bits.proofs.Words.{pattern_list, pattern_small}
use Rattle.fixed_bits.proofs.pattern.pattern_of.Goals as goal

pub returns-clause-digits : goal.returns-clause-digits
returns-clause-digits g c = pattern_list _ _ (g.T.Valued.value c.args.word) _ g.met.T.RawWord.width_law c.to_unsigned.ensures.value c.magnitude.ensures.magnitude

pub returns-clause-small : goal.returns-clause-small
returns-clause-small g c = pattern_small _ _ (g.T.Valued.value c.args.word) _ g.met.T.RawWord.width_law c.to_unsigned.ensures.value c.magnitude.ensures.magnitude
