use Rattle.fixed_bits.proofs.Words.{word_list}
use Rattle.fixed_bits.proofs.pattern.word_of.Goals as goal

pub returns : goal.returns
returns g c = word_list g.T.RawWord.SIGNED _ c.args.pattern _ g.met.T.RawWord.width_law c.residue.ensures
