use Rattle.fixed_cast.proofs.Exact.{kept, same_number}
use Rattle.fixed_cast.proofs.beside.strict_whole.Goals as goal

pub strict_num-requires : goal.strict_num-requires
strict_num-requires g c = (_, (c.whole_of.ensures, kept g.T.RawWord.SIGNED g.T.Valued.BITS _ c.requires.fits))

pub returns : goal.returns
returns g c = same_number _ _ (c.strict_num.ensures _ c.whole_of.ensures)
