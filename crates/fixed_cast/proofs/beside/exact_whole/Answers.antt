use Rattle.fixed_cast.proofs.Exact.{kept, same_number}
use Rattle.fixed_cast.proofs.beside.exact_whole.Goals as goal

pub returns : goal.returns
returns g c = same_number _ _ (c.exact_num.ensures _ c.whole_of.ensures (kept g.T.RawWord.SIGNED g.T.Valued.BITS _ c.requires.fits))
