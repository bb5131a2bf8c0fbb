use Rattle.fixed_word.proofs.Nearest.{fits_is}
use Rattle.fixed_word.proofs.laws.fits_law.Goals as goal

pub returns : goal.returns
returns c = fits_is
