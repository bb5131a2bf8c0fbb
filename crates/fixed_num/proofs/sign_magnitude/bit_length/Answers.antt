use Rattle.fixed_num.proofs.Sized.{length_below, length_least}
use Rattle.fixed_num.proofs.sign_magnitude.bit_length.Goals as goal

pub returns-clause-below : goal.returns-clause-below
returns-clause-below c = length_below c.args.magnitude c.ranges.magnitude.fits

pub returns-clause-least : goal.returns-clause-least
returns-clause-least c = length_least c.args.magnitude c.ranges.magnitude.fits
