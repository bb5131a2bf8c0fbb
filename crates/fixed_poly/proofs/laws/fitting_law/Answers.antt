use Rattle.fixed_poly.proofs.Fitting.{always_fits}
use Rattle.fixed_poly.proofs.laws.fitting_law.Goals as goal

pub returns : goal.returns
returns c = always_fits
