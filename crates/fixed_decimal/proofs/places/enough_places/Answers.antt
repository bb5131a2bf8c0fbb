use Rattle.fixed_decimal.proofs.Enough.{enough}
use Rattle.fixed_decimal.proofs.places.enough_places.Goals as goal

pub returns-clause-enough : goal.returns-clause-enough
returns-clause-enough c = enough c.args.frac c.requires
