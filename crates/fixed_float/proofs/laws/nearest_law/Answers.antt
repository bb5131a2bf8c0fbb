use Rattle.std.proofs.Common.{◌^◌, suc}
use Rattle.fixed_float.proofs.Formats.{neg-round}
use Rattle.fixed_float.proofs.Nearer.{nearest_of_all}
use Rattle.fixed_float.proofs.laws.nearest_law.Goals as goal

pub returns-clause-nearest : goal.returns-clause-nearest
returns-clause-nearest c = λ f n g N G. nearest_of_all f n g G N

pub returns-clause-below_zero : goal.returns-clause-below_zero
returns-clause-below_zero c = λ f n g. neg-round f (suc n) (2 ^ g)
