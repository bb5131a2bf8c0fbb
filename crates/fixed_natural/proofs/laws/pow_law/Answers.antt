use Rattle.fixed_natural.proofs.NaturalLaws.{pow_exact, pow_from_zero, pow_up_to_one}
use Rattle.fixed_natural.proofs.laws.pow_law.Goals as goal

pub returns : goal.returns
returns c = record { from_zero = pow_from_zero; up_to_one = pow_up_to_one; exact = pow_exact }
