use Rattle.fixed_natural.proofs.NaturalLaws.{exp_below, exp_from_zero, exp_of_zero, exp_up_to_one}
use Rattle.fixed_natural.proofs.laws.exp_law.Goals as goal

pub returns : goal.returns
returns c = record { of_zero = exp_of_zero; from_zero = exp_from_zero; up_to_one = exp_up_to_one; below = exp_below }
