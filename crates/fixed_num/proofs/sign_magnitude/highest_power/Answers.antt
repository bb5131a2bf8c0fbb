use Rattle.fixed_num.proofs.Sized.{power_shown}
use Rattle.fixed_num.proofs.sign_magnitude.highest_power.Goals as goal

pub returns : goal.returns
returns c = power_shown c.args.magnitude c.bit_length.result c.requires c.bit_length.ensures.at_most c.bit_length.ensures.below c.bit_length.ensures.least
