use Rattle.fixed_turns.proofs.Lengths.{radian_length}
use Rattle.fixed_turns.proofs.RadianSines.{cosine_even, cosine_fits, cosine_of_zero, cosine_within, sine_fits, sine_minus, sine_of_zero, sine_within}
use Rattle.fixed_turns.proofs.laws.radian_law.Goals as goal

pub returns-clause-sine_of_zero : goal.returns-clause-sine_of_zero
returns-clause-sine_of_zero c = sine_of_zero

pub returns-clause-cosine_of_zero : goal.returns-clause-cosine_of_zero
returns-clause-cosine_of_zero c = cosine_of_zero

pub returns-clause-sine_of_minus : goal.returns-clause-sine_of_minus
returns-clause-sine_of_minus c = sine_minus

pub returns-clause-cosine_of_minus : goal.returns-clause-cosine_of_minus
returns-clause-cosine_of_minus c = cosine_even

pub returns-clause-sine_fits : goal.returns-clause-sine_fits
returns-clause-sine_fits c = sine_fits

pub returns-clause-cosine_fits : goal.returns-clause-cosine_fits
returns-clause-cosine_fits c = cosine_fits

pub returns-clause-sine_least : goal.returns-clause-sine_least
returns-clause-sine_least c k f a r h = (sine_within k f a r h).0

pub returns-clause-sine_most : goal.returns-clause-sine_most
returns-clause-sine_most c k f a r h = (sine_within k f a r h).1

pub returns-clause-cosine_least : goal.returns-clause-cosine_least
returns-clause-cosine_least c k f a r h = (cosine_within k f a r h).0

pub returns-clause-cosine_most : goal.returns-clause-cosine_most
returns-clause-cosine_most c k f a r h = (cosine_within k f a r h).1

pub returns-clause-squares : goal.returns-clause-squares
returns-clause-squares c = radian_length
