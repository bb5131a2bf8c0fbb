use Rattle.fixed_turns.proofs.Bisected.{angle_fits, minus_angle, on_the_axis}
use Rattle.fixed_turns.proofs.laws.radian_angle_law.Goals as goal

pub returns-clause-axis : goal.returns-clause-axis
returns-clause-axis c = on_the_axis

pub returns-clause-minus : goal.returns-clause-minus
returns-clause-minus c = minus_angle

pub returns-clause-fits : goal.returns-clause-fits
returns-clause-fits c = angle_fits
