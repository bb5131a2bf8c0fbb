use Rattle.fixed_turns.proofs.Pi.{sine_above_zero, sine_not_above_zero}
use Rattle.fixed_turns.proofs.laws.pi_law.Goals as goal

pub returns : goal.returns
returns c = record { above_zero = sine_above_zero; not_above_zero = sine_not_above_zero }
