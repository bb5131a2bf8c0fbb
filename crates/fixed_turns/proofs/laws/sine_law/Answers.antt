use Rattle.fixed_turns.proofs.TurnLaws.{sine_fits, sine_least, sine_minus, sine_most, sine_of_half, sine_of_quarter, sine_of_three_quarters, sine_of_zero, sine_turn}
use Rattle.fixed_turns.proofs.laws.sine_law.Goals as goal

pub returns : goal.returns
returns c = record { of_zero = sine_of_zero; of_quarter = sine_of_quarter; of_half = sine_of_half; of_three_quarters = sine_of_three_quarters; turn = sine_turn; minus = sine_minus; least = sine_least; most = sine_most; fits = sine_fits }
