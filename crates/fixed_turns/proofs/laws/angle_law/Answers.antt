use Rattle.fixed_turns.proofs.AngleLaws.{angle_fits, angle_least, angle_minus, angle_most}
use Rattle.fixed_turns.proofs.laws.angle_law.Goals as goal

pub returns : goal.returns
returns c = record { least = angle_least; most = angle_most; minus = angle_minus; fits = angle_fits }
