use Rattle.fixed_calc.proofs.Calls.{reads_law, writes_law}
use Rattle.fixed_calc.proofs.laws.calls_law.Goals as goal

pub returns : goal.returns
returns c = record { reads = reads_law; writes = writes_law }
