use Rattle.fixed_logs.proofs.LogLaws.{log_exists, log_unique}
use Rattle.fixed_logs.proofs.laws.log_law.Goals as goal

pub returns : goal.returns
returns c = record { exists = log_exists; unique = log_unique }
