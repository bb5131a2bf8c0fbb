use Rattle.fixed_logs.proofs.LogLaws.{log_of_raised, log_of_whole}
use Rattle.fixed_logs.proofs.laws.log_parts_law.Goals as goal

pub returns : goal.returns
returns c = record { of_whole = log_of_whole; of_raised = log_of_raised }
