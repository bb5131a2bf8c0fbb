use Rattle.fixed_agree.proofs.Conditions.{no_cause_exactly}
use Rattle.fixed_agree.proofs.laws.condition_law.Goals as goal

pub returns : goal.returns
returns c = no_cause_exactly
