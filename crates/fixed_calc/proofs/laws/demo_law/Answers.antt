use Rattle.fixed_calc.proofs.Demonstrated.{demo_no_cause, demo_output, demo_one_each}
use Rattle.fixed_calc.proofs.laws.demo_law.Goals as goal

pub returns : goal.returns
returns c = record { no_cause = demo_no_cause; output = demo_output; one_each = demo_one_each }
