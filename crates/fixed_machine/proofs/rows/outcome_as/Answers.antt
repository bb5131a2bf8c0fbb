use Rattle.fixed_machine.proofs.rows.outcome_as.Goals as goal

pub returns-in-OfOne : goal.returns-in-OfOne
returns-in-OfOne g c = c.outcome_of_one.ensures _ _ _ _

pub returns-in-ByDivisor : goal.returns-in-ByDivisor
returns-in-ByDivisor g c = c.outcome_by_divisor.ensures _ _ _
