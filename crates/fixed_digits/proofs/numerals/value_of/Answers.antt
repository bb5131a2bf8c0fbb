use Rattle.fixed_digits.proofs.Capping.{value_more}
use Rattle.fixed_digits.proofs.numerals.value_of.Goals as goal

pub loop-b-preserved : goal.loop-b-preserved
loop-b-preserved c = value_more _ _ _ _ c.requires c.loop-b-test.true c.loop-b.invariant (cc)
