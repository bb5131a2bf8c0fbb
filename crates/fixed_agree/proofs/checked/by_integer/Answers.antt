use Rattle.fixed_machine.specs.Rows.{exact}
use Rattle.fixed_agree.proofs.Policies.{by_checked}
use Rattle.fixed_agree.proofs.checked.by_integer.Goals as goal

pub returns-in-MulInt : goal.returns-in-MulInt
unfolding exact
returns-in-MulInt g c = rw c.in-MulInt.is (by_checked g.T.RawWord.SIGNED g.T.Valued.BITS _ _ _ _ c.bits_or_absent.ensures c.checked_mul_int.ensures)

pub returns-in-DivInt : goal.returns-in-DivInt
unfolding exact
returns-in-DivInt g c = rw c.in-DivInt.is (by_checked g.T.RawWord.SIGNED g.T.Valued.BITS _ _ _ _ c.bits_or_absent-in-DivInt.ensures c.checked_div_int.ensures)

pub returns-in-DivEuclidInt : goal.returns-in-DivEuclidInt
unfolding exact
returns-in-DivEuclidInt g c = rw c.in-DivEuclidInt.is (by_checked g.T.RawWord.SIGNED g.T.Valued.BITS _ _ _ _ c.bits_or_absent-in-DivEuclidInt.ensures c.checked_div_euclid_int.ensures)

pub returns-in-RemEuclidInt : goal.returns-in-RemEuclidInt
unfolding exact
returns-in-RemEuclidInt g c = rw c.in-RemEuclidInt.is (by_checked g.T.RawWord.SIGNED g.T.Valued.BITS _ _ _ _ c.bits_or_absent-in-RemEuclidInt.ensures c.checked_rem_euclid_int.ensures)

pub returns-in-RemInt : goal.returns-in-RemInt
unfolding exact
returns-in-RemInt g c = rw c.in-RemInt.is (by_checked g.T.RawWord.SIGNED g.T.Valued.BITS _ _ _ _ c.bits_or_absent-in-RemInt.ensures c.checked_rem_int.ensures)
