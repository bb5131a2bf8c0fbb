use Rattle.fixed_machine.specs.Rows.{exact}
use Rattle.fixed_agree.proofs.Policies.{by_checked}
use Rattle.fixed_agree.proofs.checked.binary.Goals as goal

pub returns-in-Add : goal.returns-in-Add
unfolding exact
returns-in-Add g c = rw c.in-Add.is (by_checked g.T.RawWord.SIGNED g.T.Valued.BITS _ _ _ _ c.bits_or_absent.ensures c.checked_add.ensures)

pub returns-in-Sub : goal.returns-in-Sub
unfolding exact
returns-in-Sub g c = rw c.in-Sub.is (by_checked g.T.RawWord.SIGNED g.T.Valued.BITS _ _ _ _ c.bits_or_absent-in-Sub.ensures c.checked_sub.ensures)

pub returns-in-Div : goal.returns-in-Div
unfolding exact
returns-in-Div g c = rw c.in-Div.is (by_checked g.T.RawWord.SIGNED g.T.Valued.BITS _ _ _ _ c.bits_or_absent-in-Div.ensures c.checked_div.ensures)

pub returns-in-DivEuclid : goal.returns-in-DivEuclid
unfolding exact
returns-in-DivEuclid g c = rw c.in-DivEuclid.is (by_checked g.T.RawWord.SIGNED g.T.Valued.BITS _ _ _ _ c.bits_or_absent-in-DivEuclid.ensures c.checked_div_euclid.ensures)

pub returns-in-NextMultipleOf : goal.returns-in-NextMultipleOf
unfolding exact
returns-in-NextMultipleOf g c = rw c.in-NextMultipleOf.is (by_checked g.T.RawWord.SIGNED g.T.Valued.BITS _ _ _ _ c.bits_or_absent-in-NextMultipleOf.ensures c.checked_next_multiple_of.ensures)

pub returns-in-Dist : goal.returns-in-Dist
unfolding exact
returns-in-Dist g c = rw c.in-Dist.is (by_checked g.T.RawWord.SIGNED g.T.Valued.BITS _ _ _ _ c.bits_or_absent-in-Dist.ensures c.checked_dist.ensures)

pub returns-in-Rem : goal.returns-in-Rem
unfolding exact
returns-in-Rem g c = rw c.in-Rem.is (by_checked g.T.RawWord.SIGNED g.T.Valued.BITS _ _ _ _ c.bits_or_absent-in-Rem.ensures c.checked_rem.ensures)

pub returns-in-RemEuclid : goal.returns-in-RemEuclid
unfolding exact
returns-in-RemEuclid g c = rw c.in-RemEuclid.is (by_checked g.T.RawWord.SIGNED g.T.Valued.BITS _ _ _ _ c.bits_or_absent-in-RemEuclid.ensures c.checked_rem_euclid.ensures)
