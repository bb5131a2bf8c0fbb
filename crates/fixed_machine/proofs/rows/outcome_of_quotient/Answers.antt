use Rattle.fixed_machine.specs.Rows.{exact}
use Rattle.fixed_machine.proofs.Divisors.{divided}
use Rattle.fixed_machine.proofs.rows.outcome_of_quotient.Goals as goal

pub returns-in-Div : goal.returns-in-Div
unfolding exact
returns-in-Div g c = λ z h k. rw c.in-Div.is (divided _ _ _ _ _ _ c.requires.divisor c.div_of.ensures)

pub returns-in-DivInt : goal.returns-in-DivInt
unfolding exact
returns-in-DivInt g c = λ z h k. rw c.in-DivInt.is (divided _ _ _ _ _ _ c.requires.divisor c.div_int_of.ensures)

pub returns-in-DivEuclid : goal.returns-in-DivEuclid
unfolding exact
returns-in-DivEuclid g c = λ z h k. rw c.in-DivEuclid.is (divided _ _ _ _ _ _ c.requires.divisor c.div_euclid_of.ensures)

pub returns-in-DivEuclidInt : goal.returns-in-DivEuclidInt
unfolding exact
returns-in-DivEuclidInt g c = λ z h k. rw c.in-DivEuclidInt.is (divided _ _ _ _ _ _ c.requires.divisor c.div_euclid_int_of.ensures)

pub returns-in-Rem : goal.returns-in-Rem
unfolding exact
returns-in-Rem g c = λ z h k. rw c.in-Rem.is (divided _ _ _ _ _ _ c.requires.divisor c.rem_of.ensures)

pub returns-in-RemInt : goal.returns-in-RemInt
unfolding exact
returns-in-RemInt g c = λ z h k. rw c.in-RemInt.is (divided _ _ _ _ _ _ c.requires.divisor c.rem_int_of.ensures)

pub returns-in-RemEuclid : goal.returns-in-RemEuclid
unfolding exact
returns-in-RemEuclid g c = λ z h k. rw c.in-RemEuclid.is (divided _ _ _ _ _ _ c.requires.divisor c.rem_euclid_of.ensures)

pub returns-in-RemEuclidInt : goal.returns-in-RemEuclidInt
unfolding exact
returns-in-RemEuclidInt g c = λ z h k. rw c.in-RemEuclidInt.is (divided _ _ _ _ _ _ c.requires.divisor c.rem_euclid_int_of.ensures)

pub returns-in-NextMultipleOf : goal.returns-in-NextMultipleOf
unfolding exact
returns-in-NextMultipleOf g c = λ z h k. rw c.in-NextMultipleOf.is (divided _ _ _ _ _ _ c.requires.divisor c.next_multiple_of_of.ensures)
