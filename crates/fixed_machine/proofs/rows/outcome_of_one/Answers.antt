use Rattle.std.proofs.Common.{◌≡◌, pos, refl, sym, ap, ◌∙◌}
use Rattle.fixed_machine.specs.Rows.{exact}
use Rattle.fixed_machine.proofs.Divisors.{divided, no_row, not_zero}
use Rattle.fixed_machine.proofs.rows.outcome_of_one.Goals as goal

pub returns-in-Neg : goal.returns-in-Neg
unfolding exact
returns-in-Neg g c = λ y z h k. rw c.in-Neg.is (_, refl, c.neg_of.ensures)

pub returns-in-Abs : goal.returns-in-Abs
unfolding exact
returns-in-Abs g c = λ y z h k. rw c.in-Abs.is (_, refl, c.abs_of.ensures)

pub returns-in-Signum : goal.returns-in-Signum
unfolding exact
returns-in-Signum g c = λ y z h k. rw c.in-Signum.is (_, refl, c.signum_of.ensures)

pub returns-in-NextPowerOfTwo : goal.returns-in-NextPowerOfTwo
unfolding exact
returns-in-NextPowerOfTwo g c = λ y z h k. rw c.in-NextPowerOfTwo.is (_, refl, c.next_power_of_two_of.ensures)

pub returns-then-eq : goal.returns-then-eq
unfolding exact
returns-then-eq g c = λ y z h k. rw c.in-Recip.is (no_row _ _ ((g.met.T.Ordered.eq_law _ _).0 (sym c.eq.ensures ∙ c.if-eq.true) ∙ ap g.T.Valued.value c.ZERO.ensures ∙ g.met.T.RawWord.zero_law))

pub returns-else-eq : goal.returns-else-eq
unfolding exact
returns-else-eq g c = λ y z h k.
    let zero_is : g.T.Valued.value c.ZERO.result ≡ pos 0 = ap g.T.Valued.value c.ZERO.ensures ∙ g.met.T.RawWord.zero_law in
    let some = not_zero _ _ _ (g.met.T.Ordered.eq_law _ _) zero_is (sym c.eq.ensures ∙ c.if-eq.false) in
    rw c.in-Recip.is (divided _ _ _ _ _ _ some c.recip_of.ensures)
