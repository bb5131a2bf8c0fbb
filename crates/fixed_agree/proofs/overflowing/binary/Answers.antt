use Rattle.std.proofs.Common.{refl}
use Rattle.fixed_kernel.specs.Rows.{exact_div, exact_div_euclid, exact_next_multiple_of}
use Rattle.fixed_machine.specs.Rows.{exact}
use Rattle.fixed_agree.proofs.Policies.{by_overflowing, some_divided}
use Rattle.fixed_agree.proofs.overflowing.binary.Goals as goal

pub returns-in-Add : goal.returns-in-Add
unfolding exact
returns-in-Add g c = rw c.in-Add.is (by_overflowing g.T.RawWord.SIGNED g.T.Valued.BITS _ _ _ _ _ _ refl c.flagged_of.ensures c.overflowing_add.ensures)

pub returns-in-Mul : goal.returns-in-Mul
unfolding exact
returns-in-Mul g c = rw c.in-Mul.is (by_overflowing g.T.RawWord.SIGNED g.T.Valued.BITS _ _ _ _ _ _ refl c.flagged_of-in-Mul.ensures c.overflowing_mul.ensures)

pub returns-in-Div : goal.returns-in-Div
unfolding exact
returns-in-Div g c = rw c.in-Div.is (by_overflowing g.T.RawWord.SIGNED g.T.Valued.BITS _ _ _ _ _ _ (some_divided (g.T.Valued.value c.args.b.bits) (exact_div (g.T.Valued.value c.args.a.bits) (g.T.Valued.value c.args.b.bits) g.row.F) (rw c.in-Div.is at c.requires.row)) c.flagged_of-in-Div.ensures c.overflowing_div.ensures)

pub returns-in-DivEuclid : goal.returns-in-DivEuclid
unfolding exact
returns-in-DivEuclid g c = rw c.in-DivEuclid.is (by_overflowing g.T.RawWord.SIGNED g.T.Valued.BITS _ _ _ _ _ _ (some_divided (g.T.Valued.value c.args.b.bits) (exact_div_euclid (g.T.Valued.value c.args.a.bits) (g.T.Valued.value c.args.b.bits) g.row.F) (rw c.in-DivEuclid.is at c.requires.row)) c.flagged_of-in-DivEuclid.ensures c.overflowing_div_euclid.ensures)

pub returns-in-NextMultipleOf : goal.returns-in-NextMultipleOf
unfolding exact
returns-in-NextMultipleOf g c = rw c.in-NextMultipleOf.is (by_overflowing g.T.RawWord.SIGNED g.T.Valued.BITS _ _ _ _ _ _ (some_divided (g.T.Valued.value c.args.b.bits) (exact_next_multiple_of (g.T.Valued.value c.args.a.bits) (g.T.Valued.value c.args.b.bits)) (rw c.in-NextMultipleOf.is at c.requires.row)) c.flagged_of-in-NextMultipleOf.ensures c.overflowing_next_multiple_of.ensures)

pub returns-in-Dist : goal.returns-in-Dist
unfolding exact
returns-in-Dist g c = rw c.in-Dist.is (by_overflowing g.T.RawWord.SIGNED g.T.Valued.BITS _ _ _ _ _ _ refl c.flagged_of-in-Dist.ensures c.overflowing_dist.ensures)
