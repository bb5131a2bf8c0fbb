use Rattle.std.proofs.Common.{refl}
use Rattle.fixed_word.specs.Quotient.{euclidean_remainder}
use Rattle.fixed_kernel.specs.Rows.{exact_div, exact_div_euclid, exact_next_multiple_of}
use Rattle.fixed_machine.specs.Rows.{exact}
use Rattle.fixed_agree.proofs.Policies.{by_strict, fit_divided}
use Rattle.fixed_agree.proofs.strict.binary.Goals as goal

pub returns-in-Add : goal.returns-in-Add
unfolding exact
returns-in-Add g c = rw c.in-Add.is (by_strict g.T.RawWord.SIGNED g.T.Valued.BITS _ _ _ _ _ refl c.bits_of.ensures c.strict_add.ensures)

pub returns-in-Sub : goal.returns-in-Sub
unfolding exact
returns-in-Sub g c = rw c.in-Sub.is (by_strict g.T.RawWord.SIGNED g.T.Valued.BITS _ _ _ _ _ refl c.bits_of-in-Sub.ensures c.strict_sub.ensures)

pub returns-in-Mul : goal.returns-in-Mul
unfolding exact
returns-in-Mul g c = rw c.in-Mul.is (by_strict g.T.RawWord.SIGNED g.T.Valued.BITS _ _ _ _ _ refl c.bits_of-in-Mul.ensures c.strict_mul.ensures)

pub returns-in-Div : goal.returns-in-Div
unfolding exact
returns-in-Div g c = rw c.in-Div.is (by_strict g.T.RawWord.SIGNED g.T.Valued.BITS _ _ _ _ _ (fit_divided g.T.RawWord.SIGNED g.T.Valued.BITS (g.T.Valued.value c.args.b.bits) (exact_div (g.T.Valued.value c.args.a.bits) (g.T.Valued.value c.args.b.bits) g.row.F) (rw c.in-Div.is at c.requires.row)) c.bits_of-in-Div.ensures c.strict_div.ensures)

pub returns-in-DivEuclid : goal.returns-in-DivEuclid
unfolding exact
returns-in-DivEuclid g c = rw c.in-DivEuclid.is (by_strict g.T.RawWord.SIGNED g.T.Valued.BITS _ _ _ _ _ (fit_divided g.T.RawWord.SIGNED g.T.Valued.BITS (g.T.Valued.value c.args.b.bits) (exact_div_euclid (g.T.Valued.value c.args.a.bits) (g.T.Valued.value c.args.b.bits) g.row.F) (rw c.in-DivEuclid.is at c.requires.row)) c.bits_of-in-DivEuclid.ensures c.strict_div_euclid.ensures)

pub returns-in-NextMultipleOf : goal.returns-in-NextMultipleOf
unfolding exact
returns-in-NextMultipleOf g c = rw c.in-NextMultipleOf.is (by_strict g.T.RawWord.SIGNED g.T.Valued.BITS _ _ _ _ _ (fit_divided g.T.RawWord.SIGNED g.T.Valued.BITS (g.T.Valued.value c.args.b.bits) (exact_next_multiple_of (g.T.Valued.value c.args.a.bits) (g.T.Valued.value c.args.b.bits)) (rw c.in-NextMultipleOf.is at c.requires.row)) c.bits_of-in-NextMultipleOf.ensures c.strict_next_multiple_of.ensures)

pub returns-in-Dist : goal.returns-in-Dist
unfolding exact
returns-in-Dist g c = rw c.in-Dist.is (by_strict g.T.RawWord.SIGNED g.T.Valued.BITS _ _ _ _ _ refl c.bits_of-in-Dist.ensures c.strict_dist.ensures)

pub returns-in-RemEuclid : goal.returns-in-RemEuclid
unfolding exact
returns-in-RemEuclid g c = rw c.in-RemEuclid.is (by_strict g.T.RawWord.SIGNED g.T.Valued.BITS _ _ _ _ _ (fit_divided g.T.RawWord.SIGNED g.T.Valued.BITS (g.T.Valued.value c.args.b.bits) (euclidean_remainder (g.T.Valued.value c.args.a.bits) (g.T.Valued.value c.args.b.bits)) (rw c.in-RemEuclid.is at c.requires.row)) c.bits_of-in-RemEuclid.ensures c.strict_rem_euclid.ensures)
