use Rattle.std.proofs.Common.{refl}
use Rattle.fixed_word.specs.Quotient.{euclidean_remainder, truncated_quotient}
use Rattle.fixed_kernel.specs.Rows.{exact_div_euclid, units}
use Rattle.fixed_machine.specs.Rows.{exact}
use Rattle.fixed_agree.proofs.Policies.{by_wrapping, some_divided}
use Rattle.fixed_agree.proofs.wrapping.by_integer.Goals as goal

pub returns-in-MulInt : goal.returns-in-MulInt
unfolding exact
returns-in-MulInt g c = rw c.in-MulInt.is (by_wrapping g.T.RawWord.SIGNED g.T.Valued.BITS _ _ _ _ _ refl c.bits_of.ensures c.wrapping_mul_int.ensures)

pub returns-in-DivInt : goal.returns-in-DivInt
unfolding exact
returns-in-DivInt g c = rw c.in-DivInt.is (by_wrapping g.T.RawWord.SIGNED g.T.Valued.BITS _ _ _ _ _ (some_divided (g.T.Valued.value c.args.k) (truncated_quotient (g.T.Valued.value c.args.a.bits) (g.T.Valued.value c.args.k)) (rw c.in-DivInt.is at c.requires.row)) c.bits_of-in-DivInt.ensures c.wrapping_div_int.ensures)

pub returns-in-DivEuclidInt : goal.returns-in-DivEuclidInt
unfolding exact
returns-in-DivEuclidInt g c = rw c.in-DivEuclidInt.is (by_wrapping g.T.RawWord.SIGNED g.T.Valued.BITS _ _ _ _ _ (some_divided (g.T.Valued.value c.args.k) (exact_div_euclid (g.T.Valued.value c.args.a.bits) (units (g.T.Valued.value c.args.k) g.row.F) g.row.F) (rw c.in-DivEuclidInt.is at c.requires.row)) c.bits_of-in-DivEuclidInt.ensures c.wrapping_div_euclid_int.ensures)

pub returns-in-RemEuclidInt : goal.returns-in-RemEuclidInt
unfolding exact
returns-in-RemEuclidInt g c = rw c.in-RemEuclidInt.is (by_wrapping g.T.RawWord.SIGNED g.T.Valued.BITS _ _ _ _ _ (some_divided (g.T.Valued.value c.args.k) (euclidean_remainder (g.T.Valued.value c.args.a.bits) (units (g.T.Valued.value c.args.k) g.row.F)) (rw c.in-RemEuclidInt.is at c.requires.row)) c.bits_of-in-RemEuclidInt.ensures c.wrapping_rem_euclid_int.ensures)
