use Rattle.std.proofs.Common.{sym}
use Rattle.std.proofs.lemmas.Bool.{iff_false}
use Rattle.fixed_word.proofs.Wraps.{width_pos, wrap_same}
use Rattle.fixed_kernel.proofs.Distances.{abs_itself}
use Rattle.fixed_kernel.proofs.sums.size.Goals as goal

pub returns-else-is_below_zero : goal.returns-else-is_below_zero
returns-else-is_below_zero g c =
    let x = g.T.Valued.value c.args.a in
    let n = g.T.Valued.BITS in
    rw (abs_itself x (iff_false c.is_below_zero.ensures.sign c.if-is_below_zero.false)) (sym (wrap_same g.T.RawWord.SIGNED n x (width_pos n g.met.T.RawWord.width_law) c.is_below_zero.ensures.in_range))
