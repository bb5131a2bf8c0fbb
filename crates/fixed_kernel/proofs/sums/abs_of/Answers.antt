use Rattle.std.proofs.Common.{arith}
use Rattle.std.proofs.lemmas.Int.{ints}
use Rattle.fixed_kernel.specs.Rows.{exact_abs}
use Rattle.fixed_word.proofs.Wraps.{width_pos}
use Rattle.fixed_kernel.proofs.Distances.{abs_small}
use Rattle.fixed_kernel.proofs.sums.abs_of.Goals as goal

pub returns : goal.returns
returns g c =
    let x = g.T.Valued.value c.args.a in
    let n = g.T.Valued.BITS in
    c.from_zero.ensures (exact_abs x) (omega (arith, ints)) (abs_small g.T.RawWord.SIGNED n x (width_pos n g.met.T.RawWord.width_law) c.is_below_zero-sign.ensures.in_range) c.size.ensures
