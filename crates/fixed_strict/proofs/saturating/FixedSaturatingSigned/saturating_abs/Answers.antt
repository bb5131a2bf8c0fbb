use Rattle.std.proofs.Common.{arith}
use Rattle.std.proofs.lemmas.Int.{ints}
use Rattle.fixed_word.proofs.Wraps.{width_pos}
use Rattle.fixed_kernel.proofs.Distances.{abs_small}
use Rattle.fixed_strict.proofs.saturating.FixedSaturatingSigned.saturating_abs.Goals as goal

pub returns : goal.returns
returns g c =
    let n = g.T.Valued.BITS in
    c.capped_number.ensures _ (omega (arith, ints)) (abs_small g.T.RawWord.SIGNED n _ (width_pos n g.met.T.RawWord.width_law) c.is_below_zero-sign.ensures.in_range) c.abs_of.ensures
