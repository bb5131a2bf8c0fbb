use Rattle.std.proofs.Common.{arith}
use Rattle.std.proofs.lemmas.Int.{ints}
use Rattle.fixed_word.proofs.Wraps.{width_pos}
use Rattle.fixed_kernel.proofs.Distances.{dist_small}
use Rattle.fixed_strict.proofs.saturating.FixedSaturating.saturating_dist.Goals as goal

pub returns : goal.returns
returns g c =
    let n = g.T.Valued.BITS in
    c.capped_number.ensures _ (omega (arith, ints)) (dist_small g.T.RawWord.SIGNED n _ _ (width_pos n g.met.T.RawWord.width_law) c.is_below_zero.ensures.in_range c.is_below_zero-2.ensures.in_range) c.dist_of.ensures
