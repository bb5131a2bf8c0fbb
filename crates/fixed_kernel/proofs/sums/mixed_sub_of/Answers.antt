use Rattle.std.proofs.Common.{◌-ℤ◌}
use Rattle.fixed_word.proofs.Wraps.{width_pos}
use Rattle.fixed_kernel.proofs.Turns.{difference_past, taken}
use Rattle.fixed_kernel.proofs.sums.mixed_sub_of.Goals as goal

pub returns : goal.returns
returns g c =
    let a = g.T.Valued.value c.args.a in
    let b = g.U.Valued.value c.args.b in
    let k = g.T.Valued.value c.residue_of-kept.result in
    let width = width_pos g.T.Valued.BITS g.met.T.RawWord.width_law in
    let its = c.is_below_zero-sign.ensures.in_range in
    let moved = taken g.T.RawWord.SIGNED g.U.RawWord.SIGNED g.T.Valued.BITS a b k _ _ width its (rw c.requires at c.is_below_zero-below.ensures.in_range) c.residue_of-kept.ensures c.is_below_zero.ensures.sign c.is_below_zero-below.ensures.sign in
    c.turned.ensures (a -ℤ k) (a -ℤ b) c.difference.ensures moved (difference_past g.T.RawWord.SIGNED g.T.Valued.BITS a b _ its c.is_below_zero-below.ensures.sign)
