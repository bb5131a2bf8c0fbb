use Rattle.std.proofs.Common.{pos, sym, ◌∙◌}
use Rattle.fixed_word.proofs.Sides.{side_fits}
use Rattle.fixed_word.proofs.Wraps.{narrower, width_pos, wrap_alike}
use Rattle.fixed_kernel.proofs.Alikes.{width_at_most}
use Rattle.fixed_float.proofs.incoming.outcome_of_bits.Goals as goal

pub returns : goal.returns
returns g c =
    let s = g.T.RawWord.SIGNED in
    let n = g.T.Valued.BITS in
    let W = g.met.T.RawWord.width_law in
    let b = c.bits_of_sums.ensures in
    let held = c.requires.held b.whole b.row in
    let bits = c.bits_of_sums.result in (
      b.whole,
      b.row,
      record {
        wrapped = c.residue.ensures ∙ wrap_alike s n (pos bits) b.whole (width_pos n W) (narrower n 64 (pos bits) b.whole (width_at_most n W) b.alike);
        side = sym (side_fits s n b.whole held.0 held.1);
      },
    )
