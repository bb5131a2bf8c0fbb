use Rattle.std.proofs.Common.{◌≤◌, ◌-◌, ◌^◌, ◌*ℤ◌, ℤ, ap, pos, sym, ◌∙◌, arith}
use Rattle.fixed_word.proofs.Wraps.{width_pos}
use Rattle.fixed_kernel.proofs.WholeRoom.{scaled_in}
use Rattle.fixed_convert.proofs.Rounds.{rounded_up}
use Rattle.fixed_block.proofs.operations.raised.Goals as goal

pub scaled-requires-clause-room : goal.scaled-requires-clause-room
scaled-requires-clause-room g c =
    let n = g.T.Valued.BITS in
    let by : c.args.convert.to - c.args.convert.from ≤ n = omega (arith, c.requires.width) in
    scaled_in g.T.RawWord.SIGNED g.T.Whole.Integer.SIGNED n g.T.Whole.Valued.BITS _ _ _ g.met.T.Arithmetic.whole_sign_law (width_pos n g.met.T.RawWord.width_law) g.met.T.Arithmetic.whole_width_law by c.whole.ensures.value c.whole.ensures.in_range

pub returns : goal.returns
returns g c =
    let s = c.args.convert in
    c.scaled.ensures ∙ ap (λ (z : ℤ). z *ℤ pos (2 ^ (s.to - s.from))) c.whole.ensures.value ∙ sym (rounded_up (g.T.Valued.value c.args.x) s.from s.to s.rounding c.requires.order)
