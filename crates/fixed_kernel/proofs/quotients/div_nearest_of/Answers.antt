use Rattle.std.proofs.Common.{◌≡◌, ◌^◌, ◌*ℤ◌, ℤ, pos, refl, ap, ◌∙◌}
use Rattle.fixed_word.specs.Format.{clamp}
use Rattle.fixed_word.specs.Quotient.{truncated_quotient}
use Rattle.fixed_word.proofs.Wraps.{width_pos}
use Rattle.fixed_kernel.proofs.Kept.{short_quotient}
use Rattle.fixed_kernel.proofs.WholeRoom.{scaled_in}
use Rattle.fixed_kernel.proofs.quotients.div_nearest_of.Goals as goal

pub scaled-requires-clause-room : goal.scaled-requires-clause-room
scaled-requires-clause-room g c =
    let n = g.T.Valued.BITS in
    scaled_in g.T.RawWord.SIGNED g.T.Whole.Integer.SIGNED n g.T.Whole.Valued.BITS c.args.frac _ _ g.met.T.Arithmetic.whole_sign_law (width_pos n g.met.T.RawWord.width_law) g.met.T.Arithmetic.whole_width_law c.requires.frac c.whole.ensures.value c.whole.ensures.in_range

pub returns-then-frac-BITS : goal.returns-then-frac-BITS
returns-then-frac-BITS g c =
    let s = g.T.RawWord.SIGNED in
    let t = g.T.Whole.Integer.SIGNED in
    let n = g.T.Valued.BITS in
    let m = g.T.Whole.Valued.BITS in
    let va = g.T.Valued.value c.args.a in
    let vb = g.T.Valued.value c.args.b in
    let x = va *ℤ pos (2 ^ c.args.frac) in
    let e = g.met.T.Arithmetic.whole_sign_law in
    let h = width_pos n g.met.T.RawWord.width_law in
    let l = g.met.T.Arithmetic.whole_width_law in
    let d : g.T.Whole.Valued.value c.scaled.result ≡ x = c.scaled.ensures ∙ ap (λ (z : ℤ). z *ℤ pos (2 ^ c.args.frac)) c.whole.ensures.value in
    let room = scaled_in s t n m c.args.frac va va e h l c.requires.frac refl c.whole.ensures.in_range in
    let short = short_quotient s t n m c.args.frac va vb e h l (rw c.BITS-then-BITS-lt32.ensures at c.if-frac-BITS.true) room c.whole.ensures.in_range c.whole-then-frac-BITS.ensures.in_range in
    let number : g.T.Whole.Valued.value c.over.result ≡ truncated_quotient x vb = rw (c.over.ensures, d, c.whole-then-frac-BITS.ensures.value) short in
    c.nearest_of_whole.ensures ∙ ap (clamp s n) number
