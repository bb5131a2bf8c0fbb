use Rattle.std.proofs.Common.{◌+◌, ◌*◌, ◌^◌, ℤ, pos, ap, sym, ◌∙◌}
use Rattle.std.specs.Prelude.{Some}
use Rattle.fixed_word.specs.Format.{with_sign}
use Rattle.fixed_kernel.specs.Rounded.{rounded}
use Rattle.fixed_float.proofs.Ends.{clamp_alike, end_is, held_row}
use Rattle.fixed_float.proofs.Rows.{no_row, row_of_parts}
use Rattle.fixed_float.proofs.held.held_by_parts.Goals as goal

pub returns-in-None : goal.returns-in-None
returns-in-None g c = end_is g.T.RawWord.SIGNED g.T.Valued.BITS c.args.x c.args.frac c.args.rounding (g.T.Valued.value c.end_beside.result) c.requires
    (no_row c.args.x c.args.frac c.args.rounding c.in-None.ensures) c.end_beside.ensures

pub returns-in-Some : goal.returns-in-Some
returns-in-Some g c =
    let s = g.T.RawWord.SIGNED in
    let n = g.T.Valued.BITS in
    let p = c.in-Some.parts in
    let x = rounded (with_sign p.below_zero (p.digits * 2 ^ (p.scale + c.args.frac))) (pos (2 ^ 1074)) c.args.rounding in
    ap (λ (z : ℤ). Some z) (c.magnitude_held.ensures
    ∙ sym (clamp_alike s n x (with_sign p.below_zero c.magnitude_of_parts.result) g.met.T.RawWord.width_law c.magnitude_of_parts.ensures))
    ∙ sym (held_row s n c.args.x c.args.frac c.args.rounding x (row_of_parts c.args.x p c.args.frac c.args.rounding c.in-Some.ensures))
