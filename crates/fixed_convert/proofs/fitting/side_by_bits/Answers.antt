use Rattle.std.proofs.Common.{◌≢◌, ap, sym, ◌∙◌}
use Rattle.std.specs.Int.{cast_unsigned, w128}
use Rattle.fixed_convert.proofs.Cuts.{is_below, is_from_zero, lost_above, lost_below}
use Rattle.fixed_convert.proofs.fitting.side_by_bits.Goals as goal

pub returns-then-number-lt0 : goal.returns-then-number-lt0
returns-then-number-lt0 g c =
    let apart : g.T.Valued.value c.args.wrapped ≢ c.args.number = λ e. c.if-to_wide-number.false (ap (cast_unsigned w128) (c.to_wide.ensures.value ∙ e)) in
    sym (lost_below g.T.RawWord.SIGNED g.T.Valued.BITS c.args.number (g.T.Valued.value c.args.wrapped) g.met.T.RawWord.width_law c.requires apart (is_below c.args.number c.ranges.number c.if-number-lt0.true))

pub returns-else-number-lt0 : goal.returns-else-number-lt0
returns-else-number-lt0 g c =
    let apart : g.T.Valued.value c.args.wrapped ≢ c.args.number = λ e. c.if-to_wide-number.false (ap (cast_unsigned w128) (c.to_wide.ensures.value ∙ e)) in
    sym (lost_above g.T.RawWord.SIGNED g.T.Valued.BITS c.args.number (g.T.Valued.value c.args.wrapped) g.met.T.RawWord.width_law c.requires apart (is_from_zero c.args.number c.ranges.number c.if-number-lt0.false))
