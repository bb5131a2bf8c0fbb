use Rattle.std.proofs.Common.{◌^◌, ap, ◌∙◌}
use Rattle.fixed_word.specs.Format.{wrap}
use Rattle.fixed_word.specs.Quotient.{floor_quotient}
use Rattle.fixed_num.proofs.Ranges.{down_is}
use Rattle.fixed_num.proofs.format.Fixed.unbounded_shr.Goals as goal

pub returns : goal.returns
returns g c =
    let s = g.T.RawWord.SIGNED in
    let n = g.T.Valued.BITS in
    down_is s n c.args.rhs c.BITS.result c.min-by.result (g.T.Valued.value c.args.self.bits) _ g.met.T.RawWord.width_law c.BITS.ensures c.min-by.ensures c.whole.ensures.in_range (c.cut.ensures ∙ ap (wrap s n) (c.floored.ensures ∙ ap (λ x. floor_quotient x (2 ^ c.min-by.result)) c.whole.ensures.value))
