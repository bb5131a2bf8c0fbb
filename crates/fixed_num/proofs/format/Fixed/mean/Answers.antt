use Rattle.std.proofs.Common.{◌+ℤ◌, ap, ◌∙◌}
use Rattle.fixed_word.specs.Format.{wrap}
use Rattle.fixed_word.specs.Quotient.{floor_quotient}
use Rattle.fixed_num.proofs.Ranges.{mean_is, sum_in}
use Rattle.fixed_num.proofs.format.Fixed.mean.Goals as goal

pub plus-sum-requires : goal.plus-sum-requires
plus-sum-requires g c =
    let a = g.T.Valued.value c.args.self.bits in
    let b = g.T.Valued.value c.args.other.bits in
    rw (c.whole.ensures.value, c.whole-2.ensures.value) (sum_in g.T.RawWord.SIGNED g.T.Whole.Integer.SIGNED g.T.Valued.BITS g.T.Whole.Valued.BITS a b g.met.T.Arithmetic.whole_sign_law g.met.T.RawWord.width_law g.met.T.Arithmetic.whole_width_law c.whole.ensures.in_range c.whole-2.ensures.in_range)

pub returns : goal.returns
returns g c =
    let s = g.T.RawWord.SIGNED in
    let n = g.T.Valued.BITS in
    let a = g.T.Valued.value c.args.self.bits in
    let b = g.T.Valued.value c.args.other.bits in
    let sum = c.plus-sum.ensures ∙ (λ i. c.whole.ensures.value i +ℤ c.whole-2.ensures.value i) in
    mean_is s n a b _ g.met.T.RawWord.width_law c.whole.ensures.in_range c.whole-2.ensures.in_range (c.cut.ensures ∙ ap (wrap s n) (c.floored.ensures ∙ ap (λ x. floor_quotient x 2) sum))
