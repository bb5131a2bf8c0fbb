use Rattle.std.proofs.Common.{false, ap, ◌∙◌}
use Rattle.fixed_word.specs.Format.{InRange}
use Rattle.fixed_word.proofs.Wraps.{width_pos}
use Rattle.fixed_kernel.proofs.Distances.{at_most_by}
use Rattle.fixed_kernel.proofs.PowersOfTwo.{high_power, low_power, one_less, some_digit}
use Rattle.fixed_kernel.proofs.powers.less_than_power.Goals as goal

pub returns-then-le : goal.returns-then-le
returns-then-le g c =
    let a = g.T.Valued.value c.args.a in
    let one = ap g.T.Valued.value c.ONE.ensures ∙ g.met.T.RawWord.one_law in
    let most = (at_most_by g.T.PartialOrd.partial_cmp _ _ c.le.result a _ (g.met.T.Ordered.partial_order_law _ _) c.le.ensures).0 c.if-le.true in
    let low : InRange false g.T.Valued.BITS a = rw c.requires at c.is_below_zero-sign.ensures.in_range in
    ap g.T.Valued.value c.ZERO.ensures ∙ g.met.T.RawWord.zero_law ∙ low_power a low.0 (rw one at most)

pub shr-requires : goal.shr-requires
shr-requires g c =
    let a = g.T.Valued.value c.args.a in
    let n = g.T.Valued.BITS in
    let one = ap g.T.Valued.value c.ONE.ensures ∙ g.met.T.RawWord.one_law in
    let one2 = ap g.T.Valued.value c.ONE-2.ensures ∙ g.met.T.RawWord.one_law in
    let more = rw one at ((at_most_by g.T.PartialOrd.partial_cmp _ _ c.le.result a _ (g.met.T.Ordered.partial_order_law _ _) c.le.ensures).1 c.if-le.false) in
    let u = one_less g.T.RawWord.SIGNED n a _ _ _ (width_pos n g.met.T.RawWord.width_law) one2 c.difference.ensures.wrapped c.to_unsigned-before.ensures.value more (rw c.requires at c.is_below_zero-sign.ensures.in_range) in
    rw g.met.T.Word.unsigned_width_law (some_digit n _ a _ u more (rw g.met.T.Word.unsigned_width_law at c.leading_zeros-zeros.ensures.value))

pub returns : goal.returns
returns g c =
    let a = g.T.Valued.value c.args.a in
    let n = g.T.Valued.BITS in
    let h = width_pos n g.met.T.RawWord.width_law in
    let one = ap g.T.Valued.value c.ONE.ensures ∙ g.met.T.RawWord.one_law in
    let one2 = ap g.T.Valued.value c.ONE-2.ensures ∙ g.met.T.RawWord.one_law in
    let more = rw one at ((at_most_by g.T.PartialOrd.partial_cmp _ _ c.le.result a _ (g.met.T.Ordered.partial_order_law _ _) c.le.ensures).1 c.if-le.false) in
    let u = one_less g.T.RawWord.SIGNED n a _ _ _ h one2 c.difference.ensures.wrapped c.to_unsigned-before.ensures.value more (rw c.requires at c.is_below_zero-sign.ensures.in_range) in
    let greatest = rw (ap g.T.Valued.value c.MAX.ensures ∙ g.met.T.RawWord.max_law) at c.to_unsigned.ensures.value in
    high_power g.T.RawWord.SIGNED n _ a _ _ _ _ c.requires h u more (rw g.met.T.Word.unsigned_width_law at c.leading_zeros-zeros.ensures.value) greatest c.shr.ensures.value c.from_unsigned.ensures
