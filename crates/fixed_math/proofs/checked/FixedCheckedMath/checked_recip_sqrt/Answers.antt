use Rattle.std.proofs.lemmas.Bool.{iff_false}
use Rattle.fixed_math.proofs.Positive.{none_below, some_above}
use Rattle.fixed_math.proofs.checked.FixedCheckedMath.checked_recip_sqrt.Goals as goal

pub returns-then-not-is_above_zero : goal.returns-then-not-is_above_zero
returns-then-not-is_above_zero g c = none_below g.T.RawWord.SIGNED g.T.Valued.BITS _ _ (iff_false c.is_above_zero.ensures c.if-not-is_above_zero.true)

pub returns : goal.returns
returns g c = some_above g.T.RawWord.SIGNED g.T.Valued.BITS _ _ _ (c.is_above_zero.ensures.0 c.if-not-is_above_zero.false) (c.checked_number.ensures _ c.recip_sqrt_of.ensures)
