use Rattle.std.proofs.lemmas.Bool.{iff_false}
use Rattle.fixed_policy.proofs.Divided.{not_below, rooted, unrooted}
use Rattle.fixed_policy.proofs.checked.FixedChecked.checked_sqrt.Goals as goal

pub returns-then-is_below_zero : goal.returns-then-is_below_zero
returns-then-is_below_zero g c = unrooted g.T.RawWord.SIGNED g.T.Valued.BITS _ _ (c.is_below_zero.ensures.sign.0 c.if-is_below_zero.true)

pub sqrt_of-requires : goal.sqrt_of-requires
sqrt_of-requires g c = record { frac = c.requires; sign = not_below _ (iff_false c.is_below_zero.ensures.sign c.if-is_below_zero.false) }

pub returns : goal.returns
returns g c = rooted g.T.RawWord.SIGNED g.T.Valued.BITS _ _ _ (iff_false c.is_below_zero.ensures.sign c.if-is_below_zero.false) (c.checked_number.ensures _ c.sqrt_of.ensures)
