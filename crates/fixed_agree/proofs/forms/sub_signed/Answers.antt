use Rattle.fixed_agree.proofs.OneRow.{typed}
use Rattle.fixed_agree.proofs.forms.sub_signed.Goals as goal

pub returns : goal.returns
returns g c =
    typed g.T.RawWord.SIGNED g.T.Valued.BITS _ _ _ _ _ _ g.met.T.RawWord.width_law c.bits_or_absent.ensures c.checked_sub_signed.ensures c.flagged_of.ensures c.overflowing_sub_signed.ensures
    c.bits_of.ensures c.wrapping_sub_signed.ensures c.bits_of-2.ensures c.saturating_sub_signed.ensures
