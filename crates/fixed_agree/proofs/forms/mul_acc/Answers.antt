use Rattle.std.proofs.Common.{◌∙◌}
use Rattle.fixed_agree.proofs.OneRow.{typed}
use Rattle.fixed_agree.proofs.forms.mul_acc.Goals as goal

pub returns : goal.returns
returns g c =
    typed g.T.RawWord.SIGNED g.T.Valued.BITS _ _ _ _ _ _ g.met.T.RawWord.width_law c.bits_or_absent.ensures (c.where_stored.ensures ∙ c.checked_mul_acc-stored.ensures.value) c.flagged_of.ensures c.overflowing_mul_acc-verdict.ensures
    c.bits_of.ensures c.wrapping_mul_acc.ensures c.bits_of-2.ensures c.saturating_mul_acc.ensures
