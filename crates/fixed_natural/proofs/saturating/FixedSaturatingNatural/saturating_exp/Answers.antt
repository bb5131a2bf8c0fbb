use Rattle.std.proofs.Common.{◌∙◌}
use Rattle.fixed_word.proofs.UpTo.{saturating_alike}
use Rattle.fixed_natural.proofs.saturating.FixedSaturatingNatural.saturating_exp.Goals as goal

pub returns : goal.returns
returns g c =
    let e = c.exp_of.ensures in
    (e.0, e.1, c.saturating_number.ensures e.2.other e.2.stands ∙ saturating_alike g.T.RawWord.SIGNED g.T.Valued.BITS e.0 e.2.other e.2.alike)
