use Rattle.std.proofs.Common.{◌∙◌}
use Rattle.fixed_word.proofs.UpTo.{checked_alike}
use Rattle.fixed_natural.proofs.checked.FixedCheckedNatural.checked_pow.Goals as goal

pub returns-clause-pow : goal.returns-clause-pow
returns-clause-pow g c = λ above.
    let e = c.pow_of.ensures in
    (e.0, e.1, c.checked_number.ensures e.2.other e.2.stands ∙ checked_alike g.T.RawWord.SIGNED g.T.Valued.BITS e.0 e.2.other e.2.alike)
