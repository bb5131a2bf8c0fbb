use Rattle.fixed_strict.proofs.strict_rounded.FixedStrictRounded.strict_mul_round.Goals as goal

pub returns : goal.returns
returns g c = c.exact_number.ensures _ c.mul_round_of.ensures c.requires.fits
