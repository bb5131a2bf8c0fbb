use Rattle.fixed_cast.proofs.Exact.{no_nan}
use Rattle.fixed_cast.proofs.floats.F64Source.saturated.Goals as goal

pub saturating_float_of-requires : goal.saturating_float_of-requires
saturating_float_of-requires g c = no_nan g.T.RawWord.SIGNED g.T.Valued.BITS c.args.self c.args.frac c.args.rounding c.requires
