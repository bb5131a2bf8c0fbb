use Rattle.std.proofs.Common.{sym}
use Rattle.fixed_word.proofs.Standings.{clamp_where_fits}
use Rattle.fixed_word.proofs.policies.nearest_of.Goals as goal

pub returns-in-Fits : goal.returns-in-Fits
returns-in-Fits g c = λ x h. sym (clamp_where_fits g.T.Valued.value g.T.RawWord.SIGNED g.T.Valued.BITS x c.args.outcome g.met.T.RawWord.width_law h c.in-Fits.is)
