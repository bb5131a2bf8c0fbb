use Rattle.std.proofs.Common.{Some, ap, sym, ◌∙◌}
use Rattle.fixed_word.proofs.Standings.{checked_where_fits}
use Rattle.fixed_cast.proofs.policies.checked_num.Goals as goal

pub returns-in-Fits : goal.returns-in-Fits
returns-in-Fits g c = λ x h. ap (λ (z : _). Some z) c.from_word.ensures ∙ sym (checked_where_fits g.N.Word.Valued.value g.N.Word.RawWord.SIGNED g.N.Word.Valued.BITS x c.args.outcome g.met.N.Word.RawWord.width_law h c.in-Fits.is)
