use Rattle.std.proofs.Common.{ap, ◌∙◌}
use Rattle.std.specs.Ordering.{int_cmp}
use Rattle.fixed_word.proofs.Standings.{value_where_fits}
use Rattle.fixed_convert.proofs.compare.beside.Goals as goal

pub returns-in-Fits : goal.returns-in-Fits
returns-in-Fits g c = λ x h.
    let v = value_where_fits g.T.Valued.value g.T.RawWord.SIGNED g.T.Valued.BITS x c.args.outcome g.met.T.RawWord.width_law h c.in-Fits.is in
    c.order_of.ensures ∙ ap (int_cmp (g.T.Valued.value c.args.word)) v
