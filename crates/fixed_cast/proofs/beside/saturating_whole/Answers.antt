use Rattle.fixed_cast.proofs.beside.saturating_whole.Goals as goal

pub returns : goal.returns
returns g c = c.saturating_num.ensures _ c.whole_of.ensures
