use Rattle.fixed_cast.proofs.beside.checked_whole.Goals as goal

pub returns : goal.returns
returns g c = c.checked_num.ensures _ c.whole_of.ensures
