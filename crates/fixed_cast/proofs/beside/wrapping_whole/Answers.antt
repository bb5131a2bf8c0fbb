use Rattle.fixed_cast.proofs.beside.wrapping_whole.Goals as goal

pub returns : goal.returns
returns g c = c.wrapping_num.ensures _ c.whole_of.ensures
