use Rattle.fixed_cast.proofs.beside.overflowing_whole.Goals as goal

pub returns : goal.returns
returns g c = c.overflowing_num.ensures _ c.whole_of.ensures
