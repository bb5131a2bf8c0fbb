use Rattle.fixed_cast.proofs.beside.wrapping_frac.Goals as goal

pub returns : goal.returns
returns g c = c.wrapping_num.ensures _ c.frac_of.ensures
