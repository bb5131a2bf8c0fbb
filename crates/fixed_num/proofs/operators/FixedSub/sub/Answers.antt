use Rattle.fixed_num.proofs.operators.FixedSub.sub.Goals as goal

pub returns : goal.returns
returns g c = c.exact_number.ensures _ c.sub_of.ensures c.requires
