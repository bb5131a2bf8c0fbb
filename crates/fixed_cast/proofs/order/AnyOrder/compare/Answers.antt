use Rattle.fixed_cast.proofs.order.AnyOrder.compare.Goals as goal

pub returns : goal.returns
returns g c = rw (c.to_word.ensures, c.FRACTION.ensures, c.to_word-2.ensures, c.FRACTION-2.ensures) at c.compare_of.ensures
