use Rattle.fixed_enclosure.proofs.enclosure.Enclosure.checked_add.Goals as goal

pub returns-clause-ends : goal.returns-clause-ends
returns-clause-ends g c = rw c.enclosed.ensures (rw (c.to_interval.ensures, c.to_interval-2.ensures) at c.add_in.ensures.ends)

pub returns-clause-holds : goal.returns-clause-holds
returns-clause-holds g c = rw c.enclosed.ensures (rw (c.to_interval.ensures, c.to_interval-2.ensures) at c.add_in.ensures.holds)
