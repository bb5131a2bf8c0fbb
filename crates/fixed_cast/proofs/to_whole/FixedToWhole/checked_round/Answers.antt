use Rattle.fixed_cast.proofs.to_whole.FixedToWhole.checked_round.Goals as goal

pub returns : goal.returns
returns g c = c.checked_whole.ensures
