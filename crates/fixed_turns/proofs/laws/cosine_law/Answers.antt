use Rattle.fixed_turns.proofs.Lengths.{turn_length}
use Rattle.fixed_turns.proofs.TurnLaws.{as_sine, cosine_fits}
use Rattle.fixed_turns.proofs.laws.cosine_law.Goals as goal

pub returns : goal.returns
returns c = record { as_sine = as_sine; fits = cosine_fits; squares = turn_length }
