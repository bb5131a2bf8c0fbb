use Rattle.fixed_elementary.proofs.LogLaws.{log2_exact, log2_fits, log2_monotone, log2_near}
use Rattle.fixed_elementary.proofs.laws.log2_law.Goals as goal

pub returns : goal.returns
returns c = record { exact = log2_exact; near = log2_near; monotone = log2_monotone; fits = log2_fits }
