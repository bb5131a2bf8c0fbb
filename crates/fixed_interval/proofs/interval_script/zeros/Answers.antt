use Rattle.fixed_interval.specs.Ends.{ends_of}
use Rattle.fixed_interval.proofs.Starts.{zeros_seen}
use Rattle.fixed_interval.proofs.interval_script.zeros.Goals as goal

pub returns : goal.returns
returns g c = rw c.in_ok-registers.ensures (zeros_seen (ends_of g.T.Valued.value) c.zero.result c.args.count c.zero.ensures)
