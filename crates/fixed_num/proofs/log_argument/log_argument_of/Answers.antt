use Rattle.std.proofs.Common.{◌<◌, nat_abs, rules}
use Rattle.fixed_num.proofs.Logs.{raised_fits}
use Rattle.fixed_num.proofs.log_argument.log_argument_of.Goals as goal

pub raised-requires-clause-fits : goal.raised-requires-clause-fits
raised-requires-clause-fits g c =
    let w = nat_abs (g.D.Valued.value c.lowered-whole.result) in
    let low : w < 1 = search rules in
    raised_fits (nat_abs (g.D.Valued.value c.args.val)) c.args.frac g.D.Valued.BITS c.BITS-else-is_at_least_one.result w c.requires.fraction c.BITS-else-is_at_least_one.ensures c.lowered-whole.ensures.value low
