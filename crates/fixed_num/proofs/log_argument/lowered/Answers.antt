use Rattle.std.proofs.Common.{◌^◌}
use Rattle.fixed_num.proofs.Logs.{lowered_is}
use Rattle.fixed_num.proofs.log_argument.lowered.Goals as goal

pub returns-clause-value : goal.returns-clause-value
returns-clause-value g c = lowered_is (g.D.Valued.value c.args.a) _ (2 ^ c.args.by) (g.met.D.Digits.sign_law c.args.a) c.shr.ensures.value
