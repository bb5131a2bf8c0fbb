use Rattle.std.proofs.Common.{◌^◌, arith}
use Rattle.fixed_kernel.proofs.Wholes.{one_more}
use Rattle.fixed_kernel.proofs.rounded_quotients.whole_over.Goals as goal

pub returns-clause-more : goal.returns-clause-more
returns-clause-more c = λ h. one_more (2 ^ 128) c.args.divisor (omega arith) (omega arith)
