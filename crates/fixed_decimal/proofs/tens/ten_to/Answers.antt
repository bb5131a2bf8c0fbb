use Rattle.fixed_decimal.proofs.Powers.{tens}
use Rattle.fixed_decimal.proofs.tens.ten_to.Goals as goal

pub returns : goal.returns
returns c = tens c.args.power c.requires
