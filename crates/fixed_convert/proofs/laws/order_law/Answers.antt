use Rattle.fixed_convert.proofs.Monotone.{convert_order}
use Rattle.fixed_convert.proofs.laws.order_law.Goals as goal

pub returns : goal.returns
returns c = convert_order
