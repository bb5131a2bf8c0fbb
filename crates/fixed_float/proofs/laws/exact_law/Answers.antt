use Rattle.fixed_float.proofs.Exact.{exact_back}
use Rattle.fixed_float.proofs.laws.exact_law.Goals as goal

pub returns : goal.returns
returns c = λ f a g r N G. exact_back f a g r N G
