use Rattle.std.proofs.Common.{arith}
use Rattle.std.specs.Prelude.{unsigned_abs}
use Rattle.fixed_natural.specs.Bases.{decimals, log2_10}
use Rattle.fixed_natural.proofs.NaturalLaws.{log_fits, log_near, log_of_one}
use Rattle.fixed_natural.proofs.Decimals.{log10_of_power, ten_between}
use Rattle.fixed_natural.proofs.laws.log10_law.Goals as goal

pub returns : goal.returns
returns c = record {
  of_one = λ k f r one h. log_of_one log2_10 decimals f k r (omega arith) one h.0;
  of_power = log10_of_power;
  between = ten_between;
  near = λ k f a r s one g h. log_near log2_10 decimals (unsigned_abs a) f k r s (omega arith) one g.0 h.0;
  fits = λ k n f a r one less low high range above h. log_fits log2_10 decimals k n f a r (omega arith) (omega arith) one less low high range above h.0;
}
