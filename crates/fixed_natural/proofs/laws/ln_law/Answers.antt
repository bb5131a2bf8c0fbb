use Rattle.std.proofs.Common.{arith}
use Rattle.std.specs.Prelude.{unsigned_abs}
use Rattle.fixed_natural.specs.Bases.{decimals, log2_e}
use Rattle.fixed_natural.proofs.EDecimals.{e_between}
use Rattle.fixed_natural.proofs.NaturalLaws.{log_fits, log_near, log_of_one}
use Rattle.fixed_natural.proofs.laws.ln_law.Goals as goal

pub returns : goal.returns
returns c = record {
  between = e_between;
  of_one = λ k f r one h. log_of_one log2_e decimals f k r (omega arith) one h.0;
  near = λ k f a r s one g h. log_near log2_e decimals (unsigned_abs a) f k r s (omega arith) one g.0 h.0;
  fits = λ k n f a r one less low high range above h. log_fits log2_e decimals k n f a r (omega arith) (omega arith) one less low high range above h.0;
}
