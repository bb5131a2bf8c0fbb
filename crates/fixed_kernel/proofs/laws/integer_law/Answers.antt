use Rattle.std.proofs.Common.{ℤ, ap}
use Rattle.fixed_word.specs.Quotient.{euclidean_quotient, euclidean_remainder, truncated_quotient}
use Rattle.fixed_kernel.specs.Rows.{exact_div_euclid, exact_rem}
use Rattle.fixed_kernel.proofs.RowLaws.{mul_whole, times_one}
use Rattle.fixed_kernel.proofs.laws.integer_law.Goals as goal

pub returns : goal.returns
returns c = record {
  mul = mul_whole;
  div = λ a b. ap (λ (x : ℤ). truncated_quotient x b) (times_one a);
  div_euclid = λ a b. times_one (euclidean_quotient a b);
  rem_int = λ a k. ap (exact_rem a) (times_one k);
  div_euclid_int = λ a k. ap (λ (d : ℤ). exact_div_euclid a d 0) (times_one k);
  rem_euclid_int = λ a k. ap (euclidean_remainder a) (times_one k);
}
