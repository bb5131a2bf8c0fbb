use Rattle.fixed_kernel.proofs.RowLawsFits.{dist_unsigned, div_euclid_int_unsigned, div_int_unsigned, rem_euclid_int_unsigned, sqrt_unsigned}
use Rattle.fixed_kernel.proofs.laws.unsigned_law.Goals as goal

pub returns : goal.returns
returns c = record {
  sqrt = sqrt_unsigned;
  dist = dist_unsigned;
  div_int = div_int_unsigned;
  div_euclid_int = div_euclid_int_unsigned;
  rem_euclid_int = λ n f a k w h. rem_euclid_int_unsigned n f a k w;
}
