use Rattle.fixed_kernel.proofs.RowLawsFits.{abs_signed, div_int_signed, neg_signed, signum_signed, sqrt_signed}
use Rattle.fixed_kernel.proofs.laws.signed_law.Goals as goal

pub returns : goal.returns
returns c = record {
  neg = neg_signed;
  abs = abs_signed;
  div_int = div_int_signed;
  signum = signum_signed;
  sqrt = sqrt_signed;
}
