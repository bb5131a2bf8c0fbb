use Rattle.std.proofs.Common.{◌*ℤ◌, ◌^◌, pos}
use Rattle.fixed_word.proofs.QuotientLaws.{euclidean_is}
use Rattle.fixed_kernel.proofs.RowLaws.{rem_euclid_fits, rem_fits}
use Rattle.fixed_kernel.proofs.laws.remainder_law.Goals as goal

pub returns : goal.returns
returns c = record {
  rem = λ s n a b w h. rem_fits s n a b w;
  rem_int = λ s n f a k w h. rem_fits s n a (k *ℤ pos (2 ^ f)) w;
  rem_euclid = rem_euclid_fits;
  from_zero = λ a b h. (euclidean_is a b h).from_zero;
  small = λ a b h. (euclidean_is a b h).small;
}
