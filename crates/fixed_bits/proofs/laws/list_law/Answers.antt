use Rattle.std.proofs.Common.{◌/◌, ◌^◌, refl, arith}
use Rattle.std.proofs.lemmas.Nat.{pow_pos}
use Rattle.fixed_bits.specs.Digits.{bit_list, byte_list}
use Rattle.fixed_bits.proofs.Lists.{byte_base, list_stands, stands_alone}
use Rattle.fixed_bits.proofs.laws.list_law.Goals as goal

pub returns-clause-bits : goal.returns-clause-bits
unfolding bit_list
returns-clause-bits c = λ n a w. list_stands 2 n (2 ^ n) a (omega arith) (pow_pos n) refl

pub returns-clause-only_bits : goal.returns-clause-only_bits
unfolding bit_list
returns-clause-only_bits c = λ n a ds w l. stands_alone 2 n (2 ^ n) a ds (omega arith) refl l

pub returns-clause-bytes : goal.returns-clause-bytes
unfolding byte_list
returns-clause-bytes c = λ n a w. list_stands 256 (n / 8) (2 ^ n) a (omega arith) (pow_pos n) (byte_base n w)

pub returns-clause-only_bytes : goal.returns-clause-only_bytes
unfolding byte_list
returns-clause-only_bytes c = λ n a ds w l. stands_alone 256 (n / 8) (2 ^ n) a ds (omega arith) (byte_base n w) l
