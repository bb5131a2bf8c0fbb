-- The row of each operation of the calculator.
use Rattle.std.specs.Prelude.{◌+ℤ◌, ◌-ℤ◌, ◌*ℤ◌, ℕ, ℤ, neg_ℤ, Option, Some, unwrap_or}
use Rattle.std.specs.Option.{option_or}
use Rattle.fixed_word.specs.declared.rounding.Rounding.{Rounding}
use Rattle.fixed_word.specs.declared.rounding.Rounding.TheVariants.{Down}
use Rattle.fixed_word.specs.Quotient.{euclidean_remainder}
use Rattle.fixed_script.specs.declared.names.Op.{Op}
use Rattle.fixed_script.specs.declared.names.Op.TheVariants.{Neg, Add, Sub, Mul, Div, Recip, MulAdd, AddProd, MulInt, DivInt, DivEuclid, DivEuclidInt, RemEuclidInt, NextMultipleOf, Dist, Sqrt, Abs, Signum, Rem, RemInt, RemEuclid, NextPowerOfTwo}
use Rattle.fixed_script.specs.Names.{default_rounding}
use Rattle.fixed_kernel.specs.Rounded.{rounded}
use Rattle.fixed_kernel.specs.RoundedRows.{rounded_mul, rounded_div, rounded_recip, rounded_mul_add, rounded_add_prod}
use Rattle.fixed_kernel.specs.Root.{root_of}
use Rattle.fixed_kernel.specs.Rows.{by_divisor, by_sign, exact_abs, exact_div_euclid, exact_next_multiple_of, exact_next_power_of_two, exact_rem, exact_signum, units}

-- the rounding of a line: the one that it names, or else the operation's own; other operations use none
abbrev pub rounding_of : Op → Option Rounding → Rounding
rounding_of op named = unwrap_or (option_or named (default_rounding op)) Down

-- The exact number of units of the result, or nothing if the row is undefined.
-- The operands are in the order of the text, f, g, h are their fractions, and r is the rounding. An operation uses only
-- its own.
unfoldable pub exact : Op → Rounding → ℤ → ℤ → ℤ → ℕ → ℕ → ℕ → Option ℤ
exact Neg _ a _ _ _ _ _ = Some (neg_ℤ a)
exact Add _ a b _ _ _ _ = Some (a +ℤ b)
exact Sub _ a b _ _ _ _ = Some (a -ℤ b)
exact Mul r a b _ f _ _ = Some (rounded_mul a b f r)
exact Div r a b _ f _ _ = by_divisor b (rounded_div a b f r)
exact Recip r a _ _ f _ _ = by_divisor a (rounded_recip a f r)
exact MulAdd r a m c _ g _ = Some (rounded_mul_add a m c g r)
exact AddProd r c a b f g h = Some (rounded_add_prod c a b f g h r)
exact MulInt _ a k _ _ _ _ = Some (a *ℤ k)
exact DivInt r a k _ _ _ _ = by_divisor k (rounded a k r)
exact DivEuclid _ a b _ f _ _ = by_divisor b (exact_div_euclid a b f)
exact DivEuclidInt _ a k _ f _ _ = by_divisor k (exact_div_euclid a (units k f) f)
exact RemEuclidInt _ a k _ f _ _ = by_divisor k (euclidean_remainder a (units k f))
exact NextMultipleOf _ a b _ _ _ _ = by_divisor b (exact_next_multiple_of a b)
exact Dist _ a b _ _ _ _ = Some (exact_abs (a -ℤ b))
exact Sqrt _ a _ _ f _ _ = by_sign a (root_of a f)
exact Abs _ a _ _ _ _ _ = Some (exact_abs a)
exact Signum _ a _ _ f _ _ = Some (exact_signum a f)
exact Rem _ a b _ _ _ _ = by_divisor b (exact_rem a b)
exact RemInt _ a k _ f _ _ = by_divisor k (exact_rem a (units k f))
exact RemEuclid _ a b _ _ _ _ = by_divisor b (euclidean_remainder a b)
exact NextPowerOfTwo _ a _ _ _ _ _ = Some (exact_next_power_of_two a)
