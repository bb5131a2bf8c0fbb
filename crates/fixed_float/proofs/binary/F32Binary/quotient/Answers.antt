use Rattle.std.proofs.Common.{◌≡◌, ◌-◌, ◌*◌, ◌%◌, ◌^◌, ℕ, T, not, sym, ◌∙◌, subst, arith}
use Rattle.std.specs.Float.{binary32}
use lib.Ieee.{mul, nan_bits, of_bits}
use Rattle.fixed_float.proofs.Products.{power_not_nan, quotient_is}
use Rattle.fixed_float.proofs.binary.F32Binary.quotient.Goals as goal

kept : (by : ℕ) → (127 - by) * 2 ^ 23 % 2 ^ 32 ≡ (127 - by) * 2 ^ 23
kept by = omega arith

pub float_from_bits-result : goal.float_from_bits-result
float_from_bits-result c = subst (λ (b : ℕ). T (not (nan_bits binary32 b))) (sym (kept c.args.by)) (power_not_nan binary32 c.args.by c.requires.by)

pub returns : goal.returns
returns c =
    (λ i. mul binary32 (c.from.ensures i) (of_bits binary32 (kept c.args.by i)))
    ∙ quotient_is binary32 c.args.by c.requires.by c.args.whole (omega (arith, c.requires.whole))
