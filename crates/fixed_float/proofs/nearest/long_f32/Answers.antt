use Rattle.std.proofs.Common.{◌≡◌, ◌-◌, ◌*◌, ◌%◌, ◌^◌, ◌≤◌, ℕ, T, not, sym, ◌∙◌, subst, arith}
use Rattle.std.specs.Float.{binary32}
use lib.Ieee.{mul, nan_bits, of_bits}
use Rattle.fixed_float.proofs.Products.{power_not_nan, product_is, width_in, word_below}
use Rattle.fixed_float.proofs.nearest.long_f32.Goals as goal

kept : (by : ℕ) → (127 - by) * 8388608 % 4294967296 ≡ (127 - by) * 2 ^ 23
kept by = omega arith

pub float_from_bits-result : goal.float_from_bits-result
float_from_bits-result g c =
    let l : c.args.frac ≤ 64 = width_in g.T.Valued.BITS c.args.frac g.met.T.RawWord.width_law c.requires in
    subst (λ (b : ℕ). T (not (nan_bits binary32 b))) (sym (kept c.args.frac)) (power_not_nan binary32 c.args.frac l)

pub returns : goal.returns
returns g c =
    let l : c.args.frac ≤ 64 = width_in g.T.Valued.BITS c.args.frac g.met.T.RawWord.width_law c.requires in
    (λ i. mul binary32 (c.whole_f32.ensures.value i) (of_bits binary32 (kept c.args.frac i)))
    ∙ product_is binary32 c.args.frac l (g.T.Valued.value c.args.a) (word_below g.T.RawWord.SIGNED g.T.Valued.BITS (g.T.Valued.value c.args.a) g.met.T.RawWord.width_law c.whole_f32.ensures.in_range)
