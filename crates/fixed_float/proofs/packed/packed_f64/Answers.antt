use Rattle.std.proofs.Common.{◌≡◌, ◌+◌, ◌-◌, ◌*◌, ◌%◌, ◌^◌, ◌≤◌, ℕ, suc, false, T, not, sym, subst, arith}
use Rattle.std.specs.Float.{binary64}
use lib.Ieee.{nan_bits, of_bits}
use lib.Ieee.Exact.{HasValue}
use Rattle.fixed_float.proofs.Halves.{field_not_nan, field_value}
use Rattle.fixed_float.proofs.packed.packed_f64.Goals as goal

kept : (low by frac : ℕ) → by ≤ 32 → frac ≤ 64 → (1075 + by - frac) * 4503599627370496 % 18446744073709551616 + low ≡ suc (1074 + by - frac) * 2 ^ 52 + low
kept low by frac B G = omega arith

pub float_from_bits-result : goal.float_from_bits-result
float_from_bits-result c =
    let r = c.requires in
    let B : c.args.by ≤ 32 = omega (arith, r.by) in
    subst (λ (b : ℕ). T (not (nan_bits binary64 b))) (sym (kept c.args.low c.args.by c.args.frac B r.frac)) (field_not_nan binary64 c.args.low c.args.by c.args.frac r.low B r.frac)

pub returns : goal.returns
returns c =
    let r = c.requires in
    let B : c.args.by ≤ 32 = omega (arith, r.by) in
    subst (λ (b : ℕ). HasValue (of_bits binary64 b) false ((2 ^ 52 + c.args.low) * 2 ^ c.args.by) (2 ^ c.args.frac)) (sym (kept c.args.low c.args.by c.args.frac B r.frac))
    (field_value binary64 c.args.low c.args.by c.args.frac r.low B r.frac)
