use Rattle.std.proofs.Common.{◌≡◌, ◌+◌, ◌-◌, ◌*◌, ◌%◌, ◌^◌, ◌≤◌, ℕ, suc, false, T, not, sym, subst, arith}
use Rattle.std.specs.Float.{binary32}
use lib.Ieee.{nan_bits, of_bits}
use lib.Ieee.Exact.{HasValue}
use Rattle.fixed_float.proofs.Halves.{field_not_nan, field_value}
use Rattle.fixed_float.proofs.packed.packed_f32.Goals as goal

kept : (low by frac : ℕ) → by ≤ 32 → frac ≤ 64 → (150 + by - frac) * 8388608 % 4294967296 + low ≡ suc (149 + by - frac) * 2 ^ 23 + low
kept low by frac B G = omega arith

pub float_from_bits-result : goal.float_from_bits-result
float_from_bits-result c =
    let r = c.requires in
    let B : c.args.by ≤ 32 = omega (arith, r.by) in
    subst (λ (b : ℕ). T (not (nan_bits binary32 b))) (sym (kept c.args.low c.args.by c.args.frac B r.frac)) (field_not_nan binary32 c.args.low c.args.by c.args.frac r.low B r.frac)

pub returns : goal.returns
returns c =
    let r = c.requires in
    let B : c.args.by ≤ 32 = omega (arith, r.by) in
    subst (λ (b : ℕ). HasValue (of_bits binary32 b) false ((2 ^ 23 + c.args.low) * 2 ^ c.args.by) (2 ^ c.args.frac)) (sym (kept c.args.low c.args.by c.args.frac B r.frac))
    (field_value binary32 c.args.low c.args.by c.args.frac r.low B r.frac)
