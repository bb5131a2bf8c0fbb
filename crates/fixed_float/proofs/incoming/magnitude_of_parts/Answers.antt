use Rattle.std.proofs.Common.{◌≡◌, ◌+◌, ◌-◌, ◌*◌, ◌%◌, ◌^◌, ◌<◌, ◌≤◌, ℕ, min, pos, ap, sym, ◌∙◌, subst, arith, lt_of_lt_of_le, mod-eq_of_lt, pow_mono}
use Rattle.std.proofs.lemmas.Nat.{shl_below}
use Rattle.fixed_word.specs.Format.{with_sign}
use Rattle.fixed_kernel.specs.Rounded.{rounded}
use Rattle.fixed_kernel.specs.inside.Alike.{Alike}
use Rattle.fixed_kernel.proofs.Alikes.{alike_same}
use Rattle.fixed_kernel.proofs.Stepped.{stepped}
use Rattle.fixed_float.proofs.Far.{moved_down, moved_up}
use Rattle.fixed_float.proofs.incoming.magnitude_of_parts.Goals as goal

pub returns-then-up-le-LEAST : goal.returns-then-up-le-LEAST
returns-then-up-le-LEAST c =
    let p = c.args.parts in
    let up = p.scale + c.args.frac in
    let by : c.min-by.result ≡ min (1074 - up) 63 = c.min-by.ensures in
    alike_same (2 ^ 64) (rounded (with_sign p.below_zero (p.digits * 2 ^ up)) (pos (2 ^ 1074)) c.args.rounding) (with_sign p.below_zero c.lowered.result)
    (ap (with_sign p.below_zero) (c.lowered.ensures ∙ (λ i. stepped c.args.rounding p.below_zero p.digits (2 ^ by i)))
    ∙ moved_down c.args.rounding p.below_zero p.digits up c.requires.digits c.if-up-le-LEAST.true)

pub returns-else-up : goal.returns-else-up
returns-else-up c =
    let p = c.args.parts in
    let up = p.scale + c.args.frac in
    let by = c.min-by-else-up.result in
    let x = rounded (with_sign p.below_zero (p.digits * 2 ^ up)) (pos (2 ^ 1074)) c.args.rounding in
    let is : by ≡ min (up - 1074) 64 = c.min-by-else-up.ensures in
    let room : p.digits * 2 ^ by < 2 ^ 128 = lt_of_lt_of_le (shl_below p.digits 53 by c.requires.digits) (pow_mono {i = 53 + by} {j = 128} (omega arith)) in
    let kept : p.digits * 2 ^ min (up - 1074) 64 ≡ p.digits * 2 ^ by % 2 ^ 128 = ap (λ (j : ℕ). p.digits * 2 ^ j) (sym is) ∙ sym (mod-eq_of_lt room) in
    subst (λ (z : ℕ). Alike (2 ^ 64) x (with_sign p.below_zero z)) kept (moved_up c.args.rounding p.below_zero p.digits up (omega (arith, c.if-up-le-LEAST.false)))

pub returns-then-up : goal.returns-then-up
returns-then-up c =
    let p = c.args.parts in
    let up = p.scale + c.args.frac in
    let x = rounded (with_sign p.below_zero (p.digits * 2 ^ up)) (pos (2 ^ 1074)) c.args.rounding in
    let few : up - 1074 ≤ 11 = omega (arith, c.if-up.true) in
    let room : p.digits * 2 ^ (up - 1074) < 2 ^ 64 = lt_of_lt_of_le (shl_below p.digits 53 (up - 1074) c.requires.digits) (pow_mono {i = 53 + (up - 1074)} {j = 64} (omega arith)) in
    let kept : p.digits * 2 ^ min (up - 1074) 64 ≡ p.digits * 2 ^ (up - 1074) % 2 ^ 64 = ap (λ (j : ℕ). p.digits * 2 ^ j) {x = min (up - 1074) 64} {y = up - 1074} (omega arith) ∙ sym (mod-eq_of_lt room) in
    subst (λ (z : ℕ). Alike (2 ^ 64) x (with_sign p.below_zero z)) kept (moved_up c.args.rounding p.below_zero p.digits up (omega (arith, c.if-up-le-LEAST.false)))
