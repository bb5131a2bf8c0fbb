use Rattle.std.proofs.Common.{◌≡◌, ◌+◌, ◌-◌, ◌*◌, ◌^◌, ◌<◌, ℕ, ℤ, suc, pos, subst, sym, ap, ◌∙◌, arith}
use Rattle.fixed_word.specs.Format.{with_sign}
use Rattle.fixed_word.specs.Standing.{StandsFor}
use Rattle.fixed_kernel.specs.inside.Alike.{Alike}
use Rattle.fixed_kernel.proofs.Alikes.{size_pos, width_at_most}
use Rattle.fixed_kernel.specs.Rounded.{rounded}
use Rattle.fixed_kernel.specs.inside.Steps.{rounding_step}
use Rattle.fixed_kernel.specs.inside.WideValue.{value_of}
use Rattle.fixed_kernel.proofs.Wholes.{rounded_alike}
use Rattle.fixed_kernel.proofs.rounded_quotients.recip_round_of.Goals as goal

pub returns-else-frac-lt64 : goal.returns-else-frac-lt64
returns-else-frac-lt64 g c =
    let va = g.T.Valued.value c.args.a in
    let k = c.args.rounding in
    let d = c.of-divisor.result in
    let w = width_at_most g.T.Valued.BITS g.met.T.RawWord.width_law in
    let e : c.args.frac ≡ 64 = omega arith in
    let v : value_of d ≡ va = c.of-divisor.ensures.value in
    let some : 0 < d.magnitude = size_pos d.below_zero d.magnitude va v c.requires.divisor in
    let up : suc (d.magnitude - 1) ≡ d.magnitude = omega arith in
    let q = c.whole_over-quotient.result.0 in
    let r = c.whole_over-quotient.result.1 in
    let m = c.step-more.ensures ∙ ap (rounding_step k d.below_zero q r) up in
    let a = rounded_alike k d.below_zero d.magnitude q r some c.whole_over-quotient.ensures.one c.whole_over-quotient.ensures.more in
    let b = subst (λ (n : ℕ). Alike (2 ^ 64) (rounded (pos (2 ^ 128)) (value_of d) k) (with_sign d.below_zero (q + n))) (sym m) a in
    let h = c.outcome_alike.ensures (rounded (pos (2 ^ 128)) (value_of d) k) b in
    let s : rounded (pos (2 ^ 128)) (value_of d) k ≡ rounded (pos (2 ^ (2 * c.args.frac))) va k = ap (λ (y : ℤ). rounded (pos (2 ^ 128)) y k) v ∙ ap (λ (f : ℕ). rounded (pos (2 ^ (2 * f))) va k) (sym e) in
    subst (λ (x : ℤ). StandsFor g.T.Valued.value g.T.RawWord.SIGNED g.T.Valued.BITS x c.outcome_alike.result) s h
