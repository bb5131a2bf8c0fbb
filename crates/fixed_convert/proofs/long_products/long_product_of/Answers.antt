use Rattle.std.proofs.Common.{◌≡◌, ◌*◌, ◌-◌, ◌^◌, ◌*ℤ◌, ℤ, pos, ap, sym, ◌∙◌, subst, arith}
use mathlib.Core.Bool.{not, beq}
use Rattle.std.proofs.lemmas.Nat.{pow_pos}
use Rattle.fixed_word.specs.Format.{with_sign}
use Rattle.fixed_word.specs.Standing.{StandsFor}
use Rattle.fixed_kernel.specs.Rounded.{rounded}
use Rattle.fixed_kernel.specs.inside.Alike.{Alike}
use Rattle.fixed_kernel.proofs.Alikes.{signed_times, stands_alike}
use Rattle.fixed_convert.proofs.Factors.{product_is, rounded_magnitude}
use Rattle.fixed_convert.proofs.Rounds.{rounded_down, rounded_up}
use Rattle.fixed_convert.proofs.long_products.long_product_of.Goals as goal

pub returns-then-from-to : goal.returns-then-from-to
returns-then-from-to g c =
    let x = g.A.Valued.value c.args.a in
    let y = g.B.Valued.value c.args.b in
    let b = not (beq c.is_below_zero.result c.is_below_zero-2.result) in
    let m = c.magnitude.result * c.magnitude-2.result in
    let d = 2 ^ (c.args.to - c.args.from) in
    let p : with_sign b m ≡ x *ℤ y = product_is _ _ _ _ x y c.is_below_zero.ensures.sign c.is_below_zero-2.ensures.sign c.magnitude.ensures.magnitude c.magnitude-2.ensures.magnitude in
    let q = rounded_up (x *ℤ y) c.args.from c.args.to c.args.rounding c.if-from-to.true ∙ ap (λ (z : ℤ). z *ℤ pos d) (sym p) ∙ signed_times b m d in
    stands_alike g.T.Valued.value g.T.RawWord.SIGNED g.T.Valued.BITS _ _ c.outcome_of_magnitude.result g.met.T.RawWord.width_law
    (subst (λ (z : ℤ). Alike (2 ^ 64) z (with_sign b c.raised_alike.result)) (sym q) (c.raised_alike.ensures b))
    c.outcome_of_magnitude.ensures

pub returns-else-from-to : goal.returns-else-from-to
returns-else-from-to g c =
    let x = g.A.Valued.value c.args.a in
    let y = g.B.Valued.value c.args.b in
    let b = not (beq c.is_below_zero.result c.is_below_zero-2.result) in
    let m = c.magnitude.result * c.magnitude-2.result in
    let k = c.args.from - c.args.to in
    let p : with_sign b m ≡ x *ℤ y = product_is _ _ _ _ x y c.is_below_zero.ensures.sign c.is_below_zero-2.ensures.sign c.magnitude.ensures.magnitude c.magnitude-2.ensures.magnitude in
    let l = c.if-from-to.false in
    let q = rounded_down (x *ℤ y) c.args.from c.args.to c.args.rounding (omega arith) ∙ ap (λ (z : ℤ). rounded z (pos (2 ^ k)) c.args.rounding) (sym p) ∙ rounded_magnitude c.args.rounding b m (2 ^ k) (pow_pos k) ∙ ap (with_sign b) (sym c.lowered.ensures) in
    subst (λ (z : ℤ). StandsFor g.T.Valued.value g.T.RawWord.SIGNED g.T.Valued.BITS z c.outcome_of_magnitude-else-from-to.result) (sym q) c.outcome_of_magnitude-else-from-to.ensures
