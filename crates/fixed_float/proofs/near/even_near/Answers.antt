use Rattle.std.proofs.Common.{◌≡◌, ◌^◌, ◌<◌, ◌-ℤ◌, ℕ, ℤ, pos, ap, sym, ◌∙◌, subst, arith, w64}
use Rattle.std.specs.Prelude.{Some}
use Rattle.std.proofs.lemmas.Int.{ints, to_z_pos, to_z-of_z}
use mir.Val.{SFits, to_z}
use Rattle.fixed_float.proofs.near.even_near.Goals as goal

-- ---- what the bits are, less those of the centre
read_as : (n : ℕ) → n < 2 ^ 63 → to_z w64 n -ℤ pos 4843621399236968448 ≡ pos n -ℤ pos 4843621399236968448
read_as n h = ap (λ (z : ℤ). z -ℤ pos 4843621399236968448) (to_z_pos w64 n h)

apart_fits : (n : ℕ) → n < 2 ^ 63 → SFits w64 (pos n -ℤ pos 4843621399236968448)
apart_fits n h = search (arith, ints)

pub overflow_sub-result : goal.overflow_sub-result
overflow_sub-result g c =
    let h = c.bits_of_sum.ensures.bound in
    subst (SFits w64) (sym (read_as c.bits_of_sum.result h)) (apart_fits c.bits_of_sum.result h)

pub returns-then-is_near-clause-units : goal.returns-then-is_near-clause-units
returns-then-is_near-clause-units g c = λ whole e.
    let h = c.bits_of_sum.ensures.bound in
    let same = read_as c.bits_of_sum.result h in
    c.bits_of_sum.ensures.units ∙ ap Some (sym same) ∙ ap Some (sym (to_z-of_z w64 _ (subst (SFits w64) (sym same) (apart_fits c.bits_of_sum.result h)))) ∙ e

pub returns-then-is_near-clause-held : goal.returns-then-is_near-clause-held
returns-then-is_near-clause-held g c = λ whole e narrow.
    let h = c.bits_of_sum.ensures.bound in
    let same = read_as c.bits_of_sum.result h in
    let row = c.bits_of_sum.ensures.units ∙ ap Some (sym same) ∙ ap Some (sym (to_z-of_z w64 _ (subst (SFits w64) (sym same) (apart_fits c.bits_of_sum.result h)))) ∙ e in
    c.is_near.ensures.held whole c.if-is_near.true narrow row
