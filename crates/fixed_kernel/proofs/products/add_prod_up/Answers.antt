use Rattle.std.proofs.Common.{◌≡◌, ◌-◌, ◌^◌, ◌<◌, ◌+ℤ◌, ◌*ℤ◌, ℕ, ℤ, suc, pos, neg_ℤ, negsuc, nat_abs, subst, sym, ap, ◌∙◌, arith}
use Rattle.std.proofs.lemmas.Int.{ints}
use Rattle.fixed_word.specs.Standing.{StandsFor}
use Rattle.fixed_kernel.specs.inside.Alike.{Alike}
use Rattle.fixed_kernel.specs.Rows.{exact_add_prod_at}
use Rattle.fixed_kernel.specs.inside.WideValue.{value_of}
use Rattle.fixed_kernel.proofs.Alikes.{abs_signed, alike_plus}
use Rattle.fixed_kernel.proofs.products.add_prod_up.Goals as goal

pub returns : goal.returns
returns g c =
    let up_by = c.args.by in
    let s : up_by ≡ suc (up_by - 1) = omega arith in
    let e : negsuc (up_by - 1) ≡ neg_ℤ (pos up_by) = omega (arith, ints) in
    let va = g.T.Valued.value c.args.a in
    let vb = g.T.Valued.value c.args.b in
    let vc = g.T.Valued.value c.args.c in
    let at = λ (s : ℤ). exact_add_prod_at vc va vb s in
    let third = value_of c.of.result in
    let x = value_of c.product.result *ℤ pos (2 ^ up_by) +ℤ third in
    let small : nat_abs third < 2 ^ 64 = rw abs_signed c.of.ensures.small in
    let a : Alike (2 ^ 64) x (value_of c.scaled_alike.result +ℤ third) = alike_plus (value_of c.product.result *ℤ pos (2 ^ up_by)) (value_of c.scaled_alike.result) third c.scaled_alike.ensures.value small in
    let b : Alike (2 ^ 64) x (value_of c.plus.result) = subst (λ (y : ℤ). Alike (2 ^ 64) x y) (sym c.plus.ensures.value) a in
    let v : x ≡ (va *ℤ vb) *ℤ pos (2 ^ up_by) +ℤ vc = cc in
    let w : (va *ℤ vb) *ℤ pos (2 ^ up_by) +ℤ vc ≡ at (negsuc (up_by - 1)) = ap (λ (n : ℕ). (va *ℤ vb) *ℤ pos (2 ^ n) +ℤ vc) s in
    subst (λ (x : ℤ). StandsFor g.T.Valued.value g.T.RawWord.SIGNED g.T.Valued.BITS x c.outcome_alike.result) (v ∙ w ∙ ap at e) (c.outcome_alike.ensures x b)
