use Rattle.std.proofs.Common.{◌/◌, ◌%◌, ◌^◌, refl}
use Rattle.std.proofs.lemmas.Nat.{div-add-mod'}
use Rattle.fixed_elementary.proofs.Nears.{digits_small, near_is, sum_fits, sum_small}
use Rattle.fixed_elementary.proofs.exponentials.near_exp2.Goals as goal

pub overflow_add-result : goal.overflow_add-result
overflow_add-result c =
    let x = c.args.part in
    record { fits = sum_fits x (x / 2 ^ 32) (x % 2 ^ 32) c.narrow_exp2-power.result c.high-rest.result c.high.result (digits_small x) c.narrow_exp2-power.ensures c.high-rest.ensures.below c.high.ensures.below }

pub returns-clause-near : goal.returns-clause-near
returns-clause-near c =
    let x = c.args.part in
    let n = c.high-rest.ensures in
    let h = c.high.ensures in
    near_is 64 x (x / 2 ^ 32) (x % 2 ^ 32) c.narrow_exp2-power.result c.high-rest.result c.high.result refl (div-add-mod' x (2 ^ 32)) (digits_small x) c.narrow_exp2-power.ensures n.below n.above h.below h.above

pub returns-clause-most : goal.returns-clause-most
returns-clause-most c =
    let x = c.args.part in
    sum_small x (x / 2 ^ 32) (x % 2 ^ 32) c.narrow_exp2-power.result c.high-rest.result c.high.result (digits_small x) c.narrow_exp2-power.ensures c.high-rest.ensures.below c.high.ensures.below
