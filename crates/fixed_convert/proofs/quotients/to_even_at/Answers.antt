use Rattle.std.proofs.Common.{◌≡◌, ◌^◌, ◌+ℤ◌, ◌-ℤ◌, pos, negsuc, refl, ◌∙◌, arith}
use Rattle.std.proofs.lemmas.Int.{ints}
use Rattle.std.proofs.lemmas.Nat.{pow_pos}
use Rattle.fixed_word.specs.Quotient.{floor_quotient}
use Rattle.fixed_word.specs.declared.rounding.Rounding.TheVariants.{Even}
use Rattle.fixed_kernel.specs.Rounded.{rounded}
use Rattle.fixed_convert.proofs.Cuts.{read_back}
use Rattle.fixed_convert.proofs.Nearness.{even_half, parity_of}
use Rattle.fixed_convert.proofs.quotients.to_even_at.Goals as goal

pub returns : goal.returns
returns c =
    let x = c.args.number in
    let d = 2 ^ c.args.by in
    let low = floor_quotient x d in
    let n = read_back x x c.ranges.number refl in
    let l = read_back c.floored.result low (record { sfits = c.floored.type_inv }) (rw n at c.floored.ensures) in
    let p = read_back c.parity.result (parity_of low) (record { sfits = c.parity.type_inv }) (rw l at c.parity.ensures) in
    let e : parity_of low +ℤ negsuc 0 ≡ parity_of low -ℤ pos 1 = omega (arith, ints) in
    let q = read_back c.plus.result (parity_of low -ℤ pos 1) (record { sfits = c.plus.type_inv }) ((rw p at c.plus.ensures) ∙ e) in
    read_back c.half_added.result (rounded x (pos d) Even) (record { sfits = c.half_added.type_inv }) ((rw (n, q) at c.half_added.ensures) ∙ even_half x low d (pow_pos c.args.by) refl)
