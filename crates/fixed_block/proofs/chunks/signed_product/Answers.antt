use Rattle.std.proofs.Common.{rules, ◌≡◌, ◌≤◌, nat_abs, ◌*ℤ◌, w32, FitsSigned, of_z, to_z}
use Rattle.std.proofs.lemmas.Int.{to_z-of_z}
use Rattle.fixed_block.proofs.Sums.{product_size}
use Rattle.fixed_block.proofs.chunks.signed_product.Goals as goal

pub returns : goal.returns
returns c =
    let x : to_z w32 (of_z w32 c.args.x) ≡ c.args.x = search rules in
    let y : to_z w32 (of_z w32 c.args.y) ≡ c.args.y = search rules in
    let size : nat_abs (c.args.x *ℤ c.args.y) ≤ 1073741824 = product_size c.args.x c.args.y 32768 c.requires.x c.requires.y in
    let fits : FitsSigned w32 (c.args.x *ℤ c.args.y) = search rules in
    rw (x, y) (to_z-of_z w32 (c.args.x *ℤ c.args.y) fits)
