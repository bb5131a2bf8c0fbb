use Rattle.std.proofs.Common.{◌*◌, ◌^◌, arith}
use Rattle.fixed_elementary.proofs.Powers.{turned}
use Rattle.fixed_elementary.proofs.exponentials.narrow_turn.Goals as goal

pub returns : goal.returns
returns c = λ n z h.
    turned (2 ^ 62) (8 * c.args.group) 8 n 1 z c.args.digits c.args.power c.narrow_factor.result c.narrow_product.result (omega arith) c.requires.digits h c.narrow_factor.ensures c.narrow_product.ensures
