use Rattle.std.proofs.Common.{◌*◌, ◌^◌, arith}
use Rattle.fixed_elementary.proofs.Powers.{turned}
use Rattle.fixed_elementary.proofs.exponentials.broad_turn.Goals as goal

pub returns : goal.returns
returns c = λ n z h.
    turned (2 ^ 126) (4 * c.args.group) 4 n 12 z c.args.digits c.args.power c.broad_factor.result c.broad_product.result (omega arith) c.requires.digits h c.broad_factor.ensures c.broad_product.ensures
