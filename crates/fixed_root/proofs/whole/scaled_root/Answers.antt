use Rattle.std.proofs.Common.{◌^◌, arith}
use Rattle.fixed_root.proofs.Scaled.{product_below, scaled_is}
use Rattle.fixed_root.proofs.whole.scaled_root.Goals as goal

pub returns-then-a : goal.returns-then-a
returns-then-a c =
    let a = c.args.a in
    let f = c.args.frac in
    scaled_is a f c.root_of_word.result (2 ^ 64) (product_below a f 32 32 (omega arith) (omega arith)) c.root_of_word.ensures.square_le c.root_of_word.ensures.next_square_gt

pub returns-else-frac-le32 : goal.returns-else-frac-le32
returns-else-frac-le32 c =
    let a = c.args.a in
    let f = c.args.frac in
    scaled_is a f c.root_of_double.result (2 ^ 128) (product_below a f 64 64 (omega arith) (omega arith)) c.root_of_double.ensures.square_le c.root_of_double.ensures.next_square_gt
