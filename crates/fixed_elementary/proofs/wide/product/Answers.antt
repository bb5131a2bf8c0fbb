use Rattle.std.proofs.Common.{◌^◌, rules}
use Rattle.fixed_elementary.proofs.Halves.{product_is}
use Rattle.fixed_elementary.proofs.wide.product.Goals as goal

pub returns : goal.returns
returns c =
    let e = product_is (2 ^ 64) c.args.a c.args.b _ _ _ _ _ _ _ _ _ _ c.split-a.ensures.value c.split-b.ensures.value c.half_product-lowest.ensures.value c.half_product-first.ensures.value c.half_product-second.ensures.value in
    search rules
