use Rattle.std.proofs.Common.{◌^◌, ap, ◌∙◌}
use Rattle.fixed_word.specs.Format.{clamp}
use Rattle.fixed_word.specs.Quotient.{floor_quotient}
use Rattle.fixed_kernel.proofs.products.mul_nearest_of.Goals as goal

pub returns : goal.returns
returns g c =
    let number = c.floored.ensures ∙ ap (λ z. floor_quotient z (2 ^ c.args.frac)) c.product.ensures.value in
    c.nearest_of_whole.ensures ∙ ap (clamp g.T.RawWord.SIGNED g.T.Valued.BITS) number
