use Rattle.std.proofs.Common.{true, ap, ◌∙◌, arith, ◌*ℤ◌}
use Rattle.fixed_word.specs.Format.{wrap}
use Rattle.fixed_convert.specs.inside.Narrow.{digits_of}
use Rattle.fixed_convert.proofs.Cuts.{read_back}
use Rattle.fixed_convert.proofs.Factors.{digits_bound, kept_in_64, product_in_64, read_short}
use Rattle.fixed_convert.proofs.products.short_product.Goals as goal

pub times-requires : goal.times-requires
times-requires g c =
    let x = g.A.Valued.value c.args.a in
    let y = g.B.Valued.value c.args.b in
    let j = digits_of g.A.RawWord.SIGNED g.A.Valued.BITS in
    let k = digits_of g.B.RawWord.SIGNED g.B.Valued.BITS in
    let p = digits_bound g.A.RawWord.SIGNED g.A.Valued.BITS x c.to_wide.ensures.in_range in
    let q = digits_bound g.B.RawWord.SIGNED g.B.Valued.BITS y c.to_wide-2.ensures.in_range in
    let a = read_back c.to_wide.result x (record { sfits = c.to_wide.type_inv }) c.to_wide.ensures.value in
    let b = read_back c.to_wide-2.result y (record { sfits = c.to_wide-2.type_inv }) c.to_wide-2.ensures.value in
    let u = read_short c.from_wide.result x (record { sfits = c.from_wide.type_inv }) (c.from_wide.ensures ∙ ap (wrap true 64) a ∙ kept_in_64 x j p (omega (arith, c.requires))) in
    let v = read_short c.from_wide-2.result y (record { sfits = c.from_wide-2.type_inv }) (c.from_wide-2.ensures ∙ ap (wrap true 64) b ∙ kept_in_64 y k q (omega (arith, c.requires))) in
    rw (u, v) (product_in_64 x y j k p q c.requires)

pub returns : goal.returns
returns g c =
    let x = g.A.Valued.value c.args.a in
    let y = g.B.Valued.value c.args.b in
    let j = digits_of g.A.RawWord.SIGNED g.A.Valued.BITS in
    let k = digits_of g.B.RawWord.SIGNED g.B.Valued.BITS in
    let p = digits_bound g.A.RawWord.SIGNED g.A.Valued.BITS x c.to_wide.ensures.in_range in
    let q = digits_bound g.B.RawWord.SIGNED g.B.Valued.BITS y c.to_wide-2.ensures.in_range in
    let a = read_back c.to_wide.result x (record { sfits = c.to_wide.type_inv }) c.to_wide.ensures.value in
    let b = read_back c.to_wide-2.result y (record { sfits = c.to_wide-2.type_inv }) c.to_wide-2.ensures.value in
    let u = read_short c.from_wide.result x (record { sfits = c.from_wide.type_inv }) (c.from_wide.ensures ∙ ap (wrap true 64) a ∙ kept_in_64 x j p (omega (arith, c.requires))) in
    let v = read_short c.from_wide-2.result y (record { sfits = c.from_wide-2.type_inv }) (c.from_wide-2.ensures ∙ ap (wrap true 64) b ∙ kept_in_64 y k q (omega (arith, c.requires))) in
    read_short c.times.result (x *ℤ y) (record { sfits = c.times.type_inv }) (c.times.ensures ∙ (λ i. u i *ℤ v i))
