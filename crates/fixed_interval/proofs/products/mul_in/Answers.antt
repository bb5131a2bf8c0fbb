use Rattle.fixed_interval.specs.Ends.{ends_of, product_of}
use Rattle.fixed_interval.specs.Containment.{HoldsProducts}
use Rattle.fixed_interval.proofs.Fitting.{seen, held_some}
use Rattle.fixed_interval.proofs.ProductCorners.{high_is, low_is}
use Rattle.fixed_interval.proofs.ProductEnds.{holds_products, product_order}
use Rattle.fixed_interval.proofs.products.mul_in.Goals as goal

pub returns-clause-ends : goal.returns-clause-ends
returns-clause-ends g c =
    let a = ends_of g.T.Valued.value c.args.a.now in
    let b = ends_of g.T.Valued.value c.args.b.now in
    let f = c.args.frac in
    c.between.ensures (product_of a b f)
    (rw (c.floored-low.ensures, c.least_product.ensures.value, low_is a b f) at c.outcome_of_whole.ensures)
    (rw (c.ceiled-high.ensures, c.greatest_product.ensures.value, high_is a b f) at c.outcome_of_whole-2.ensures)
    (product_order a b f)

pub returns-clause-holds : goal.returns-clause-holds
returns-clause-holds g c =
    let a = ends_of g.T.Valued.value c.args.a.now in
    let b = ends_of g.T.Valued.value c.args.b.now in
    let f = c.args.frac in
    seen (ends_of g.T.Valued.value) (HoldsProducts a b f) c.between.result (held_some (HoldsProducts a b f) g.T.RawWord.SIGNED g.T.Valued.BITS (product_of a b f) _ (returns-clause-ends g c) (holds_products a b f))
