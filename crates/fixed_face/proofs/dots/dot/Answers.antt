use Rattle.std.proofs.Common.{refl, arith}
use Rattle.fixed_face.specs.declared.answer.Code.TheVariants.{CountsDiffer, FractionPastWidth}
use Rattle.fixed_face.specs.Near.{allowed}
use Rattle.fixed_face.specs.Places.{with_as_many}
use Rattle.fixed_face.proofs.Choices.{fraction_past}
use Rattle.fixed_face.proofs.DotsLeft.{are_allowed, differ, product_found, product_lost, product_refused}
use Rattle.fixed_face.proofs.dots.dot.Goals as goal

pub returns-then-frac-BITS : goal.returns-then-frac-BITS
returns-then-frac-BITS g c =
    let n = g.T.Valued.BITS in
    product_refused g.T.Valued.value g.T.RawWord.SIGNED n _ _ _ c.args.frac FractionPastWidth (fraction_past n c.args.frac (with_as_many c.args.a.now c.args.b.now allowed) (omega arith))

pub returns-then-a-b : goal.returns-then-a-b
returns-then-a-b g c =
    let n = g.T.Valued.BITS in
    product_refused g.T.Valued.value g.T.RawWord.SIGNED n _ _ _ c.args.frac CountsDiffer (differ n c.args.frac c.args.a.now c.args.b.now (omega arith) c.if-a-b.true)

pub returns-in-Some : goal.returns-in-Some
returns-in-Some g c =
    let n = g.T.Valued.BITS in
    product_found g.T.Valued.value g.T.RawWord.SIGNED n _ _ _ c.args.frac c.in-Some.outcome (are_allowed n c.args.frac c.args.a.now c.args.b.now (omega arith) c.if-a-b.false) c.in-Some.ensures.dot

pub returns-in-None : goal.returns-in-None
returns-in-None g c =
    let n = g.T.Valued.BITS in
    product_lost g.T.Valued.value g.T.RawWord.SIGNED n _ _ _ c.args.frac (are_allowed n c.args.frac c.args.a.now c.args.b.now (omega arith) c.if-a-b.false) (c.in-None.ensures.none refl)
