use Rattle.std.proofs.Common.{◌≤◌, ◌+◌, ◌*ℤ◌, ℤ, map, length, ap, ◌∙◌, arith}
use Rattle.std.proofs.lemmas.List.{length-map}
use Rattle.fixed_word.proofs.Wraps.{width_pos}
use Rattle.fixed_block.proofs.Fronts.{each_long}
use Rattle.fixed_block.proofs.Parts.{past_next, past_none, past_room, past_start}
use Rattle.fixed_block.proofs.operations.short_products_fit.Goals as goal

pub loop-x-init : goal.loop-x-init
loop-x-init g c = past_start _ _ _ _ (c.whole-past.ensures.value ∙ ap g.T.Valued.value c.ZERO.ensures ∙ g.met.T.RawWord.zero_law)

pub floored-requires : goal.floored-requires
floored-requires g c = omega (arith, c.BITS.ensures, width_pos g.T.Valued.BITS g.met.T.RawWord.width_law, g.met.T.Arithmetic.whole_width_law)

pub plus-past-requires : goal.plus-past-requires
plus-past-requires g c =
    let value = g.T.Valued.value in
    let r = λ (x : ℤ). x *ℤ value c.args.k in
    let i = c.loop-x.x-index in
    let few : i + 1 ≤ 64 = omega (arith, c.requires.few, c.loop-x-test.true) in
    past_room g.T.RawWord.SIGNED g.T.Whole.Integer.SIGNED g.T.Valued.BITS g.T.Whole.Valued.BITS _ (i + 1) _ c.requires.sign g.met.T.Arithmetic.whole_sign_law g.met.T.RawWord.width_law g.met.T.Arithmetic.whole_width_law few
    (past_next value r c.args.block.now g.T.RawWord.SIGNED g.T.Valued.BITS i _ c.x-item.result _ _ _ c.requires.sign c.BITS.ensures c.loop-x.invariant c.x-item.is c.loop-x-test.true c.whole_product.ensures.value c.whole_product.ensures.size c.floored.ensures)

pub loop-x-preserved : goal.loop-x-preserved
loop-x-preserved g c =
    let value = g.T.Valued.value in
    let r = λ (x : ℤ). x *ℤ value c.args.k in
    rw c.plus-past.ensures (past_next value r c.args.block.now g.T.RawWord.SIGNED g.T.Valued.BITS c.loop-x.x-index _ c.x-item.result _ _ _ c.requires.sign c.BITS.ensures c.loop-x.invariant c.x-item.is c.loop-x-test.true c.whole_product.ensures.value c.whole_product.ensures.size c.floored.ensures)

pub returns : goal.returns
returns g c =
    let value = g.T.Valued.value in
    let r = λ (x : ℤ). x *ℤ value c.args.k in
    let block = c.args.block.now in
    let zero = c.whole.ensures.value ∙ ap value c.ZERO-2.ensures ∙ g.met.T.RawWord.zero_law in
    let long : length (map r (map value block)) ≤ c.loop-x.x-index = omega (arith, each_long value r block, length-map block value, c.loop-x-test.false) in
    past_none g.T.RawWord.SIGNED g.T.Valued.BITS (map r (map value block)) c.loop-x.x-index _ c.equals.result c.loop-x.invariant long (rw zero at c.equals.ensures)
