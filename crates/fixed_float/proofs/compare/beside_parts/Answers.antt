use Rattle.std.proofs.Common.{arith, ◌∙◌}
use Rattle.fixed_word.specs.Format.{with_sign}
use Rattle.fixed_convert.proofs.Factors.{read_short}
use Rattle.fixed_float.proofs.Beside.{order_above, order_below}
use Rattle.fixed_float.proofs.compare.beside_parts.Goals as goal

pub returns-then-parts-le-LEAST : goal.returns-then-parts-le-LEAST
returns-then-parts-le-LEAST g c =
    let p = c.args.parts in
    let d = read_short c.signed_digits-digits.result (with_sign p.below_zero p.digits) (record { sfits = c.signed_digits-digits.type_inv }) c.signed_digits-digits.ensures in
    rw d at c.compare_of.ensures ∙ order_below (g.T.Valued.value c.args.a) p.below_zero p.digits c.args.frac p.scale c.if-parts-le-LEAST.true

pub returns-else-parts-le-LEAST : goal.returns-else-parts-le-LEAST
returns-else-parts-le-LEAST g c =
    let p = c.args.parts in
    let d = read_short c.signed_digits-digits.result (with_sign p.below_zero p.digits) (record { sfits = c.signed_digits-digits.type_inv }) c.signed_digits-digits.ensures in
    let l = c.if-parts-le-LEAST.false in
    rw d at c.compare_of-else-parts-le-LEAST.ensures ∙ order_above (g.T.Valued.value c.args.a) p.below_zero p.digits c.args.frac p.scale (omega arith)
