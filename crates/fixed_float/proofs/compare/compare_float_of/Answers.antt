use Rattle.std.proofs.Common.{◌*◌, ◌^◌, ap, sym, ◌∙◌, subst}
use Rattle.std.specs.Prelude.{Some}
use Rattle.std.specs.Float.{Float}
use Rattle.std.proofs.lemmas.Nat.{pow_pos}
use Rattle.fixed_float.specs.inside.Parts.{AreParts}
use Rattle.fixed_float.proofs.Beside.{order_of_value}
use Rattle.fixed_float.proofs.compare.compare_float_of.Goals as goal

pub returns-in-Some : goal.returns-in-Some
returns-in-Some g c =
    let x = g.X.Binary.float c.args.x in
    let p = c.in-Some.parts in
    let are : AreParts x p = subst (λ (y : Float). AreParts y p) c.widened.ensures c.in-Some.ensures in
    ap Some c.beside_parts.ensures
    ∙ sym (order_of_value x p.below_zero (p.digits * 2 ^ p.scale) (2 ^ 1074) c.args.frac (g.T.Valued.value c.args.a) (pow_pos 1074) are.value)
