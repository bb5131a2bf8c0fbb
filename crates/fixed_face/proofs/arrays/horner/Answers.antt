use Rattle.std.proofs.Common.{rules, Ok, ap, sym, ◌∙◌, arith}
use Rattle.fixed_face.proofs.PlacesLeft.{horner_is, place_left, step_is, value_is, value_left}
use Rattle.fixed_face.proofs.arrays.horner.Goals as goal

pub returns-in-Value : goal.returns-in-Value
returns-in-Value g c =
    let number = g.T.Valued.value in
    value_left number _ c.in-Value.found _ (horner_is number g.T.RawWord.SIGNED g.T.Valued.BITS c.args.frac c.args.x c.args.coefs.now (omega arith) (sym c.is_empty.ensures ∙ c.if-is_empty.false) ∙ ap Ok (value_is _ (number c.in-Value.found) c.in-Value.ensures))

pub returns-in-Overflow : goal.returns-in-Overflow
returns-in-Overflow g c =
    let number = g.T.Valued.value in
    place_left number _ c.in-Overflow.place _ _ (horner_is number g.T.RawWord.SIGNED g.T.Valued.BITS c.args.frac c.args.x c.args.coefs.now (omega arith) (sym c.is_empty.ensures ∙ c.if-is_empty.false) ∙ ap Ok (step_is _ c.in-Overflow.place c.in-Overflow.ensures)) (search rules)
