use Rattle.std.proofs.Common.{Err, Result, subst, sym, ◌∙◌, arith}
use Rattle.fixed_word.specs.declared.outcome.Outcome.{Outcome}
use Rattle.fixed_decimal.specs.declared.error.DecimalError.{DecimalError}
use Rattle.fixed_decimal.specs.Decimal.{decimal_row}
use Rattle.fixed_decimal.specs.Rows.{IsOutcomeOf}
use Rattle.fixed_face.proofs.Unread.{unread_call}
use Rattle.fixed_face.proofs.texts.parse.Goals as goal

pub returns-in-Err : goal.returns-in-Err
returns-in-Err g c =
    let n = g.T.Valued.BITS in
    let row = decimal_row c.args.text.now c.args.frac in
    let read = subst (λ o. IsOutcomeOf g.T.Valued.value g.T.RawWord.SIGNED n (row c.in-Some.rounding) o) c.in-Err.is c.decimal_of.ensures in
    unread_call g.T.Valued.value g.T.RawWord.SIGNED n c.args.frac c.args.rounding c.in-Some.rounding row c.in-Err.error c.code_of.result (omega (arith, c.if-frac-BITS.false, c.BITS.ensures)) (sym c.rounding_of.ensures ∙ c.in-Some.is) read c.code_of.ensures
