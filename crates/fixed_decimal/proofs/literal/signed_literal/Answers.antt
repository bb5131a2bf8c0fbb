use Rattle.std.proofs.Common.{◌∙◌, sym, subst, rules, true}
use Rattle.std.specs.Int.{w64}
use Rattle.std.proofs.lemmas.Int.{to_z-of_z}
use mir.Val.{SFits}
use Rattle.fixed_word.specs.Format.{InRange}
use Rattle.fixed_decimal.proofs.Literals.{literal_fits}
use Rattle.fixed_decimal.proofs.literal.signed_literal.Goals as goal

pub returns-in-Some-clause-range : goal.returns-in-Some-clause-range
returns-in-Some-clause-range c =
    let r = literal_fits true c.args.width c.args.frac c.args.text.now c.in-Some.bits (sym c.checked_signed_literal.ensures ∙ c.in-Some.is) in
    let f : SFits w64 c.in-Some.bits = search rules in
    subst (InRange true c.args.width) (sym (to_z-of_z w64 c.in-Some.bits f)) r
