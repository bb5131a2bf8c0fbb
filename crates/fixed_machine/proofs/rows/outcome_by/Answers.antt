use Rattle.std.proofs.Common.{ℤ, Option, sym, ap, subst, ◌∙◌}
use Rattle.fixed_word.specs.Standing.{IsOutcomeOfRow}
use Rattle.fixed_machine.specs.Rows.{exact, rounding_of}
use Rattle.fixed_machine.specs.Step.{cell_of}
use Rattle.fixed_machine.proofs.Divisors.{unrounded}
use Rattle.fixed_machine.proofs.rows.outcome_by.Goals as goal
use Rattle.fixed_machine.proofs.rows.outcome_by.Goals.{in_default-via-in-Some+else-takes_rounding, in_default-via-in_default}

pub returns-in_default : goal.returns-in_default
returns-in_default g c =
    let value = g.T.Valued.value in
    let a = value c.args.a.bits in
    let b = value c.args.b.bits in
    let d = (cell_of c.args.c).bits in
    let tells = λ (row : Option ℤ). IsOutcomeOfRow value g.T.RawWord.SIGNED g.T.Valued.BITS row c.outcome_as.result in
    elim c.in_default.branch [
      | in_default-via-in-Some+else-takes_rounding w ↦
          subst tells (unrounded c.args.op _ (rounding_of c.args.op c.args.rounding) a b d c.args.a.fraction c.args.b.fraction c.args.c.fraction (sym w.takes_rounding.ensures ∙ w.if-takes_rounding.false)) c.outcome_as.ensures
      | in_default-via-in_default w ↦
          subst tells (sym (ap (λ how. exact c.args.op (rounding_of c.args.op how) a b d c.args.a.fraction c.args.b.fraction c.args.c.fraction) w.in_default.is)) c.outcome_as.ensures
    ]
