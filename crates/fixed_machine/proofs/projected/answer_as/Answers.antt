use Rattle.std.proofs.Common.{◌≡◌, ℤ, Option, Some, None, subst, sym}
use Rattle.fixed_machine.specs.Machine.{row_by}
use Rattle.fixed_machine.specs.inside.Stepping.{IsAnswerOfRow, in_whole, values_of}
use Rattle.fixed_machine.proofs.projected.answer_as.Goals as goal

pub returns-in-None : goal.returns-in-None
returns-in-None g c =
    let e : row_by c.args.rounding c.args.op (values_of c.args.taken.now) ≡ None = cc (c.in-None.ensures) in
    c.unanswered.ensures g.T.RawWord.SIGNED g.T.Valued.BITS (row_by c.args.rounding c.args.op (values_of c.args.taken.now)) e

pub returns-in-Some : goal.returns-in-Some
returns-in-Some g c =
    let found = c.in-Some.ensures in
    let row : row_by c.args.rounding c.args.op (values_of c.args.taken.now) ≡ Some found.0 = cc (found.1) in
    subst (λ (o : Option ℤ). IsAnswerOfRow g.T.RawWord.SIGNED g.T.Valued.BITS c.args.policy c.args.op o c.args.number (in_whole c.answered.result)) (sym row) (c.answered.ensures found.0 c.args.op found.2)

pub outcome_by-requires-clause-offered : goal.outcome_by-requires-clause-offered
outcome_by-requires-clause-offered g c = (c.args.policy, c.requires.offered)
