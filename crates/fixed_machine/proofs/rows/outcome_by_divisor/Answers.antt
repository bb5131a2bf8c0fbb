use Rattle.std.proofs.Common.{◌≡◌, pos, sym, ap, ◌∙◌}
use Rattle.fixed_machine.proofs.Divisors.{undivided}
use Rattle.fixed_machine.proofs.rows.outcome_by_divisor.Goals as goal

pub returns-then-eq : goal.returns-then-eq
returns-then-eq g c =
    let zero : g.T.Valued.value c.args.y ≡ pos 0 = (g.met.T.Ordered.eq_law _ _).0 (sym c.eq.ensures ∙ c.if-eq.true) ∙ ap g.T.Valued.value c.ZERO.ensures ∙ g.met.T.RawWord.zero_law in
    λ z h k. rw zero (undivided c.args.op _ (g.T.Valued.value c.args.x) z c.args.frac h k c.requires.group)
