use Rattle.std.proofs.Common.{◌≡◌, pos, sym, ap, ◌∙◌}
use Rattle.fixed_machine.proofs.Divisors.{divided, no_row, not_zero}
use Rattle.fixed_machine.proofs.rows.rounded_quotient_by.Goals as goal

pub returns-then-eq : goal.returns-then-eq
returns-then-eq g c =
    no_row _ _ ((g.met.T.Ordered.eq_law _ _).0 (sym c.eq.ensures ∙ c.if-eq.true) ∙ ap g.T.Valued.value c.ZERO.ensures ∙ g.met.T.RawWord.zero_law)

pub returns : goal.returns
returns g c =
    let zero_is : g.T.Valued.value c.ZERO.result ≡ pos 0 = ap g.T.Valued.value c.ZERO.ensures ∙ g.met.T.RawWord.zero_law in
    let some = not_zero _ _ _ (g.met.T.Ordered.eq_law _ _) zero_is (sym c.eq.ensures ∙ c.if-eq.false) in
    divided _ _ _ _ _ _ some c.div_int_round_of.ensures
