use Rattle.std.proofs.Common.{◌≢◌, pos, sym, ap, ◌∙◌}
use Rattle.std.proofs.lemmas.Bool.{false≢true, iff_false}
use Rattle.fixed_kernel.proofs.Signs.{above, at_zero}
use Rattle.fixed_kernel.proofs.sums.sign_of.Goals as goal

pub returns-then-eq : goal.returns-then-eq
returns-then-eq g c =
    let zero = ap g.T.Valued.value c.ZERO-then-eq.ensures ∙ g.met.T.RawWord.zero_law in
    let same = (g.met.T.Ordered.eq_law _ _).0 (sym c.eq.ensures ∙ c.if-eq.true) in
    let its = ap g.T.Valued.value c.ZERO-else-is_below_zero.ensures ∙ g.met.T.RawWord.zero_law in
    rw (at_zero (g.T.Valued.value c.args.a) _ (same ∙ its) zero) at c.fitting.ensures

pub returns-else-eq : goal.returns-else-eq
returns-else-eq g c =
    let a = g.T.Valued.value c.args.a in
    let one = ap g.T.Valued.value c.ONE-else-eq.ensures ∙ g.met.T.RawWord.one_law in
    let zero = ap g.T.Valued.value c.ZERO-else-is_below_zero.ensures ∙ g.met.T.RawWord.zero_law in
    let some : a ≢ pos 0 = λ z. false≢true (sym c.if-eq.false ∙ c.eq.ensures ∙ (g.met.T.Ordered.eq_law _ _).1 (z ∙ sym zero)) in
    rw (above a _ (iff_false c.is_below_zero.ensures.sign c.if-is_below_zero.false) some one) at c.fitting-else-eq.ensures
