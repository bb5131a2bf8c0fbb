use Rattle.fixed_policy.proofs.Divided.{is_zero, is_some, divided, undivided}
use Rattle.fixed_policy.proofs.checked_rounded.FixedCheckedRounded.checked_div_int_round.Goals as goal

pub returns-then-eq : goal.returns-then-eq
returns-then-eq g c = undivided g.T.RawWord.SIGNED g.T.Valued.BITS _ _ (is_zero g.T.Valued.value _ _ _ _ _ (g.met.T.Ordered.eq_law _ _) g.met.T.RawWord.zero_law c.ZERO.ensures c.eq.ensures c.if-eq.true)

pub div_int_round_of-requires : goal.div_int_round_of-requires
div_int_round_of-requires g c = is_some g.T.Valued.value _ _ _ _ _ (g.met.T.Ordered.eq_law _ _) g.met.T.RawWord.zero_law c.ZERO.ensures c.eq.ensures c.if-eq.false

pub returns : goal.returns
returns g c = divided g.T.RawWord.SIGNED g.T.Valued.BITS _ _ _ (is_some g.T.Valued.value _ _ _ _ _ (g.met.T.Ordered.eq_law _ _) g.met.T.RawWord.zero_law c.ZERO.ensures c.eq.ensures c.if-eq.false) (c.checked_number.ensures _ c.div_int_round_of.ensures)
