use Rattle.fixed_policy.proofs.Divided.{is_zero, is_some, divided, undivided}
use Rattle.fixed_policy.proofs.checked.FixedChecked.checked_rem_euclid_int.Goals as goal

pub returns-then-eq : goal.returns-then-eq
returns-then-eq g c = undivided g.T.RawWord.SIGNED g.T.Valued.BITS _ _ (is_zero g.T.Valued.value _ _ _ _ _ (g.met.T.Ordered.eq_law _ _) g.met.T.RawWord.zero_law c.ZERO.ensures c.eq.ensures c.if-eq.true)

pub rem_euclid_int_of-requires : goal.rem_euclid_int_of-requires
rem_euclid_int_of-requires g c = record { frac = c.requires; divisor = is_some g.T.Valued.value _ _ _ _ _ (g.met.T.Ordered.eq_law _ _) g.met.T.RawWord.zero_law c.ZERO.ensures c.eq.ensures c.if-eq.false }

pub returns : goal.returns
returns g c = divided g.T.RawWord.SIGNED g.T.Valued.BITS _ _ _ (is_some g.T.Valued.value _ _ _ _ _ (g.met.T.Ordered.eq_law _ _) g.met.T.RawWord.zero_law c.ZERO.ensures c.eq.ensures c.if-eq.false) (c.checked_number.ensures _ c.rem_euclid_int_of.ensures)
