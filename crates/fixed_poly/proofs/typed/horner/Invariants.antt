use Rattle.std.proofs.Common.{map}
use Rattle.fixed_poly.proofs.Steps.{IsAt}
use Rattle.fixed_poly.proofs.typed.horner.Given as goal

abbrev pub invariant-loop-i : goal.invariant-loop-i
invariant-loop-i g l =
    let number = g.T.Valued.value in
    IsAt g.T.RawWord.SIGNED g.T.Valued.BITS g.row.F (number l.x.bits) (map (λ c. number c.bits) l.coefs) l.i (number l.value.bits)
