use Rattle.std.proofs.Common.{◌==◌, ◌-◌, ◌*◌, ◌/◌, ◌%◌, ◌^◌, not, ap, ◌∙◌, mul_left_comm, arith}
use Rattle.std.proofs.lemmas.Nat.{one_shl}
use Rattle.fixed_decimal.proofs.Parts.{moved_short, moved_up}
use Rattle.fixed_decimal.proofs.reading.rounded_quotient.Goals as goal

pub returns-then-value-frac : goal.returns-then-value-frac
returns-then-value-frac c =
    let v = c.args.value in
    let f = c.args.frac in
    let by = c.args.by in
    let e = moved_short v f (omega (arith, c.if-value-frac.true, one_shl (63 - f) 64 (omega arith))) c.if-frac-lt63.true in
    c.rounded_halves.ensures (v * 2 ^ f) by c.requires.by (ap (λ k. k / by) e) (ap (λ k. not (k % by == 0)) e)

pub returns-else-frac-lt63 : goal.returns-else-frac-lt63
returns-else-frac-lt63 c =
    let v = c.args.value in
    let f = c.args.frac in
    let by = c.args.by in
    let e = moved_up v f c.requires.value c.requires.frac ∙ mul_left_comm v 2 (2 ^ f) in
    c.rounded_halves-else-frac-lt63.ensures (v * 2 ^ f) by c.requires.by (c.divided-halves.ensures.quotient ∙ ap (λ k. k / by) e) (c.divided-halves.ensures.rest ∙ ap (λ k. not (k % by == 0)) e)
