use Rattle.std.proofs.Common.{rules, ◌≡◌, of_z, to_z, w32, ap, sym, ◌∙◌, arith}
use Rattle.fixed_interval.specs.Ends.{Ends, quotient_of, fitting}
use Rattle.fixed_face.specs.Intervals.{from_to}
use Rattle.fixed_face.proofs.EndsLeft.{quotient_is, has_quotient}
use Rattle.fixed_face.proofs.intervals.div.Goals as goal

pub returns : goal.returns
returns g c =
    let number = g.T.Valued.value in
    let s = g.T.RawWord.SIGNED in
    let n = g.T.Valued.BITS in
    let a : Ends = from_to (number c.args.a_low) (number c.args.a_high) in
    let b : Ends = from_to (number c.args.b_low) (number c.args.b_high) in
    let code : to_z w32 (of_z w32 c.leave.result) ≡ c.leave.result = search rules in
    rw (code, quotient_is s n a b c.args.frac (omega arith) (sym c.are_exchanged.ensures ∙ c.if-are_exchanged.false) (sym c.are_exchanged-2.ensures ∙ c.if-are_exchanged-2.false) (sym c.holds_zero.ensures ∙ c.if-holds_zero.false)) (c.leave.ensures (quotient_of a b c.args.frac) ((rw (c.interval-a.ensures, c.interval-b.ensures) at c.div_in.ensures.ends) ∙ ap (fitting s n) (has_quotient a b c.args.frac (sym c.holds_zero.ensures ∙ c.if-holds_zero.false))))
