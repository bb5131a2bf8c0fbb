use Rattle.std.proofs.Common.{rules, ◌≡◌, of_z, to_z, w32, ap, sym, ◌∙◌, arith}
use Rattle.fixed_interval.specs.Ends.{Ends, fitting, root_of_ends}
use Rattle.fixed_face.specs.Intervals.{from_to}
use Rattle.fixed_face.proofs.EndsLeft.{has_root, root_is}
use Rattle.fixed_face.proofs.intervals.sqrt.Goals as goal

pub returns : goal.returns
returns g c =
    let number = g.T.Valued.value in
    let s = g.T.RawWord.SIGNED in
    let n = g.T.Valued.BITS in
    let a : Ends = from_to (number c.args.a_low) (number c.args.a_high) in
    let code : to_z w32 (of_z w32 c.leave.result) ≡ c.leave.result = search rules in
    rw (code, root_is s n a c.args.frac (omega arith) (sym c.are_exchanged.ensures ∙ c.if-are_exchanged.false) (sym c.is_below_zero.ensures ∙ c.if-is_below_zero.false)) (c.leave.ensures (root_of_ends a c.args.frac) ((rw c.interval-a.ensures at c.sqrt_in.ensures.ends) ∙ ap (fitting s n) (has_root a c.args.frac (sym c.is_below_zero.ensures ∙ c.if-is_below_zero.false))))
