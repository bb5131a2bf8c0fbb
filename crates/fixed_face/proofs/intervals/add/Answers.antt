use Rattle.std.proofs.Common.{rules, ◌≡◌, of_z, to_z, w32, sym, ◌∙◌}
use Rattle.fixed_interval.specs.Ends.{Ends, sum_of}
use Rattle.fixed_face.specs.Intervals.{from_to}
use Rattle.fixed_face.proofs.EndsLeft.{sum_is}
use Rattle.fixed_face.proofs.intervals.add.Goals as goal

pub returns : goal.returns
returns g c =
    let number = g.T.Valued.value in
    let s = g.T.RawWord.SIGNED in
    let n = g.T.Valued.BITS in
    let a : Ends = from_to (number c.args.a_low) (number c.args.a_high) in
    let b : Ends = from_to (number c.args.b_low) (number c.args.b_high) in
    let code : to_z w32 (of_z w32 c.leave.result) ≡ c.leave.result = search rules in
    rw (code, sum_is s n a b (sym c.are_exchanged.ensures ∙ c.if-are_exchanged.false) (sym c.are_exchanged-2.ensures ∙ c.if-are_exchanged-2.false)) (c.leave.ensures (sum_of a b) (rw (c.interval-a.ensures, c.interval-b.ensures) at c.add_in.ensures.ends))
