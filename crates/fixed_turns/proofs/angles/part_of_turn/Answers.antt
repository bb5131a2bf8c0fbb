use Rattle.std.proofs.Common.{◌-◌, ◌^◌}
use Rattle.std.proofs.lemmas.Bool.{iff_false}
use Rattle.fixed_turns.proofs.Quarters.{moved_down, moved_up}
use Rattle.fixed_turns.proofs.angles.part_of_turn.Goals as goal

pub returns-then-is_below_zero : goal.returns-then-is_below_zero
returns-then-is_below_zero g c =
    moved_down (g.T.Valued.value c.args.a) c.magnitude.result (2 ^ (64 - c.args.frac)) c.moved.result c.wrapping_neg.result
    (c.is_below_zero.ensures.sign.0 c.if-is_below_zero.true) c.magnitude.ensures.magnitude c.moved.ensures c.wrapping_neg.ensures

pub returns-else-is_below_zero : goal.returns-else-is_below_zero
returns-else-is_below_zero g c =
    moved_up (g.T.Valued.value c.args.a) c.magnitude-else-is_below_zero.result (2 ^ (64 - c.args.frac)) c.moved-else-is_below_zero.result
    (iff_false c.is_below_zero.ensures.sign c.if-is_below_zero.false) c.magnitude-else-is_below_zero.ensures.magnitude c.moved-else-is_below_zero.ensures
