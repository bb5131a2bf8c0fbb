use Rattle.std.proofs.Common.{◌-◌, nat_abs, rules}
use Rattle.std.proofs.lemmas.Int.{to_z-of_z}
use mir.Val.{SFits}
use mir.Syntax.{w32}
use Rattle.fixed_num.proofs.Logs.{raised_log, raised_not_zero, whole_log}
use Rattle.fixed_num.proofs.logarithms.log_of.Goals as goal

pub frac_part-requires : goal.frac_part-requires
frac_part-requires g c = raised_not_zero (nat_abs (g.D.Valued.value c.args.val)) (g.D.Valued.BITS - c.args.frac) (g.D.Valued.value c.in-Raised.raised) c.requires.above_zero c.in-Raised.ensures.value

pub returns-in-Whole-clause-value : goal.returns-in-Whole-clause-value
returns-in-Whole-clause-value g c =
    let fit : SFits w32 c.int_part.result = search rules in
    whole_log (nat_abs (g.D.Valued.value c.args.val)) c.args.frac c.args.base (nat_abs (g.D.Valued.value c.in-Whole.whole)) c.int_part.result _ c.requires.base c.in-Whole.ensures.value (to_z-of_z w32 c.int_part.result fit) c.int_part.ensures.value

pub returns-in-Raised-clause-value : goal.returns-in-Raised-clause-value
returns-in-Raised-clause-value g c =
    let fit : SFits w32 c.frac_part.result = search rules in
    raised_log (nat_abs (g.D.Valued.value c.args.val)) c.args.frac g.D.Valued.BITS c.args.base (nat_abs (g.D.Valued.value c.in-Raised.raised)) c.frac_part.result _ c.requires.fraction c.in-Raised.ensures.value (to_z-of_z w32 c.frac_part.result fit) c.frac_part.ensures.value
