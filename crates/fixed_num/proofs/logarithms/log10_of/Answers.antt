use Rattle.std.proofs.Common.{◌-◌, nat_abs, lit≤, rules}
use Rattle.std.proofs.lemmas.Int.{to_z-of_z}
use mir.Val.{SFits}
use mir.Syntax.{w32}
use Rattle.fixed_num.proofs.Logs.{raised_log, raised_not_zero, whole_log}
use Rattle.fixed_num.proofs.logarithms.log10_of.Goals as goal

pub frac_log10_part-requires : goal.frac_log10_part-requires
frac_log10_part-requires g c = raised_not_zero (nat_abs (g.D.Valued.value c.args.val)) (g.D.Valued.BITS - c.args.frac) (g.D.Valued.value c.in-Raised.raised) c.requires.above_zero c.in-Raised.ensures.value

pub returns-in-Whole : goal.returns-in-Whole
returns-in-Whole g c =
    let fit : SFits w32 c.int_log10_part.result = search rules in
    whole_log (nat_abs (g.D.Valued.value c.args.val)) c.args.frac 10 (nat_abs (g.D.Valued.value c.in-Whole.whole)) c.int_log10_part.result _ (lit≤ tt) c.in-Whole.ensures.value (to_z-of_z w32 c.int_log10_part.result fit) c.int_log10_part.ensures.value

pub returns-in-Raised : goal.returns-in-Raised
returns-in-Raised g c =
    let fit : SFits w32 c.frac_log10_part.result = search rules in
    raised_log (nat_abs (g.D.Valued.value c.args.val)) c.args.frac g.D.Valued.BITS 10 (nat_abs (g.D.Valued.value c.in-Raised.raised)) c.frac_log10_part.result _ c.requires.fraction c.in-Raised.ensures.value (to_z-of_z w32 c.frac_log10_part.result fit) c.frac_log10_part.ensures.value
