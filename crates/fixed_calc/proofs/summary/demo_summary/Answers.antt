use Rattle.std.proofs.Common.{◌∙◌}
use Rattle.fixed_calc.specs.Demo.{demo_answers, summary}
use Rattle.fixed_calc.proofs.Demonstrated.{never_faults, its_answers}
use Rattle.fixed_calc.proofs.summary.demo_summary.Goals as goal

pub unreachable-requires : goal.unreachable-requires
unreachable-requires c =
    never_faults c.args.lines c.as_bytes.result.now c.in-Err-Script.field-0 c.in-Err-Script.field-0-0 (c.as_bytes.ensures ∙ c.in_ok-script.ensures) c.in-Err-Script.ensures c.in-Err-Script.field-0-is

pub returns-in-Ok : goal.returns-in-Ok
unfolding summary
returns-in-Ok c =
    c.summary_of.ensures (demo_answers c.args.lines) (c.as_bytes-in-Ok.ensures ∙ its_answers c.args.lines c.as_bytes.result.now c.in-Ok.answers (c.as_bytes.ensures ∙ c.in_ok-script.ensures) c.in-Ok.ensures)
