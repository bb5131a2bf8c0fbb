use Rattle.std.proofs.Common.{Some, None, sym, ap, ◌∙◌}
use Rattle.fixed_text.specs.Numbers.{numbered_in}
use Rattle.fixed_text.proofs.Turns.{quiet}
use Rattle.fixed_filter.specs.inside.Kept.{kept_read}
use Rattle.fixed_filter.proofs.Lines.{found, line_none, line_sample, line_taps, not_found}
use Rattle.fixed_filter.proofs.filter_script.FilterRunRun.step.Goals as goal

pub returns-in_default : goal.returns-in_default
returns-in_default g c = ap (kept_read c.args.self.now) (line_none c.args.bytes.now (sym c.new-tokens.ensures ∙ c.in_default.ensures.0))

pub returns-then-eq : goal.returns-then-eq
returns-then-eq g c =
    rw (line_taps c.args.bytes.now c.take.new.self c.in-Some.name.now (sym c.new-tokens.ensures ∙ c.in-Some.ensures) (sym (rw c.as_slice.ensures at c.if-eq.ensures)))
    (quiet _ _ _ c.args.output.now c.take_taps.ensures)

pub returns-in-Some-read_numbered : goal.returns-in-Some-read_numbered
returns-in-Some-read_numbered g c =
    let channel = found (numbered_in 99 c.in-Some.name.now) c.in-Some-read_numbered.channel c.in-Some-read_numbered.ensures in
    rw (line_sample c.args.bytes.now c.take.new.self c.in-Some.name.now (sym c.new-tokens.ensures ∙ c.in-Some.ensures) (sym (rw c.as_slice.ensures at c.if-eq.ensures)) (Some channel.0) channel.1)
    (c.take_sample.ensures channel.0 channel.2)

pub returns-in-None : goal.returns-in-None
returns-in-None g c =
    ap (kept_read c.args.self.now) (line_sample c.args.bytes.now c.take.new.self c.in-Some.name.now (sym c.new-tokens.ensures ∙ c.in-Some.ensures) (sym (rw c.as_slice.ensures at c.if-eq.ensures)) None (not_found (numbered_in 99 c.in-Some.name.now) c.in-None.ensures))
