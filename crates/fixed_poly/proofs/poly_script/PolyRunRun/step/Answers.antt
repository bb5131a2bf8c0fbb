use Rattle.std.proofs.Common.{sym, ap, ◌∙◌}
use Rattle.fixed_text.proofs.Turns.{quiet}
use Rattle.fixed_poly.specs.Runs.{line_read}
use Rattle.fixed_poly.proofs.Lines.{line_none, line_coefs, line_number, line_other}
use Rattle.fixed_poly.proofs.poly_script.PolyRunRun.step.Goals as goal

pub returns-in_default : goal.returns-in_default
returns-in_default g c = ap (line_read c.args.self.now) (line_none c.args.bytes.now (sym c.new-tokens.ensures ∙ c.in_default.ensures.0))

pub returns-then-eq : goal.returns-then-eq
returns-then-eq g c =
    rw (line_coefs c.args.bytes.now c.take.new.self c.in-Some.name.now (sym c.new-tokens.ensures ∙ c.in-Some.ensures) (sym (rw c.as_slice.ensures at c.if-eq.ensures)))
    (quiet _ _ _ c.args.output.now c.take_coefs.ensures)

pub returns-then-eq-2 : goal.returns-then-eq-2
returns-then-eq-2 g c =
    rw (line_number c.args.bytes.now c.take.new.self c.in-Some.name.now (sym c.new-tokens.ensures ∙ c.in-Some.ensures) (sym (rw c.as_slice.ensures at c.if-eq.ensures)) (sym (rw c.as_slice-else-eq.ensures at c.if-eq-2.ensures)))
    c.answer.ensures

pub returns-else-eq-2 : goal.returns-else-eq-2
returns-else-eq-2 g c =
    ap (line_read c.args.self.now) (line_other c.args.bytes.now c.take.new.self c.in-Some.name.now (sym c.new-tokens.ensures ∙ c.in-Some.ensures) (sym (rw c.as_slice.ensures at c.if-eq.ensures)) (sym (rw c.as_slice-else-eq.ensures at c.if-eq-2.ensures)))
