use Rattle.std.proofs.Common.{◌≡◌, ◌+◌, ◌++◌, List, ℕ, ◌∙◌, ap, sym, codes}
use Rattle.fixed_script.specs.Text.{line_text}
use Rattle.fixed_machine.specs.Answers.{ended}
use Rattle.fixed_calc.specs.Demo.{state_at, drawn_line, demo_text}
use Rattle.fixed_calc.specs.inside.Draws.{next_state, draw}
use Rattle.fixed_calc.proofs.Pushed.{state_zero, state_more, demo_text_zero, demo_text_more}
use Rattle.fixed_calc.proofs.demo.demo_script.Goals as goal

pub loop-i-init : goal.loop-i-init
loop-i-init c = record {
  state = sym state_zero;
  text = c.in_ok-extend_from_slice.ensures.items ∙ ap (λ (bytes : List ℕ). bytes ++ codes "i64 32 32 32 32 32 32 32 32\n") c.new-bytes.ensures.items ∙ sym demo_text_zero;
}

pub loop-i-preserved : goal.loop-i-preserved
loop-i-preserved c =
    let i = c.loop-i._i in
    let state : c.next-state.result ≡ state_at (i + 1) = c.next-state.ensures ∙ ap next_state c.loop-i.invariant.state ∙ sym (state_more i) in
    let line : List ℕ = ended (line_text (drawn_line (draw c.next-state.result))) in
    record {
      state = state;
      text = c.in_ok-push_line.ensures
          ∙ ap (λ (bytes : List ℕ). bytes ++ line) c.loop-i.invariant.text
          ∙ ap (λ (x : ℕ). demo_text i ++ ended (line_text (drawn_line (draw x)))) state
          ∙ sym (demo_text_more i);
    }
