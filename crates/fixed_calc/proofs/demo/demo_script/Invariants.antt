-- The script so far is that of as many lines.
use Rattle.std.proofs.Common.{◌≡◌}
use Rattle.fixed_calc.specs.Demo.{state_at, demo_text}
use Rattle.fixed_calc.proofs.demo.demo_script.Given as goal

abbrev pub invariant-loop-i : goal.invariant-loop-i
invariant-loop-i l = record {
  state : l.state ≡ state_at l._i;
  text : l.bytes.items ≡ demo_text l._i;
}
