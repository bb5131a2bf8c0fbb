use Rattle.std.proofs.Common.{length, ◌-◌, ◌+◌, ◌≡◌, ◌==◌, ◌≤◌, drop}
use Rattle.std.specs.Prelude.{count_by}
use Rattle.fixed_calc.proofs.summary.count_of.Given as goal

abbrev pub invariant-loop-at : goal.invariant-loop-at
invariant-loop-at l =
    (l.at ≤ length l.text) × (l.count + count_by (λ b. b == l.byte) (drop l.at l.text) ≡ count_by (λ b. b == l.byte) l.text)

abbrev pub decreases-loop-at : goal.decreases-loop-at
decreases-loop-at l = length l.text - l.at
