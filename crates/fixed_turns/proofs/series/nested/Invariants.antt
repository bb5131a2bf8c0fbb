use Rattle.std.proofs.Common.{◌≡◌, ◌+◌, ◌-◌, ◌*◌, ◌/◌, ◌^◌, ◌≤◌, ℕ}
use Rattle.fixed_turns.specs.inside.Rests.{IsNestedTo, factorial}
use Rattle.fixed_turns.proofs.series.nested.Given as goal

abbrev pub invariant-loop-i : goal.invariant-loop-i
invariant-loop-i l = ((e : ℕ) → 8 * (l.fn.square + e) ≤ 5 * 2 ^ 64 → IsNestedTo e l.fn.square l.fn.first l.fn.count l.i l.less)
    × (l.less ≤ (2 ^ 64 - 1) / factorial (l.fn.first + 2 * (l.fn.count - l.i) + 1)) × (l.fn.square ≡ 0 → l.less ≡ 0)
