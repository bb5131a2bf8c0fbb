-- The next power of two is the least that is at least a.
use Rattle.std.proofs.Common.{◌≡◌, ◌*◌, ◌^◌, ◌≤◌, ◌≤ℤ◌, ℕ, ℤ, suc, pos, negsuc, ap, arith, inl, inr}
use Rattle.std.proofs.lemmas.Int.{ints}
use Rattle.std.proofs.lemmas.Nat.{pow_pos}
use Rattle.std.proofs.lemmas.Bool.{cases_lt}
use Rattle.std.proofs.Math.Nat.{pow-le-pow_right, pow-suc}
use Rattle.fixed_kernel.specs.Rows.{power_over, exact_next_power_of_two}
use Rattle.fixed_kernel.specs.RowLaws.{IsNextPower}
use Rattle.fixed_kernel.proofs.PowersOfTwo.{IsOver, power_meets}

-- no power of two from n on is less than a power over n
least_over : (n p i : ℕ) → IsOver n p → n ≤ 2 ^ i → p ≤ 2 ^ i
least_over n p i h l =
    let j = h.power.0 in
    let is = h.power.1 in
    let some = pow_pos i in
    let up = h.upper in
    elim (cases_lt i j) [
      | inl less ↦
          let m = pow-le-pow_right {n = 2} (omega arith) {i = suc i} {j = j} (omega arith) in
          let twice : 2 ^ (suc i) ≡ 2 * 2 ^ i = omega (arith, pow-suc 2 i) in
          absurd (omega arith)
      | inr more ↦
          let m = pow-le-pow_right {n = 2} (omega arith) {i = j} {j = i} more in
          omega arith
    ]

pub next_power_is : (a : ℤ) → pos 0 ≤ℤ a → IsNextPower a (exact_next_power_of_two a)
next_power_is (pos a) h =
    let o = power_meets a in
    let low = o.lower in
    record {
      power = (o.power.0, ap pos o.power.1);
      at_least = omega (arith, ints);
      least = λ i l. let k : a ≤ 2 ^ i = omega (arith, ints) in let m = least_over a (power_over a) i o k in omega (arith, ints);
    }
next_power_is (negsuc a) h = absurd (omega (arith, ints))
