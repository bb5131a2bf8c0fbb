-- The power of two over a number meets its equations, and nothing else does.
use Rattle.std.proofs.Common.{◌≡◌, ◌+◌, ◌-◌, ◌*◌, ◌/◌, ◌^◌, ◌<◌, ◌≤◌, ◌-ℤ◌, ◌≤ℤ◌, ◌<ℤ◌, ℕ, ℤ, zero, suc, Bool, true, false, max, pos, negsuc, refl, ap, sym, ◌∙◌, arith, inl, inr, if◌then◌else◌, nat_le}
use Rattle.std.specs.Int.{IsPowerOfTwo}
use Rattle.std.proofs.lemmas.Int.{ints}
use Rattle.std.proofs.lemmas.Nat.{div-mul-add, pow-add, pow_pos}
use Rattle.std.proofs.Math.Nat.{pow-le-pow_right}
use Rattle.std.proofs.lemmas.Bool.{cases_lt}
use Rattle.std.proofs.lemmas.Bool.Decides.{nat_tests}
use Rattle.fixed_word.specs.Digit.{IsLeadingZeros}
use Rattle.fixed_word.specs.Format.{InRange, highest, wrap}
use Rattle.fixed_word.specs.Quotient.{floor_quotient}
use Rattle.fixed_word.proofs.Wraps.{wrap-wrap, wrap_same}
use Rattle.fixed_kernel.specs.Rows.{exact_next_power_of_two, power_over}
use Rattle.fixed_kernel.proofs.WholeRoom.{less_times}

-- the facts of a power over n
pub record IsOver (n p : ℕ) : Type 0 where
  pub power : IsPowerOfTwo p
  pub lower : n ≤ p
  pub upper : p / 2 < max 1 n

power_step : (n p : ℕ) (b : Bool) → nat_le (suc n) p ≡ b → IsOver n p → IsOver (suc n) (if b then p else 2 * p)
power_step n p true e h =
    let le : suc n ≤ p = grind (arith, nat_tests) in
    record { power = h.power; lower = le; upper = omega (arith, h.upper) }
power_step n p false e h =
    let lt : p < suc n = grind (arith, nat_tests) in
    let k = h.power.0 in
    let is = h.power.1 in
    let some = pow_pos k in
    let twice : 2 * p ≡ 2 ^ (suc k) = omega (arith, ap (λ (x : ℕ). 2 * x) is) in
    record { power = (suc k, twice); lower = omega (arith, h.lower); upper = omega (arith, h.lower) }

pub power_meets : (n : ℕ) → IsOver n (power_over n)
unfolding power_over
power_meets zero = record { power = (0, refl); lower = omega arith; upper = omega arith }
power_meets (suc n) = power_step n (power_over n) (nat_le (suc n) (power_over n)) refl (power_meets n)

power_below : (n p q : ℕ) → IsOver n p → IsOver n q → p < q → ⊥
power_below n p q a b lt =
    let j = a.power.0 in
    let k = b.power.0 in
    let p_is = a.power.1 in
    let q_is = b.power.1 in
    let some = pow_pos j in
    elim (cases_lt j k) [
      | inl l ↦ let m = pow-le-pow_right {n = 2} (omega arith) {i = suc j} {j = k} (omega arith) in
          let twice : 2 ^ (suc j) ≡ 2 * p = omega (arith, ap (λ (x : ℕ). 2 * x) p_is) in
          omega (arith, m, twice, q_is, a.lower, b.upper)
      | inr g ↦ let m = pow-le-pow_right {n = 2} (omega arith) {i = k} {j = j} g in
          omega (arith, m, p_is, q_is)
    ]

power_unique : (n p : ℕ) → IsOver n p → p ≡ power_over n
power_unique n p h =
    let is = power_meets n in
    elim (cases_lt p (power_over n)) [
      | inl l ↦ absurd (power_below n p (power_over n) h is l)
      | inr g ↦ elim (cases_lt (power_over n) p) [
        | inl l ↦ absurd (power_below n (power_over n) p is h l)
        | inr g2 ↦ omega arith
      ]
    ]

-- ---- 1 less than the power over the number of an unsigned word

pub low_power : (a : ℤ) → pos 0 ≤ℤ a → a ≤ℤ pos 1 → pos 0 ≡ exact_next_power_of_two a -ℤ pos 1
unfolding power_over
low_power (pos zero) h l = refl
low_power (pos (suc zero)) h l = refl
low_power (pos (suc (suc a))) h l = absurd (omega (arith, ints))
low_power (negsuc a) h l = absurd (omega (arith, ints))

-- the word of 1 less
pub one_less : (s : Bool) (n : ℕ) (a one b u : ℤ) → 0 < n → one ≡ pos 1 → b ≡ wrap s n (a -ℤ one) → u ≡ wrap false n b → pos 1 <ℤ a → InRange false n a → u ≡ a -ℤ pos 1
one_less s n a one b u h e f g l r =
    let low = r.0 in
    let high = r.1 in
    let is : u ≡ wrap false n (wrap s n (a -ℤ pos 1)) = g ∙ ap (wrap false n) f ∙ ap (λ z. wrap false n (wrap s n (a -ℤ z))) e in
    is ∙ wrap-wrap false s n (a -ℤ pos 1) h ∙ wrap_same false n (a -ℤ pos 1) h (omega (arith, ints), omega (arith, ints))

-- it has a digit that is not 0
pub some_digit : (n k : ℕ) (a u : ℤ) → u ≡ a -ℤ pos 1 → pos 1 <ℤ a → IsLeadingZeros n u k → k < n
some_digit n k a u e l z = elim (cases_lt k n) [
  | inl less ↦ less
  | inr more ↦
      let none : n - k ≡ 0 = omega arith in
      let small = rw none at z.1 in
      absurd (omega (arith, ints))
]

zeros_over : (n k : ℕ) (a u : ℤ) → u ≡ a -ℤ pos 1 → pos 1 <ℤ a → IsLeadingZeros n u k → exact_next_power_of_two a ≡ pos (2 ^ (n - k))
zeros_over n k (pos a) u e l z =
    let less = z.1 in
    let more = z.2 in
    let lower : a ≤ 2 ^ (n - k) = omega (arith, ints) in
    let upper : 2 ^ (n - k) / 2 < max 1 a = omega (arith, ints) in
    ap pos (sym (power_unique a (2 ^ (n - k)) (record { power = (n - k, refl); lower = lower; upper = upper })))
zeros_over n k (negsuc a) u e l z = absurd (omega (arith, ints))

full_shifted : (n k : ℕ) → k ≤ n → (2 ^ n - 1) / 2 ^ k ≡ 2 ^ (n - k) - 1
full_shifted n k l =
    let some = pow_pos k in
    let more = pow_pos (n - k) in
    let e : n - k + k ≡ n = omega arith in
    let p : 2 ^ n ≡ 2 ^ (n - k) * 2 ^ k = ap (λ (i : ℕ). 2 ^ i) (sym e) ∙ pow-add 2 (n - k) k in
    let t = less_times (2 ^ (n - k)) (2 ^ k) more in
    let d : 2 ^ n - 1 ≡ (2 ^ (n - k) - 1) * 2 ^ k + (2 ^ k - 1) = omega arith in
    ap (λ (i : ℕ). i / 2 ^ k) d ∙ div-mul-add (2 ^ (n - k) - 1) (2 ^ k) (2 ^ k - 1) (omega arith)

-- what is left of the greatest word m, moved down by the leading zeros of 1 less
pub high_power : (s : Bool) (n k : ℕ) (a u m f r : ℤ) → s ≡ false → 0 < n → u ≡ a -ℤ pos 1 → pos 1 <ℤ a → IsLeadingZeros n u k → m ≡ wrap false n (highest s n) → f ≡ floor_quotient m (2 ^ k) → r ≡ wrap s n f → r ≡ exact_next_power_of_two a -ℤ pos 1
high_power s n k a u m f r unsigned h e l z greatest moved left =
    let some = pow_pos (n - k) in
    let all = pow_pos n in
    let p = pow-le-pow_right {n = 2} (omega arith) {i = n - k} {j = n} (omega arith) in
    let top : m ≡ pos (2 ^ n - 1) = greatest ∙ rw unsigned (wrap_same false n (pos (2 ^ n - 1)) h (omega (arith, ints), omega (arith, ints))) in
    let down : f ≡ pos (2 ^ (n - k) - 1) = moved ∙ rw top (ap pos (full_shifted n k z.0)) in
    let same : r ≡ pos (2 ^ (n - k) - 1) = left ∙ rw (down, unsigned) (wrap_same false n (pos (2 ^ (n - k) - 1)) h (omega (arith, ints), omega (arith, ints))) in
    let less : pos (2 ^ (n - k) - 1) ≡ pos (2 ^ (n - k)) -ℤ pos 1 = omega (arith, ints) in
    same ∙ less ∙ ap (λ (x : ℤ). x -ℤ pos 1) (sym (zeros_over n k a u e l z))
