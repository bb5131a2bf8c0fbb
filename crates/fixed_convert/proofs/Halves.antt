-- Half of a power of two, added before a number is moved down.
use Rattle.std.proofs.Common.{◌≡◌, ◌-◌, ◌*◌, ◌^◌, ◌<◌, ◌≤ℤ◌, ◌+ℤ◌, ℕ, ℤ, zero, suc, pos, negsuc, ap, sym, ◌∙◌, arith}
use Rattle.std.proofs.lemmas.Int.{ints}
use Rattle.std.proofs.lemmas.Nat.{pow_pos}
use Rattle.std.proofs.Math.Nat.{pow-succ'}
use Rattle.fixed_word.specs.Quotient.{floor_quotient}
use Rattle.fixed_word.proofs.QuotientLaws.{floor_quotient_is, floor_quotient_unique}
use Rattle.fixed_word.proofs.Wraps.{times_times}

half_of : (x more : ℤ) (p : ℕ) → 0 < 2 * p → negsuc 0 ≤ℤ more → more ≤ℤ pos 0
    → floor_quotient (x +ℤ (pos p +ℤ more)) (2 * p) ≡ floor_quotient (((x +ℤ x) +ℤ more) +ℤ pos (2 * p)) (2 * (2 * p))
half_of x more p k l h =
    let q = floor_quotient (x +ℤ (pos p +ℤ more)) (2 * p) in
    let y = ((x +ℤ x) +ℤ more) +ℤ pos (2 * p) in
    let i = floor_quotient_is (x +ℤ (pos p +ℤ more)) (2 * p) k in
    let b = i.below in
    let a = i.above in
    let s = times_times q (2 * p) 2 in
    let t = times_times (q +ℤ pos 1) (2 * p) 2 in
    let e : 2 * p * 2 ≡ 2 * (2 * p) = omega arith in
    sym (floor_quotient_unique y q (2 * p * 2) (omega arith) (record { below = omega (arith, ints); above = omega (arith, ints) }))
    ∙ ap (floor_quotient y) e

-- half of 2 ^ k, where k is above 0
pub half_at : (x more : ℤ) (k : ℕ) → 0 < k → negsuc 0 ≤ℤ more → more ≤ℤ pos 0
    → floor_quotient (x +ℤ (pos (2 ^ (k - 1)) +ℤ more)) (2 ^ k) ≡ floor_quotient (((x +ℤ x) +ℤ more) +ℤ pos (2 ^ k)) (2 * 2 ^ k)
half_at x more zero h l u = absurd (omega arith)
half_at x more (suc k) h l u =
    let s : 2 * 2 ^ k ≡ 2 ^ suc k = sym (pow-succ' 2 k) in
    let e : suc k - 1 ≡ k = omega arith in
    rw (e, sym s) (half_of x more (2 ^ k) (omega (arith, pow_pos k)) l u)
