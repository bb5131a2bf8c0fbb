-- Remainders, multiples, whole numbers, and where the rows have no number.
use Rattle.std.proofs.Common.{◌≡◌, ◌≢◌, ◌⊎◌, ◌-◌, ◌%◌, ◌≤◌, ◌≤ℤ◌, ◌<ℤ◌, ◌-ℤ◌, ◌*ℤ◌, ℕ, ℤ, zero, suc, Bool, true, false, pos, negsuc, neg_ℤ, nat_abs, refl, arith, inl, inr}
use Rattle.std.specs.Prelude.{unsigned_abs}
use Rattle.std.specs.Int.RustNames.{int_div, int_rem}
use Rattle.std.proofs.lemmas.Int.{ints, quot-rem}
use Rattle.std.proofs.lemmas.Nat.{div-add-mod', pow_pos}
use Rattle.std.proofs.Math.IntN.{*ℤ_comm}
use Rattle.fixed_word.specs.Format.{InRange}
use Rattle.fixed_word.specs.Quotient.{floor_quotient, euclidean_quotient, euclidean_remainder, IsEuclidean}
use Rattle.fixed_word.proofs.Sides.{lowest_sign, highest_sign}
use Rattle.fixed_word.proofs.QuotientLaws.{euclidean_is, euclid_unique}
use Rattle.fixed_kernel.specs.Rows.{by_divisor, by_sign, exact_mul, exact_rem, exact_next_multiple_of}
use Rattle.fixed_kernel.specs.RowLaws.{IsFromZero, IsNextMultiple, IsOffZero}

-- ---- remainders

rem_is : (a b : ℤ) → exact_rem a b ≡ int_rem a b
rem_is a b =
    let q = quot-rem a b in
    let c = *ℤ_comm b (int_div a b) in
    omega (arith, ints)

mod_at_most : (a m : ℕ) → a % m ≤ a
mod_at_most a m = omega (arith, div-add-mod' a m)

-- the remainder lies between 0 and a
rem_between : (a b : ℤ) → ((pos 0 ≤ℤ int_rem a b) × (int_rem a b ≤ℤ a)) ⊎ ((a ≤ℤ int_rem a b) × (int_rem a b ≤ℤ pos 0))
rem_between (pos a) b = let h = mod_at_most a (unsigned_abs b) in inl (omega (arith, ints), omega (arith, ints))
rem_between (negsuc a) b = let h = mod_at_most (suc a) (unsigned_abs b) in inr (omega (arith, ints), omega (arith, ints))

pub rem_fits : (s : Bool) (n : ℕ) (a b : ℤ) → InRange s n a → InRange s n (exact_rem a b)
rem_fits s n a b r =
    let l = r.0 in
    let h = r.1 in
    let low = lowest_sign s n in
    let high = highest_sign s n in
    rw (rem_is a b) (elim (rem_between a b) [
      | inl p ↦ let x = p.0 in let y = p.1 in (omega (arith, ints), omega (arith, ints))
      | inr p ↦ let x = p.0 in let y = p.1 in (omega (arith, ints), omega (arith, ints))
    ])

below_magnitude : (s : Bool) (n : ℕ) (b r : ℤ) → InRange s n b → pos 0 ≤ℤ r → r <ℤ pos (nat_abs b) → InRange s n r
below_magnitude true n b r w z h =
    let l = w.0 in
    let u = w.1 in
    let p = pow_pos (n - 1) in
    (omega (arith, ints), omega (arith, ints))
below_magnitude false n b r w z h =
    let l = w.0 in
    let u = w.1 in
    let p = pow_pos n in
    (omega (arith, ints), omega (arith, ints))

pub rem_euclid_fits : (s : Bool) (n : ℕ) (a b : ℤ) → InRange s n b → b ≢ pos 0 → InRange s n (euclidean_remainder a b)
rem_euclid_fits s n a b w h =
    let e = euclidean_is a b h in
    below_magnitude s n b (euclidean_remainder a b) w e.from_zero e.small

-- ---- multiples

neg_product : (q d : ℤ) → neg_ℤ q *ℤ d ≡ neg_ℤ (q *ℤ d)
neg_product (pos zero) d = omega (arith, ints)
neg_product (pos (suc a)) (pos d) = refl
neg_product (pos (suc a)) (negsuc d) = omega (arith, ints)
neg_product (negsuc a) (pos d) = omega (arith, ints)
neg_product (negsuc a) (negsuc d) = refl

pub next_multiple_is : (a b : ℤ) → b ≢ pos 0 → IsNextMultiple a b (exact_next_multiple_of a b)
next_multiple_is a (pos b) h =
    let e = euclidean_is (neg_ℤ a) (pos b) h in
    let s = e.sum in
    let z = e.from_zero in
    let l = e.small in
    record {
      multiple = (neg_ℤ (euclidean_quotient (neg_ℤ a) (pos b)), omega (arith, ints, neg_product (euclidean_quotient (neg_ℤ a) (pos b)) (pos b)));
      above = λ p. (omega (arith, ints), omega (arith, ints));
      below = λ p. absurd (omega (arith, ints));
    }
next_multiple_is a (negsuc b) h =
    let e = euclidean_is a (negsuc b) h in
    let s = e.sum in
    let z = e.from_zero in
    let l = e.small in
    record {
      multiple = (euclidean_quotient a (negsuc b), omega (arith, ints));
      above = λ p. absurd (omega (arith, ints));
      below = λ p. (omega (arith, ints), omega (arith, ints));
    }

pub next_multiple_unique : (a b m : ℤ) → b ≢ pos 0 → IsNextMultiple a b m → exact_next_multiple_of a b ≡ m
next_multiple_unique a (pos zero) m h i = absurd (h refl)
next_multiple_unique a (pos (suc b)) m h i =
    let k = i.multiple.0 in
    let s = i.multiple.1 in
    let u = i.above (omega (arith, ints)) in
    let x = u.0 in
    let y = u.1 in
    let f : IsEuclidean (neg_ℤ a) (pos (suc b)) (neg_ℤ k) (m -ℤ a) = record { sum = omega (arith, ints, neg_product k (pos (suc b))); from_zero = omega (arith, ints); small = omega (arith, ints) } in
    let t = euclid_unique (neg_ℤ a) (pos (suc b)) (euclidean_quotient (neg_ℤ a) (pos (suc b))) (neg_ℤ k) (euclidean_remainder (neg_ℤ a) (pos (suc b))) (m -ℤ a) h (euclidean_is (neg_ℤ a) (pos (suc b)) h) f in
    let v = t.1 in
    omega (arith, ints)
next_multiple_unique a (negsuc b) m h i =
    let k = i.multiple.0 in
    let s = i.multiple.1 in
    let u = i.below (omega (arith, ints)) in
    let x = u.0 in
    let y = u.1 in
    let f : IsEuclidean a (negsuc b) k (a -ℤ m) = record { sum = omega (arith, ints); from_zero = omega (arith, ints); small = omega (arith, ints) } in
    let t = euclid_unique a (negsuc b) (euclidean_quotient a (negsuc b)) k (euclidean_remainder a (negsuc b)) (a -ℤ m) h (euclidean_is a (negsuc b) h) f in
    let v = t.1 in
    omega (arith, ints)

-- ---- no fraction

floor_by_one : (x : ℤ) → floor_quotient x 1 ≡ x
floor_by_one (pos a) = omega (arith, ints, div-add-mod' a 1)
floor_by_one (negsuc a) = omega (arith, ints, div-add-mod' a 1)

pub mul_whole : (a b : ℤ) → exact_mul a b 0 ≡ a *ℤ b
mul_whole a b = floor_by_one (a *ℤ b)

pub times_one : (a : ℤ) → a *ℤ pos 1 ≡ a
times_one a = omega (arith, ints)

-- ---- the rows

pub off_zero : (d x : ℤ) → IsOffZero d x (by_divisor d x)
off_zero (pos zero) x = (((λ e. refl), (λ e. refl)), (λ h. absurd (h refl)))
off_zero (pos (suc n)) x = (((λ e. absurd (cc)), (λ e. absurd (cc))), (λ h. refl))
off_zero (negsuc n) x = (((λ e. absurd (cc)), (λ e. absurd (cc))), (λ h. refl))

pub from_zero : (a x : ℤ) → IsFromZero a x (by_sign a x)
from_zero (pos n) x = (((λ e. absurd (cc)), (λ e. absurd (omega (arith, ints)))), (λ h. refl))
from_zero (negsuc n) x = (((λ e. omega (arith, ints)), (λ e. refl)), (λ h. absurd (omega (arith, ints))))
