-- Counts of the digits of a number, on its list.
use Rattle.std.proofs.Common.{◌≡◌, ◌==◌, ◌+◌, ◌-◌, ◌*◌, ◌/◌, ◌%◌, ◌^◌, ◌<◌, ◌≤◌, ℕ, zero, suc, cond, List, [], ◌∷◌, length, get_or, min, reverse, refl, ap, sym, ◌∙◌, arith, inl, inr}
use Rattle.std.proofs.lemmas.Bool.{cases_lt}
use Rattle.std.proofs.lemmas.List.Sums.{sum_by-cons}
use Rattle.std.proofs.lemmas.List.{get_or-reverse}
use Rattle.std.proofs.Math.ListN.{length-reverse}
use Rattle.std.proofs.lemmas.Nat.{pow_pos, leading_top, div-mul-add}
use Rattle.std.proofs.lemmas.Nat.Bits.{bit_at_above}
use Rattle.std.proofs.Math.Nat.{pow-suc, pow-le-pow_right}
use Rattle.std.specs.Int.{bit_at}
use lib.Count.{ones, ones_step, count_leading_zeros, count_trailing_zeros, under, leading_of_zero}
use Rattle.std.specs.List.{count_by, prefix_len, suffix_len}
use Rattle.fixed_bits.specs.Digits.{lowest_digits}
use Rattle.fixed_bits.proofs.Lists.{length_lowest, digit_at}

one_as_test : (x : ℕ) → x % 2 ≡ cond (x % 2 == 1) 1 0
one_as_test x = grind arith

half_below : (k x p : ℕ) → p ≡ 2 ^ k → x < 2 ^ suc k → x / 2 < 2 ^ k
half_below k x p e h = let t = pow-suc 2 k in omega arith

pub ones_list : (n p : ℕ) → p < 2 ^ n → ones p ≡ count_by (λ d. d == 1) (lowest_digits 2 n p)
unfolding lowest_digits ones
ones_list zero p h = let e : p ≡ 0 = omega arith in rw e refl
ones_list (suc n) p h = ones_step p ∙ ap (λ (x : ℕ). x + ones (p / 2)) (one_as_test p) ∙ ap (λ (x : ℕ). cond (p % 2 == 1) 1 0 + x) (ones_list n (p / 2) (half_below n p (2 ^ n) refl h)) ∙ sym (sum_by-cons (λ x. cond (x == 1) 1 0) (p % 2) (lowest_digits 2 n (p / 2)))

-- ---- zeros at the low end

under_is : (d t : ℕ) → d < 2 → under d t ≡ cond (d == 0) (1 + t) 0
under_is zero t h = omega arith
under_is (suc d) t h = grind arith

trailing_is : (n p : ℕ) → count_trailing_zeros n p ≡ prefix_len (λ d. d == 0) (lowest_digits 2 n p)
unfolding lowest_digits count_trailing_zeros
trailing_is zero p = refl
trailing_is (suc n) p = under_is (p % 2) (count_trailing_zeros n (p / 2)) (omega arith) ∙ ap (λ (t : ℕ). cond (p % 2 == 0) (1 + t) 0) (trailing_is n (p / 2))

trailing_min : (n m p : ℕ) → n ≤ m → min (count_trailing_zeros m p) n ≡ count_trailing_zeros n p
unfolding count_trailing_zeros
trailing_min zero m p h = omega arith
trailing_min (suc n) zero p h = absurd (omega arith)
trailing_min (suc n) (suc m) p h = step (p % 2) (count_trailing_zeros m (p / 2)) (count_trailing_zeros n (p / 2)) n (trailing_min n m (p / 2) (omega arith))
  where
    step : (d a b n : ℕ) → min a n ≡ b → min (under d a) (suc n) ≡ under d b
    step zero a b n e = omega arith
    step (suc d) a b n e = omega arith

pub trailing_list : (n p : ℕ) → n ≤ 64 → min (count_trailing_zeros 64 p) n ≡ prefix_len (λ d. d == 0) (lowest_digits 2 n p)
trailing_list n p h = trailing_min n 64 p h ∙ trailing_is n p

-- ---- zeros at the high end

prefix_is : (xs : List ℕ) (k : ℕ) → k ≤ length xs → ((i : ℕ) → i < k → get_or xs i 0 ≡ 0) → (k < length xs → get_or xs k 0 ≡ 1) → prefix_len (λ d. d == 0) xs ≡ k
prefix_is [] zero l z o = refl
prefix_is [] (suc k) l z o = absurd (omega arith)
prefix_is (x ∷ xs) zero l z o = let e : x ≡ 1 = o (omega arith) in rw e refl
prefix_is (x ∷ xs) (suc k) l z o =
    let e : x ≡ 0 = z 0 (omega arith) in
    rw e (omega (arith, prefix_is xs k (omega arith) (λ i h. z (suc i) (omega arith)) (λ h. o (omega arith))))

-- the digit at the top of a number
top_digit : (p j : ℕ) → 2 ^ j ≤ p → p < 2 ^ suc j → bit_at p j ≡ 1
top_digit p j l u = top p (2 ^ j) (2 ^ suc j) (pow-suc 2 j) (pow_pos j) l u
  where
    quotient_one : (p q : ℕ) → 0 < q → q ≤ p → p < q + q → p / q ≡ 1
    quotient_one p q z l u = let e : p ≡ 1 * q + (p - q) = omega arith in ap (λ (x : ℕ). x / q) e ∙ div-mul-add 1 q (p - q) (omega arith)

    top : (p q r : ℕ) → r ≡ q * 2 → 0 < q → q ≤ p → p < r → p / q % 2 ≡ 1
    top p q r e z l u = let d : p / q ≡ 1 = quotient_one p q z l (omega arith) in rw d refl

leading_is : (n p : ℕ) → p < 2 ^ n → suffix_len (λ d. d == 0) (lowest_digits 2 n p) ≡ count_leading_zeros n p
leading_is n zero h =
    let c = length_lowest 2 n 0 in
    prefix_is (reverse (lowest_digits 2 n 0)) (count_leading_zeros n 0)
    (omega (arith, leading_of_zero n, length-reverse (lowest_digits 2 n 0)))
    (λ i l. let t : i < length (lowest_digits 2 n 0) = omega (arith, leading_of_zero n) in
    let place : length (lowest_digits 2 n 0) - 1 - i ≡ n - 1 - i = omega arith in
    get_or-reverse (lowest_digits 2 n 0) i 0 t ∙ rw place (digit_at n 0 (n - 1 - i) (omega (arith, leading_of_zero n)) ∙ omega arith))
    (λ l. absurd (omega (arith, leading_of_zero n, length-reverse (lowest_digits 2 n 0))))
leading_is n (suc p) h =
    let c = length_lowest 2 n (suc p) in
    let d = length-reverse (lowest_digits 2 n (suc p)) in
    let top = leading_top n (suc p) (omega arith) h in
    let j = top.0 in
    let s : count_leading_zeros n (suc p) + suc j ≡ n = top.1 in
    prefix_is (reverse (lowest_digits 2 n (suc p))) (count_leading_zeros n (suc p))
    (omega arith)
    (λ i l. let t : i < length (lowest_digits 2 n (suc p)) = omega arith in
    let place : length (lowest_digits 2 n (suc p)) - 1 - i ≡ n - 1 - i = omega arith in
    get_or-reverse (lowest_digits 2 n (suc p)) i 0 t ∙ rw place (digit_at n (suc p) (n - 1 - i) (omega arith) ∙ bit_at_above (suc p) (suc j) (n - 1 - i) top.3 (omega arith)))
    (λ l. let t : count_leading_zeros n (suc p) < length (lowest_digits 2 n (suc p)) = omega arith in
    let place : length (lowest_digits 2 n (suc p)) - 1 - count_leading_zeros n (suc p) ≡ j = omega arith in
    get_or-reverse (lowest_digits 2 n (suc p)) (count_leading_zeros n (suc p)) 0 t ∙ rw place (digit_at n (suc p) j (omega arith) ∙ top_digit (suc p) j top.2 top.3))

-- places above the width count as zeros
leading_more : (n m p : ℕ) → n ≤ m → p < 2 ^ n → count_leading_zeros m p - (m - n) ≡ count_leading_zeros n p
leading_more n m zero h l = omega (arith, leading_of_zero n, leading_of_zero m)
leading_more n m (suc p) h l =
    let b : 2 ^ n ≤ 2 ^ m = pow-le-pow_right {n = 2} (omega arith) h in
    let s = leading_top n (suc p) (omega arith) l in
    let t = leading_top m (suc p) (omega arith) (omega arith) in
    let e : s.0 ≡ t.0 = same_place s.0 t.0 (suc p) s.2 s.3 t.2 t.3 in
    let f = s.1 in
    let g = t.1 in
    omega arith
  where
    same_place : (i j x : ℕ) → 2 ^ i ≤ x → x < 2 ^ suc i → 2 ^ j ≤ x → x < 2 ^ suc j → i ≡ j
    same_place i j x a b c d = elim (cases_lt i j) [
      | inl below ↦ let p : 2 ^ suc i ≤ 2 ^ j = pow-le-pow_right {n = 2} (omega arith) below in absurd (omega arith)
      | inr above ↦ elim (cases_lt j i) [
        | inl more ↦ let p : 2 ^ suc j ≤ 2 ^ i = pow-le-pow_right {n = 2} (omega arith) more in absurd (omega arith)
        | inr same ↦ omega arith
      ]
    ]

pub leading_list : (n p : ℕ) → n ≤ 64 → p < 2 ^ n → count_leading_zeros 64 p - (64 - n) ≡ suffix_len (λ d. d == 0) (lowest_digits 2 n p)
leading_list n p h l = leading_more n 64 p h l ∙ sym (leading_is n p l)

-- there are enough zeros to take away
pub leading_room : (n p : ℕ) → n ≤ 64 → p < 2 ^ n → 64 - n ≤ count_leading_zeros 64 p
leading_room n zero h l = omega (arith, leading_of_zero 64)
leading_room n (suc p) h l =
    let b : 2 ^ n ≤ 2 ^ 64 = pow-le-pow_right {n = 2} (omega arith) h in
    let t = leading_top 64 (suc p) (omega arith) (omega arith) in
    elim (cases_lt t.0 n) [
      | inl below ↦ let g = t.1 in omega arith
      | inr above ↦ let q : 2 ^ n ≤ 2 ^ t.0 = pow-le-pow_right {n = 2} (omega arith) above in let c = t.2 in absurd (omega arith)
    ]
