-- The first number that passes a test, and the digits behind the point that it finds.
use Rattle.std.proofs.Common.{◌≡◌, ◌+◌, ◌-◌, ◌*◌, ◌/◌, ◌%◌, ◌^◌, ◌<◌, ◌≤◌, ◌*ℤ◌, ℕ, ℤ, zero, suc, pos, nat_abs, Bool, true, false, not, cond, refl, sym, ap, ◌∙◌, pow-add, add-zero, zero-add, mul_assoc, mul_comm, arith}
use Rattle.std.specs.List.{position_or_len, range_with_len}
use Rattle.std.specs.Ordering.{int_eq}
use Rattle.std.proofs.Math.Nat.{mul-mod_left, one-le-pow}
use Rattle.std.proofs.lemmas.Int.{ints}
use Rattle.std.proofs.lemmas.Nat.{mul-pow}
use Rattle.fixed_word.specs.declared.rounding.Rounding.TheVariants.{Even}
use Rattle.fixed_kernel.specs.Rounded.{rounded}
use Rattle.fixed_decimal.specs.Text.{IsExactAt, IsLeast, ReadsBack, reads_back, shortest, to_places}
use Rattle.fixed_decimal.proofs.Backs.{close_enough}
use Rattle.fixed_decimal.proofs.Enough.{enough}
use Rattle.fixed_decimal.proofs.Trips.{reads_from_close}

true_false : false ≡ true → ⊥
true_false e = cc

add_one : (a k : ℕ) → a + (1 + k) ≡ a + 1 + k
add_one a k = omega arith

add_suc : (a k : ℕ) → a + suc k ≡ a + 1 + k
add_suc a k = omega arith

one_more : (m : ℕ) → 1 + m ≡ suc m
one_more m = omega arith

-- the first number from a on that passes the test, less a, or n if none of n numbers does
abbrev pub first : (ℕ → Bool) → ℕ → ℕ → ℕ
first test a n = position_or_len test (range_with_len a n)

first_here : (test : ℕ → Bool) (a n : ℕ) → test a ≡ true → first test a (suc n) ≡ 0
first_here test a n e = ap (λ b. cond (not b) (1 + first test (a + 1) n) 0) e

first_later : (test : ℕ → Bool) (a n : ℕ) → test a ≡ false → first test a (suc n) ≡ 1 + first test (a + 1) n
first_later test a n e = ap (λ b. cond (not b) (1 + first test (a + 1) n) 0) e

first_step : (b : Bool) (test : ℕ → Bool) (a n m : ℕ) → test a ≡ b → m ≤ suc n → test (a + m) ≡ true → ((k : ℕ) → k ≤ n → test (a + 1 + k) ≡ true → test (a + 1 + first test (a + 1) n) ≡ true) → test (a + first test a (suc n)) ≡ true
first_step true test a n m e le hit more = ap (λ k. test (a + k)) (first_here test a n e) ∙ ap test (add-zero a) ∙ e
first_step false test a n zero e le hit more = absurd (true_false (sym (ap test (add-zero a) ∙ e) ∙ hit))
first_step false test a n (suc m) e le hit more =
    ap (λ k. test (a + k)) (first_later test a n e) ∙ ap test (add_one a (first test (a + 1) n)) ∙ more m (omega arith) (ap test (sym (add_suc a m)) ∙ hit)

first_holds : (test : ℕ → Bool) (a n m : ℕ) → m ≤ n → test (a + m) ≡ true → test (a + first test a n) ≡ true
first_holds test a zero zero le hit = hit
first_holds test a zero (suc m) le hit = absurd (omega arith)
first_holds test a (suc n) m le hit = first_step (test a) test a n m refl le hit (first_holds test (a + 1) n)

least_step : (b : Bool) (test : ℕ → Bool) (a n k : ℕ) → test a ≡ b → test (a + k) ≡ true → ((j : ℕ) → test (a + 1 + j) ≡ true → first test (a + 1) n ≤ j) → first test a (suc n) ≤ k
least_step true test a n k e hit more = omega (arith, first_here test a n e)
least_step false test a n zero e hit more = absurd (true_false (sym (ap test (add-zero a) ∙ e) ∙ hit))
least_step false test a n (suc k) e hit more = let f = more k (ap test (sym (add_suc a k)) ∙ hit) in omega (arith, first_later test a n e)

first_least : (test : ℕ → Bool) (a n k : ℕ) → test (a + k) ≡ true → first test a n ≤ k
first_least test a zero k hit = omega arith
first_least test a (suc n) k hit = least_step (test a) test a n k refl hit (first_least test (a + 1) n)

pub first_is : (test : ℕ → Bool) (a n m : ℕ) → m ≤ n → test (a + m) ≡ true → ((k : ℕ) → k < m → test (a + k) ≡ false) → first test a n ≡ m
first_is test a zero m le hit miss = omega arith
first_is test a (suc n) zero le hit miss = first_here test a n (ap test (sym (add-zero a)) ∙ hit)
first_is test a (suc n) (suc m) le hit miss =
    first_later test a n (ap test (sym (add-zero a)) ∙ miss zero (omega arith))
    ∙ ap (λ k. 1 + k) (first_is test (a + 1) n m (omega arith) (ap test (sym (add_suc a m)) ∙ hit) (λ k lt. ap test (sym (add_suc a k)) ∙ miss (suc k) (omega arith)))
    ∙ one_more m

same_true : (x a : ℤ) → x ≡ a → int_eq x a ≡ true
same_true x a e = grind (arith, ints, e)

true_same : (x a : ℤ) → int_eq x a ≡ true → x ≡ a
true_same x a e = grind (arith, ints, e)

back_true : (a : ℤ) (f p : ℕ) → ReadsBack a f p → reads_back a f p ≡ true
back_true a f p h = same_true (rounded (to_places a f p Even *ℤ pos (2 ^ f)) (pos (10 ^ p)) Even) a h

true_back : (a : ℤ) (f p : ℕ) → reads_back a f p ≡ true → ReadsBack a f p
true_back a f p h = true_same (rounded (to_places a f p Even *ℤ pos (2 ^ f)) (pos (10 ^ p)) Even) a h

few : (f : ℕ) → f ≤ 64 → f * 3 / 10 + 1 ≤ 20
few f le = omega arith

pub found_law : (a : ℤ) (f : ℕ) → f ≤ 64 → IsLeast (ReadsBack a f) (shortest a f)
unfolding shortest
found_law a f le =
    let p = f * 3 / 10 + 1 in
    let back = reads_from_close a (nat_abs a) f p refl (close_enough (nat_abs a) (10 ^ p) (2 ^ f) (one-le-pow f 2 (omega arith)) (enough f le)) in
    record {
      holds = true_back a f (shortest a f) (ap (reads_back a f) (sym (zero-add (shortest a f))) ∙ first_holds (reads_back a f) 0 20 p (few f le) (ap (reads_back a f) (zero-add p) ∙ back_true a f p back));
      least = λ k h. first_least (reads_back a f) 0 20 k (ap (reads_back a f) (zero-add k) ∙ back_true a f k h);
    }

-- the least of all is the first
pub shortest_is : (a : ℤ) (f m : ℕ) → f ≤ 64 → IsLeast (ReadsBack a f) m → m ≡ shortest a f
shortest_is a f m le least = let first = found_law a f le in omega (arith, least.least (shortest a f) first.holds, first.least m least.holds)

pub enough_law : (a : ℤ) (f p : ℕ) → f ≤ p → IsExactAt a f p
enough_law a f p le =
    let j = p - f in
    let e : p ≡ f + j = omega arith in
    let tens : 10 ^ p ≡ 2 ^ f * 5 ^ f * 10 ^ j = ap (λ k. 10 ^ k) e ∙ pow-add 10 f j ∙ ap (λ n. n * 10 ^ j) (mul-pow 2 5 f) in
    let whole : nat_abs a * 10 ^ p ≡ nat_abs a * (5 ^ f * 10 ^ j) * 2 ^ f =
    ap (λ n. nat_abs a * n) (tens ∙ mul_assoc (2 ^ f) (5 ^ f) (10 ^ j) ∙ mul_comm (2 ^ f) (5 ^ f * 10 ^ j))
    ∙ sym (mul_assoc (nat_abs a) (5 ^ f * 10 ^ j) (2 ^ f)) in
    ap (λ n. n % 2 ^ f) whole ∙ mul-mod_left (nat_abs a * (5 ^ f * 10 ^ j)) (2 ^ f)
