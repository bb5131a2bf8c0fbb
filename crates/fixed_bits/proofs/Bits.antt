-- Operations on numbers, digit by digit.
use Rattle.std.proofs.Common.{◌≡◌, ◌+◌, ◌-◌, ◌*◌, ◌/◌, ◌%◌, ◌^◌, ◌<◌, ◌≤◌, ℕ, zero, suc, List, [], ◌∷◌, length, get_or, min, max, reverse, refl, ap, sym, ◌∙◌, arith, inl, inr}
use Rattle.std.proofs.lemmas.Bool.{cases_lt}
use Rattle.std.proofs.lemmas.List.{get_or-map, get_or-reverse}
use Rattle.std.proofs.Math.ListN.{length-map, length-reverse}
use Rattle.std.proofs.lemmas.Nat.{shr-shr, shr_below, shl_whole, or_shifted, mod_below}
use Rattle.std.proofs.lemmas.Nat.Bits.{bit_at-suc, bit_at_and, bit_at_or, bit_at_xor, bit_at_not, bit_at_cat_low, bit_at_cat_high}
use Rattle.std.proofs.Math.Nat.{add-mod-mod, add-mod_right, mod-eq_of_lt}
use Rattle.std.specs.Int.{bit_at, w64, reverse_bits_onto}
use Rattle.std.specs.Prelude.{bit_and, bit_or, bit_xor}
use Rattle.fixed_bits.specs.Digits.{IsRotated, complement, differ, lowest_digits, zip_with}
use Rattle.fixed_bits.proofs.Lists.{length_lowest, digit_at, same_digits}

-- ---- digit by digit

length_zip : (f : ℕ → ℕ → ℕ) (xs ys : List ℕ) → length xs ≡ length ys → length (zip_with f xs ys) ≡ length xs
length_zip f [] ys e = refl
length_zip f (x ∷ xs) [] e = absurd (omega arith)
length_zip f (x ∷ xs) (y ∷ ys) e = ap suc (length_zip f xs ys (omega arith))

zip_at : (f : ℕ → ℕ → ℕ) (xs ys : List ℕ) (i : ℕ) → length xs ≡ length ys → i < length xs → get_or (zip_with f xs ys) i 0 ≡ f (get_or xs i 0) (get_or ys i 0)
zip_at f [] ys i e h = absurd (omega arith)
zip_at f (x ∷ xs) [] i e h = absurd (omega arith)
zip_at f (x ∷ xs) (y ∷ ys) zero e h = refl
zip_at f (x ∷ xs) (y ∷ ys) (suc i) e h = zip_at f xs ys i (omega arith) (omega arith)

-- a number made of two, digit by digit
zip_list : (f : ℕ → ℕ → ℕ) (n p q r : ℕ) → ((i : ℕ) → bit_at r i ≡ f (bit_at p i) (bit_at q i)) → lowest_digits 2 n r ≡ zip_with f (lowest_digits 2 n p) (lowest_digits 2 n q)
zip_list f n p q r h =
    let a = length_lowest 2 n p in
    let b = length_lowest 2 n q in
    let s : length (lowest_digits 2 n p) ≡ length (lowest_digits 2 n q) = a ∙ sym b in
    same_digits n r (zip_with f (lowest_digits 2 n p) (lowest_digits 2 n q)) (length_zip f (lowest_digits 2 n p) (lowest_digits 2 n q) s ∙ a)
    (λ i l.
    let t : i < length (lowest_digits 2 n p) = omega arith in
    rw (zip_at f (lowest_digits 2 n p) (lowest_digits 2 n q) i s t) (rw (digit_at n p i l, digit_at n q i l) (h i)))

pub and_list : (n p q : ℕ) → lowest_digits 2 n (bit_and p q) ≡ zip_with min (lowest_digits 2 n p) (lowest_digits 2 n q)
and_list n p q = zip_list min n p q (bit_and p q) (λ i. bit_at_and p q i)

pub or_list : (n p q : ℕ) → lowest_digits 2 n (bit_or p q) ≡ zip_with max (lowest_digits 2 n p) (lowest_digits 2 n q)
or_list n p q = zip_list max n p q (bit_or p q) (λ i. bit_at_or p q i)

pub xor_list : (n p q : ℕ) → lowest_digits 2 n (bit_xor p q) ≡ zip_with differ (lowest_digits 2 n p) (lowest_digits 2 n q)
xor_list n p q = zip_list differ n p q (bit_xor p q) (λ i. bit_at_xor p q i)

pub not_list : (n p : ℕ) → n ≤ 64 → p < 2 ^ 64 → lowest_digits 2 n (2 ^ 64 - 1 - p) ≡ complement (lowest_digits 2 n p)
not_list n p w h =
    same_digits n (2 ^ 64 - 1 - p) (complement (lowest_digits 2 n p)) (length-map (lowest_digits 2 n p) (λ d. 1 - d) ∙ length_lowest 2 n p)
    (λ i l.
    let t : i < length (lowest_digits 2 n p) = omega (arith, length_lowest 2 n p) in
    bit_at_not w64 p i h (omega arith) ∙ sym (get_or-map (λ d. 1 - d) (lowest_digits 2 n p) i 0 0 t ∙ ap (λ (d : ℕ). 1 - d) (digit_at n p i l)))

-- ---- rotations

-- what the shifts of a pattern give
pub rotated_is : (n k p : ℕ) → n ≤ 64 → k ≤ n → p < 2 ^ n → bit_or ((p * 2 ^ k) % 2 ^ 128) (p / 2 ^ (n - k)) ≡ p * 2 ^ k + p / 2 ^ (n - k)
rotated_is n k p w h l =
    let e : k + (n - k) ≡ n = omega arith in
    let b : p < 2 ^ (k + (n - k)) = rw e l in
    rw (shl_whole p n k 128 l (omega arith)) (or_shifted p k (p / 2 ^ (n - k)) (shr_below p k (n - k) b))

-- digit i goes to place i + k
rotated_digit : (n k p i : ℕ) → k ≤ n → p < 2 ^ n → i < n → bit_at (p * 2 ^ k + p / 2 ^ (n - k)) ((i + k) % n) ≡ bit_at p i
rotated_digit n k p i h l t = elim (cases_lt (i + k) n) [
  | inl below ↦
      let e : k + (n - k) ≡ n = omega arith in
      let b : p < 2 ^ (k + (n - k)) = rw e l in
      let s : i + k - k ≡ i = omega arith in
      rw (mod-eq_of_lt below) (bit_at_cat_high p k (p / 2 ^ (n - k)) (i + k) (shr_below p k (n - k) b) (omega arith) ∙ ap (bit_at p) s)
  | inr above ↦
      let e : i + k ≡ i + k - n + n = omega arith in
      let s : i + k - n < n = omega arith in
      let f : (i + k) % n ≡ i + k - n = ap (λ (x : ℕ). x % n) e ∙ add-mod_right (i + k - n) n ∙ mod-eq_of_lt s in
      let g : n - k + (i + k - n) ≡ i = omega arith in
      rw f (bit_at_cat_low p k (p / 2 ^ (n - k)) (i + k - n) (omega arith) ∙ ap (λ (x : ℕ). x % 2) (shr-shr p (n - k) (i + k - n) ∙ ap (λ (x : ℕ). p / 2 ^ x) g))
]

pub rotate_left_list : (n by p r m : ℕ) → 0 < n → p < 2 ^ n → m ≡ n → r ≡ p * 2 ^ (by % m) + p / 2 ^ (m - by % m) → IsRotated by (lowest_digits 2 n p) (lowest_digits 2 n r)
rotate_left_list n by p r m0 w l d f =
    let e : r ≡ p * 2 ^ (by % n) + p / 2 ^ (n - by % n) = rw d at f in
    let m : by % n < n = mod_below by n w in
    record {
      size = length_lowest 2 n r ∙ sym (length_lowest 2 n p);
      places = rw (length_lowest 2 n p) (λ i t.
          rw (← add-mod-mod i by n) (rw (digit_at n r ((i + by % n) % n) (mod_below (i + by % n) n w), digit_at n p i t) (rw e (rotated_digit n (by % n) p i (omega arith) l t))));
    }

pub rotate_right_list : (n by p r m : ℕ) → 0 < n → p < 2 ^ n → m ≡ n → r ≡ p * 2 ^ (m - by % m) + p / 2 ^ (m - (m - by % m)) → IsRotated by (lowest_digits 2 n r) (lowest_digits 2 n p)
rotate_right_list n by p r m0 w l d f =
    let e : r ≡ p * 2 ^ (n - by % n) + p / 2 ^ (n - (n - by % n)) = rw d at f in
    let m : by % n < n = mod_below by n w in
    record {
      size = length_lowest 2 n p ∙ sym (length_lowest 2 n r);
      places = rw (length_lowest 2 n r) (λ i t.
          let j = (i + by % n) % n in
          let b : j < n = mod_below (i + by % n) n w in
          let back : (j + (n - by % n)) % n ≡ i = comes_back n (by % n) i w (omega arith) t in
          rw (← add-mod-mod i by n) (rw (digit_at n p j b, digit_at n r i t) (sym (rotated_digit n (n - by % n) p j (omega arith) l b) ∙ rw back (ap (λ (x : ℕ). bit_at x i) (sym e)))));
    }
  where
    comes_back : (n k i : ℕ) → 0 < n → k < n → i < n → ((i + k) % n + (n - k)) % n ≡ i
    comes_back n k i w h t = elim (cases_lt (i + k) n) [
      | inl below ↦
          let e : i + k + (n - k) ≡ i + n = omega arith in
          rw (mod-eq_of_lt below) (rw e (add-mod_right i n ∙ mod-eq_of_lt t))
      | inr above ↦
          let e : i + k ≡ i + k - n + n = omega arith in
          let s : i + k - n < n = omega arith in
          let f : (i + k) % n ≡ i + k - n = ap (λ (x : ℕ). x % n) e ∙ add-mod_right (i + k - n) n ∙ mod-eq_of_lt s in
          let g : i + k - n + (n - k) ≡ i = omega arith in
          rw f (rw g (mod-eq_of_lt t))
    ]

-- ---- the bits in the other order

onto_high : (k x a i : ℕ) → k ≤ i → bit_at (reverse_bits_onto k x a) i ≡ bit_at a (i - k)
unfolding reverse_bits_onto
onto_high zero x a i h = let e : i - 0 ≡ i = omega arith in rw e refl
onto_high (suc k) x a i h =
    let r = onto_high k (x / 2) (a * 2 + x % 2) i (omega arith) in
    let e : i - k ≡ suc (i - suc k) = omega arith in
    let d : (a * 2 + x % 2) / 2 ≡ a = omega arith in
    r ∙ rw e (bit_at-suc (a * 2 + x % 2) (i - suc k) ∙ ap (λ (y : ℕ). bit_at y (i - suc k)) d)

onto_low : (k x a i : ℕ) → i < k → bit_at (reverse_bits_onto k x a) i ≡ bit_at x (k - 1 - i)
unfolding reverse_bits_onto
onto_low zero x a i h = absurd (omega arith)
onto_low (suc k) x a i h = elim (cases_lt i k) [
  | inl below ↦
      let e : suc k - 1 - i ≡ suc (k - 1 - i) = omega arith in
      onto_low k (x / 2) (a * 2 + x % 2) i below ∙ sym (rw e (bit_at-suc x (k - 1 - i)))
  | inr last ↦
      let e : suc k - 1 - i ≡ 0 = omega arith in
      let d : i - k ≡ 0 = omega arith in
      onto_high k (x / 2) (a * 2 + x % 2) i last ∙ rw (d, e) (omega arith)
]

pub reverse_list : (n p r : ℕ) → n ≤ 64 → r ≡ reverse_bits_onto 64 p 0 / 2 ^ (64 - n) → lowest_digits 2 n r ≡ reverse (lowest_digits 2 n p)
reverse_list n p r w e =
    let c = length_lowest 2 n p in
    same_digits n r (reverse (lowest_digits 2 n p)) (length-reverse (lowest_digits 2 n p) ∙ c)
    (λ i l.
    let t : i < length (lowest_digits 2 n p) = omega arith in
    let place : length (lowest_digits 2 n p) - 1 - i ≡ n - 1 - i = omega arith in
    let far : 64 - 1 - (64 - n + i) ≡ n - 1 - i = omega arith in
    ap (λ (x : ℕ). bit_at x i) e ∙ ap (λ (x : ℕ). x % 2) (shr-shr (reverse_bits_onto 64 p 0) (64 - n) i)
    ∙ onto_low 64 p 0 (64 - n + i) (omega arith) ∙ ap (bit_at p) far
    ∙ sym (get_or-reverse (lowest_digits 2 n p) i 0 t ∙ rw place (digit_at n p (n - 1 - i) (omega arith))))
