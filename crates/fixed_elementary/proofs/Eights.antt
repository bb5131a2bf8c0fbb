-- The tables of the powers of 2 for each eight digits of an exponent.
use Rattle.std.proofs.Common.{◌≡◌, ◌+◌, ◌-◌, ◌*◌, ◌/◌, ◌%◌, ◌^◌, ◌<◌, ◌≤◌, ℕ, zero, suc, List, [], ◌∷◌, length, Bool, true, ◌&&◌, T, leb, leb→le, get_or, refl, ap, sym, subst, ◌∙◌, arith}
use Rattle.std.proofs.Math.Nat.{pow-le-pow_right}
use Rattle.std.proofs.Math.Dec.{eqb}
use Rattle.std.proofs.Math.Facts.{eqb_yes}
use Rattle.std.proofs.lemmas.Nat.{mul-le, pow-add, pow_pos}
use lib.Ieee.Fits.{and_l, and_r}
use Rattle.fixed_elementary.specs.declared.first_powers.TheConstants.{FIRST_POWERS}
use Rattle.fixed_elementary.specs.declared.last_powers.TheConstants.{LAST_POWERS}
use Rattle.fixed_elementary.specs.inside.Power.{IsPart}
use Rattle.fixed_elementary.proofs.Chains.{enclosed, reads, unit}
use Rattle.fixed_elementary.proofs.Powers.{part_floored, part_none, part_weaker}
use Rattle.fixed_elementary.proofs.Reading.{pow_times, root_le}

-- ---- one row

-- the logarithm of the power of the digits z, times 2^62, in units of 2^-h
abbrev log_of : ℕ → ℕ → ℕ → ℕ
log_of h b z = (62 * 2 ^ b + z) * 2 ^ (h - b)

-- the logarithm of p is less
abbrev is_below : ℕ → ℕ → ℕ → Bool
is_below b z p = reads 80 unit 62 (p * 2 ^ 65) 0 (log_of 80 b z - 2)

-- the logarithm of p is not less
abbrev is_above : ℕ → ℕ → ℕ → Bool
is_above b z p = reads 80 unit 62 (p * 2 ^ 65) (log_of 80 b z) (2 ^ 87)

abbrev fits : ℕ → Bool
fits p = leb (2 ^ 62) p && leb (p + 2) (2 ^ 63)

-- p is the power, rounded down
abbrev is_power : ℕ → ℕ → ℕ → Bool
is_power b zero p = eqb p (2 ^ 62)
is_power b (suc z) p = fits p && (is_below b (suc z) p && is_above b (suc z) (p + 1))

abbrev is_row : ℕ → ℕ → Bool
is_row k p = is_power (8 * (k / 256) + 8) (k % 256) p

-- the rows from row k on
abbrev are_rows : ℕ → List ℕ → Bool
are_rows k [] = true
are_rows k (p ∷ ps) = is_row k p && are_rows (suc k) ps

first_are : T (are_rows 0 FIRST_POWERS)
first_are = tt

last_are : T (are_rows 512 LAST_POWERS)
last_are = tt

row_is : (k : ℕ) (ps : List ℕ) → T (are_rows k ps) → (i : ℕ) → i < length ps → T (is_row (k + i) (get_or ps i 0))
row_is k [] t i l = absurd (omega arith)
row_is k (p ∷ ps) t zero h = let e : k ≡ k + 0 = omega arith in subst (λ (j : ℕ). T (is_row j p)) e (and_l (is_row k p) (are_rows (suc k) ps) t)
row_is k (p ∷ ps) t (suc i) h =
    let e : suc k + i ≡ k + suc i = omega arith in
    let more : i < length ps = omega arith in
    subst (λ (j : ℕ). T (is_row j (get_or ps i 0))) e (row_is (suc k) ps (and_r (is_row k p) (are_rows (suc k) ps) t) i more)

-- ---- what the logarithms say

power_of_digits : (h b z : ℕ) → 2 ^ log_of h b z ≡ (2 ^ z * (2 ^ 62) ^ 2 ^ b) ^ 2 ^ (h - b)
power_of_digits h b z =
    let m = 2 ^ (h - b) in
    let e : 62 * 2 ^ b + z ≡ z + 62 * 2 ^ b = omega arith in
    let s : 2 ^ (62 * 2 ^ b + z) ≡ 2 ^ z * (2 ^ 62) ^ 2 ^ b = ap (λ (k : ℕ). 2 ^ k) e ∙ pow-add 2 z (62 * 2 ^ b) ∙ ap (λ (k : ℕ). 2 ^ z * k) (sym (pow_times 2 62 (2 ^ b))) in
    sym (pow_times 2 (62 * 2 ^ b + z) m) ∙ ap (λ (k : ℕ). k ^ m) s

power_raised : (x h b : ℕ) → b ≤ h → x ^ 2 ^ h ≡ (x ^ 2 ^ b) ^ 2 ^ (h - b)
power_raised x h b l =
    let s : b + (h - b) ≡ h = omega arith in
    let e : 2 ^ h ≡ 2 ^ b * 2 ^ (h - b) = ap (λ (k : ℕ). 2 ^ k) (sym s) ∙ pow-add 2 b (h - b) in
    ap (λ (k : ℕ). x ^ k) e ∙ sym (pow_times x (2 ^ b) (2 ^ (h - b)))

below_is : (h b z p : ℕ) → b ≤ h → p ^ 2 ^ h < 2 ^ log_of h b z → p ^ 2 ^ b ≤ 2 ^ z * (2 ^ 62) ^ 2 ^ b
below_is h b z p l t =
    let m = 2 ^ (h - b) in
    let r = 2 ^ z * (2 ^ 62) ^ 2 ^ b in
    let u : (p ^ 2 ^ b) ^ m < r ^ m = subst (λ (k : ℕ). k < r ^ m) (power_raised p h b l) (subst (λ (k : ℕ). p ^ 2 ^ h < k) (power_of_digits h b z) t) in
    root_le (p ^ 2 ^ b) r m (pow_pos (h - b)) (omega arith)

above_is : (h b z p : ℕ) → b ≤ h → 2 ^ log_of h b z ≤ p ^ 2 ^ h → 2 ^ z * (2 ^ 62) ^ 2 ^ b ≤ p ^ 2 ^ b
above_is h b z p l t =
    let m = 2 ^ (h - b) in
    let r = 2 ^ z * (2 ^ 62) ^ 2 ^ b in
    let u : r ^ m ≤ (p ^ 2 ^ b) ^ m = subst (λ (k : ℕ). r ^ m ≤ k) (power_raised p h b l) (subst (λ (k : ℕ). k ≤ p ^ 2 ^ h) (power_of_digits h b z) t) in
    root_le r (p ^ 2 ^ b) m (pow_pos (h - b)) u

-- ---- the power of a row

floored_is : (h b z p : ℕ) → h ≡ 80 → b ≤ 80 → 0 < z → z < 2 ^ b → T (fits p && (is_below b z p && is_above b z (p + 1))) → IsPart (2 ^ 62) b 1 z p
floored_is h b z p e l some digits t =
    let ends = and_l (fits p) (is_below b z p && is_above b z (p + 1)) t in
    let both = and_r (fits p) (is_below b z p && is_above b z (p + 1)) t in
    let least = leb→le (2 ^ 62) p (and_l (leb (2 ^ 62) p) (leb (p + 2) (2 ^ 63)) ends) in
    let most = leb→le (p + 2) (2 ^ 63) (and_r (leb (2 ^ 62) p) (leb (p + 2) (2 ^ 63)) ends) in
    let low = and_l (is_below b z p) (is_above b z (p + 1)) both in
    let high = and_r (is_below b z p) (is_above b z (p + 1)) both in
    let below = enclosed p h 0 (log_of h b z - 2) (omega arith) least (omega arith) (subst (λ (k : ℕ). T (reads k unit 62 (p * 2 ^ 65) 0 (log_of k b z - 2))) (sym e) low) in
    let above = enclosed (p + 1) h (log_of h b z) (2 ^ 87) (omega arith) (omega arith) (omega arith) (subst (λ (k : ℕ). T (reads k unit 62 ((p + 1) * 2 ^ 65) (log_of k b z) (2 ^ 87))) (sym e) high) in
    let two = mul-le 2 1 (62 * 2 ^ b + z) (2 ^ (h - b)) (omega (arith, pow_pos b)) (pow_pos (h - b)) in
    let sum : log_of h b z - 2 + 2 ≡ log_of h b z = omega arith in
    let lower = below_is h b z p (omega arith) (subst (λ (k : ℕ). p ^ 2 ^ h < 2 ^ k) sum below.1) in
    let upper = above_is h b z (p + 1) (omega arith) above.0 in
    part_floored (2 ^ 62) b z p (omega arith) digits least (λ n. absurd (omega arith)) lower upper

power_is : (b z p : ℕ) → b ≤ 80 → z < 2 ^ b → T (is_power b z p) → IsPart (2 ^ 62) b 1 z p
power_is b zero p l digits t =
    let none = part_weaker (2 ^ 62) b 0 1 0 (2 ^ 62) (omega arith) (part_none (2 ^ 62) b (omega arith)) in
    subst (λ (x : ℕ). IsPart (2 ^ 62) b 1 0 x) (sym (eqb_yes t)) none
power_is b (suc z) p l digits t = floored_is 80 b (suc z) p refl l (omega arith) digits t

-- k is the number of the row
table_power : (k g d p : ℕ) → k ≡ 256 * g + d → g < 4 → d < 256 → T (is_row k p) → IsPart (2 ^ 62) (8 * g + 8) 1 d p
table_power k g d p e few small t =
    let group : k / 256 ≡ g = omega arith in
    let rest : k % 256 ≡ d = omega arith in
    let eight : 2 ^ 8 ≡ 256 = refl in
    let most : 2 ^ 8 ≤ 2 ^ (8 * g + 8) = pow-le-pow_right {n = 2} (omega arith) {i = 8} {j = 8 * g + 8} (omega arith) in
    let digits : d < 2 ^ (8 * g + 8) = omega arith in
    let row = subst (λ (n : ℕ). T (is_power (8 * n + 8) d p)) group (subst (λ (n : ℕ). T (is_power (8 * (k / 256) + 8) n p)) rest t) in
    power_is (8 * g + 8) d p (omega arith) digits row

pub first_is : (g d : ℕ) → g < 2 → d < 256 → IsPart (2 ^ 62) (8 * g + 8) 1 d (get_or FIRST_POWERS (256 * (g % 2) + d) 0)
first_is g d few small =
    let i = 256 * (g % 2) + d in
    let all : length FIRST_POWERS ≡ 512 = refl in
    table_power (0 + i) g d (get_or FIRST_POWERS i 0) (omega arith) (omega arith) small (row_is 0 FIRST_POWERS first_are i (omega arith))

pub last_is : (g d : ℕ) → 2 ≤ g → g < 4 → d < 256 → IsPart (2 ^ 62) (8 * g + 8) 1 d (get_or LAST_POWERS (256 * (g % 2) + d) 0)
last_is g d many few small =
    let i = 256 * (g % 2) + d in
    let all : length LAST_POWERS ≡ 512 = refl in
    table_power (512 + i) g d (get_or LAST_POWERS i 0) (omega arith) few small (row_is 512 LAST_POWERS last_are i (omega arith))
