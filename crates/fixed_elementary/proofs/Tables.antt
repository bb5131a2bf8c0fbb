-- The tables of factors and of their logarithms.
use Rattle.std.proofs.Common.{◌≡◌, ◌+◌, ◌-◌, ◌*◌, ◌/◌, ◌%◌, ◌^◌, ◌<◌, ◌≤◌, ℕ, zero, suc, List, [], ◌∷◌, length, Bool, true, false, ◌&&◌, T, leb, ltb, leb→le, ltb→lt, get_or, refl, ap, sym, subst, ◌∙◌, arith}
use Rattle.std.specs.Prelude.{if◌then◌else◌}
use Rattle.std.proofs.Math.Nat.{mul-le-mul_left, pow-zero}
use Rattle.std.proofs.Math.Dec.{eqb}
use Rattle.std.proofs.Math.Facts.{eqb_yes}
use Rattle.std.proofs.lemmas.Nat.{pow-add}
use lib.Ieee.Fits.{and_l, and_r}
use Rattle.fixed_elementary.specs.declared.factor_table.TheConstants.{FACTORS}
use Rattle.fixed_elementary.specs.declared.log_table.TheConstants.{LOGS}
use Rattle.fixed_elementary.specs.inside.Digits.{IsFound}
use Rattle.fixed_elementary.specs.inside.Reduced.{IsFactor, IsNearFactor}
use Rattle.fixed_elementary.proofs.Chains.{begun, digits_found, found_between, reads, unit}
use Rattle.fixed_elementary.proofs.Reading.{pow_times}

-- ---- one row

-- 63 * 2^126, computed
abbrev all_digits : ℕ
all_digits = 5359447279004780799548150067050349330432

-- l is minus the logarithm of c units of 2^-63, whose first digit is 0
abbrev is_log : ℕ → ℕ → Bool
is_log c l = if eqb c (2 ^ 63) then eqb l 0 else (leb (2 ^ 62) c && (ltb c (2 ^ 63) && (leb (l + 2) all_digits && reads 126 unit 62 (c * 2 ^ 65) (all_digits - (l + 2)) (all_digits - (l + 2)))))

abbrev is_near : ℕ → ℕ → ℕ → Bool
is_near q d c = leb 1 c && (leb c (2 ^ 63) && (leb (2 ^ 63 * q) ((q + d) * c) && leb ((q + d + 1) * c) (2 ^ 63 * (q + 1) + q)))

abbrev is_row : ℕ → ℕ → ℕ → Bool
is_row k c l = is_near (128 ^ (k / 128 + 1)) (k % 128) c && is_log c l

-- the rows from row k on
abbrev are_rows : ℕ → List ℕ → List ℕ → Bool
are_rows k [] ls = true
are_rows k (c ∷ cs) [] = false
are_rows k (c ∷ cs) (l ∷ ls) = is_row k c l && are_rows (suc k) cs ls

rows_are : T (are_rows 0 FACTORS LOGS)
rows_are = tt

row_is : (k : ℕ) (cs ls : List ℕ) → T (are_rows k cs ls) → (i : ℕ) → i < length cs → T (is_row (k + i) (get_or cs i 0) (get_or ls i 0))
row_is k [] ls t i l = absurd (omega arith)
row_is k (c ∷ cs) [] t i l = absurd t
row_is k (c ∷ cs) (l ∷ ls) t zero h = let e : k ≡ k + 0 = omega arith in subst (λ (j : ℕ). T (is_row j c l)) e (and_l (is_row k c l) (are_rows (suc k) cs ls) t)
row_is k (c ∷ cs) (l ∷ ls) t (suc i) h =
    let e : suc k + i ≡ k + suc i = omega arith in
    let more : i < length cs = omega arith in
    subst (λ (j : ℕ). T (is_row j (get_or cs i 0) (get_or ls i 0))) e (row_is (suc k) cs ls (and_r (is_row k c l) (are_rows (suc k) cs ls) t) i more)

near_is : (q d c : ℕ) → T (is_near q d c) → IsNearFactor q d c
near_is q d c t =
    let rest = and_r (leb 1 c) (leb c (2 ^ 63) && (leb (2 ^ 63 * q) ((q + d) * c) && leb ((q + d + 1) * c) (2 ^ 63 * (q + 1) + q))) t in
    let ends = and_r (leb c (2 ^ 63)) (leb (2 ^ 63 * q) ((q + d) * c) && leb ((q + d + 1) * c) (2 ^ 63 * (q + 1) + q)) rest in
    record {
      some = leb→le 1 c (and_l (leb 1 c) (leb c (2 ^ 63) && (leb (2 ^ 63 * q) ((q + d) * c) && leb ((q + d + 1) * c) (2 ^ 63 * (q + 1) + q))) t);
      one = leb→le c (2 ^ 63) (and_l (leb c (2 ^ 63)) (leb (2 ^ 63 * q) ((q + d) * c) && leb ((q + d + 1) * c) (2 ^ 63 * (q + 1) + q)) rest);
      least = leb→le (2 ^ 63 * q) ((q + d) * c) (and_l (leb (2 ^ 63 * q) ((q + d) * c)) (leb ((q + d + 1) * c) (2 ^ 63 * (q + 1) + q)) ends);
      most = leb→le ((q + d + 1) * c) (2 ^ 63 * (q + 1) + q) (and_r (leb (2 ^ 63 * q) ((q + d) * c)) (leb ((q + d + 1) * c) (2 ^ 63 * (q + 1) + q)) ends);
    }

-- c is p, and l is 0
one_is : (h p c l : ℕ) → c ≡ p → l ≡ 0 → (2 ^ l * c ^ 2 ^ h ≤ p ^ 2 ^ h) × (p ^ 2 ^ h ≤ 2 ^ (l + 2) * c ^ 2 ^ h)
one_is h p c l e z =
    let one = pow-zero 2 in
    let four : 2 ^ 2 ≡ 4 = refl in
    let sum : 0 + 2 ≡ 2 = refl in
    rw (e, z) (omega (arith, one), omega (arith, four, sum))

-- s is the logarithm of c, and l is what it lacks of that of 2^n
less_is : (h n c l s : ℕ) → IsFound h c h s → l + s + 2 ≡ n * 2 ^ h → (2 ^ l * c ^ 2 ^ h ≤ (2 ^ n) ^ 2 ^ h) × ((2 ^ n) ^ 2 ^ h ≤ 2 ^ (l + 2) * c ^ 2 ^ h)
less_is h n c l s found sum =
    let between = found_between h c h s (omega arith) found in
    let below = between.0 in
    let above = between.1 in
    let whole = pow_times 2 n (2 ^ h) in
    let s_l : l + (s + 2) ≡ n * 2 ^ h = omega arith in
    let l_s : l + 2 + s ≡ n * 2 ^ h = omega arith in
    let a = sym (pow-add 2 l (s + 2)) ∙ ap (λ (k : ℕ). 2 ^ k) s_l in
    let b = sym (pow-add 2 (l + 2) s) ∙ ap (λ (k : ℕ). 2 ^ k) l_s in
    let most : c ^ 2 ^ h ≤ 2 ^ (s + 2) = omega arith in
    let x = mul-le-mul_left (2 ^ l) most in
    let y = mul-le-mul_left (2 ^ (l + 2)) below in
    (rw whole (omega arith), rw whole (omega arith))

log_is : (h c l : ℕ) → h ≡ 126 → T (is_log c l) → IsFactor h c l
log_is h c l e t = go (eqb c (2 ^ 63)) refl t
  where
    digits : ℕ
    digits = all_digits - (l + 2)

    go : (b : Bool) → eqb c (2 ^ 63) ≡ b → T (if b then eqb l 0 else (leb (2 ^ 62) c && (ltb c (2 ^ 63) && (leb (l + 2) all_digits && reads 126 unit 62 (c * 2 ^ 65) digits digits)))) → IsFactor h c l
    go true is t =
        let both = one_is h (2 ^ 63) c l (eqb_yes (subst T (sym is) tt)) (eqb_yes t) in
        record { below = both.0; above = both.1 }
    go false is t =
        let ends = and_r (leb (2 ^ 62) c) (ltb c (2 ^ 63) && (leb (l + 2) all_digits && reads 126 unit 62 (c * 2 ^ 65) digits digits)) t in
        let rest = and_r (ltb c (2 ^ 63)) (leb (l + 2) all_digits && reads 126 unit 62 (c * 2 ^ 65) digits digits) ends in
        let least = leb→le (2 ^ 62) c (and_l (leb (2 ^ 62) c) (ltb c (2 ^ 63) && (leb (l + 2) all_digits && reads 126 unit 62 (c * 2 ^ 65) digits digits)) t) in
        let most = ltb→lt c (2 ^ 63) (and_l (ltb c (2 ^ 63)) (leb (l + 2) all_digits && reads 126 unit 62 (c * 2 ^ 65) digits digits) ends) in
        let fits = leb→le (l + 2) all_digits (and_l (leb (l + 2) all_digits) (reads 126 unit 62 (c * 2 ^ 65) digits digits) rest) in
        let read = and_r (leb (l + 2) all_digits) (reads 126 unit 62 (c * 2 ^ 65) digits digits) rest in
        let u : unit ≡ 2 ^ (h + 1) = rw e refl in
        let found = digits_found h unit c h 62 (c * 2 ^ 65) digits u (begun c least most) (subst (λ (k : ℕ). T (reads k unit 62 (c * 2 ^ 65) digits digits)) (sym e) read) in
        let sum : l + digits + 2 ≡ 63 * 2 ^ h = rw e (omega arith) in
        let both = less_is h 63 c l digits found sum in
        record { below = both.0; above = both.1 }

table_row : (g d : ℕ) → g < 6 → d < 128 → T (is_row (128 * g + d) (get_or FACTORS (128 * g + d) 0) (get_or LOGS (128 * g + d) 0))
table_row g d few digit =
    let all : length FACTORS ≡ 768 = refl in
    let i : 0 + (128 * g + d) ≡ 128 * g + d = omega arith in
    subst (λ (k : ℕ). T (is_row k (get_or FACTORS (128 * g + d) 0) (get_or LOGS (128 * g + d) 0))) i (row_is 0 FACTORS LOGS rows_are (128 * g + d) (omega arith))

pub row_near : (g d : ℕ) → g < 6 → d < 128 → IsNearFactor (128 ^ (g + 1)) d (get_or FACTORS (128 * g + d) 0)
row_near g d few digit =
    let k = 128 * g + d in
    let c = get_or FACTORS k 0 in
    let l = get_or LOGS k 0 in
    let group : k / 128 ≡ g = omega arith in
    let rest : k % 128 ≡ d = omega arith in
    let near = near_is (128 ^ (k / 128 + 1)) (k % 128) c (and_l (is_near (128 ^ (k / 128 + 1)) (k % 128) c) (is_log c l) (table_row g d few digit)) in
    subst (λ (n : ℕ). IsNearFactor (128 ^ (n + 1)) d c) group (subst (λ (n : ℕ). IsNearFactor (128 ^ (k / 128 + 1)) n c) rest near)

pub row_log : (g d : ℕ) → g < 6 → d < 128 → IsFactor 126 (get_or FACTORS (128 * g + d) 0) (get_or LOGS (128 * g + d) 0)
row_log g d few digit =
    let k = 128 * g + d in
    let c = get_or FACTORS k 0 in
    let l = get_or LOGS k 0 in
    log_is 126 c l refl (and_r (is_near (128 ^ (k / 128 + 1)) (k % 128) c) (is_log c l) (table_row g d few digit))
