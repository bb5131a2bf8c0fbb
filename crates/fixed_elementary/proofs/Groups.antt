-- The table of the powers of 2 for each four digits of an exponent.
use Rattle.std.proofs.Common.{◌≡◌, ◌+◌, ◌-◌, ◌*◌, ◌/◌, ◌%◌, ◌^◌, ◌<◌, ◌≤◌, ℕ, zero, suc, List, Bool, true, ◌&&◌, T, leb, ltb, leb→le, ltb→lt, get_or, refl, ap, subst, ◌∙◌, inl, inr, arith, eq-zero-or-pos}
use Rattle.std.proofs.Math.Nat.{pow-suc}
use Rattle.std.proofs.lemmas.Nat.{div-add-mod', mod_below}
use Rattle.std.proofs.lemmas.Bool.{cases_lt}
use lib.Ieee.Fits.{and_l, and_r}
use Rattle.fixed_elementary.specs.declared.powers_of_two.TheConstants.{BROAD}
use Rattle.fixed_elementary.specs.inside.Power.{IsFloored, IsPart}
use Rattle.fixed_elementary.proofs.Powers.{IsRootOfTwo, first_root, next_root, part_longer, part_none, part_of_root, part_on, part_weaker}

-- ---- checks of all numbers below another

abbrev all_below : ℕ → (ℕ → Bool) → Bool
all_below zero f = true
all_below (suc n) f = f n && all_below n f

each_below : (n : ℕ) (f : ℕ → Bool) → T (all_below n f) → (k : ℕ) → k < n → T (f k)
each_below zero f t k l = absurd (omega arith)
each_below (suc n) f t k l = elim (eq-zero-or-pos (n - k)) [
  | inl z ↦ let same : n ≡ k = omega arith in subst (λ i. T (f i)) same (and_l (f n) (all_below n f) t)
  | inr g ↦ each_below n f (and_r (f n) (all_below n f) t) k (omega arith)
]

-- ---- roots

-- the root of a place: of place 4 g + m + 1, the power of group g for this digit alone
abbrev root : List ℕ → ℕ → ℕ → ℕ
root xs w zero = 2 * w
root xs w (suc k) = get_or xs (16 * (k / 4) + 2 ^ (3 - k % 4)) 0

-- c is the root of p, rounded down
abbrev is_root : ℕ → ℕ → ℕ → Bool
is_root w p c = leb (c * c) (p * w) && ltb (p * w) ((c + 1) * (c + 1))

abbrev are_roots : List ℕ → ℕ → ℕ → Bool
are_roots xs w n = all_below n (λ k. is_root w (root xs w k) (root xs w (suc k)))

root_is : (xs : List ℕ) (w n : ℕ) → 0 < w → T (are_roots xs w n) → (k : ℕ) → k ≤ n → IsRootOfTwo w k (root xs w k)
root_is xs w n o t zero l = first_root w (2 * w) refl
root_is xs w n o t (suc k) l =
    let p = root xs w k in
    let c = root xs w (suc k) in
    let here = each_below n (λ i. is_root w (root xs w i) (root xs w (suc i))) t k (omega arith) in
    let low = leb→le (c * c) (p * w) (and_l (leb (c * c) (p * w)) (ltb (p * w) ((c + 1) * (c + 1))) here) in
    let high = ltb→lt (p * w) ((c + 1) * (c + 1)) (and_r (leb (c * c) (p * w)) (ltb (p * w) ((c + 1) * (c + 1))) here) in
    next_root w k p c o (root_is xs w n o t k (omega arith)) low high

-- ---- products

-- n is the product of p and c, rounded down
abbrev is_floored : ℕ → ℕ → ℕ → ℕ → Bool
is_floored w p c n = leb w n && (leb (n * w) (p * c) && leb (p * c) ((n + 1) * w))

floored : (w p c n : ℕ) → T (is_floored w p c n) → IsFloored w p c n
floored w p c n t =
    let rest = and_r (leb w n) (leb (n * w) (p * c) && leb (p * c) ((n + 1) * w)) t in
    record {
      least = leb→le w n (and_l (leb w n) (leb (n * w) (p * c) && leb (p * c) ((n + 1) * w)) t);
      below = leb→le (n * w) (p * c) (and_l (leb (n * w) (p * c)) (leb (p * c) ((n + 1) * w)) rest);
      above = leb→le (p * c) ((n + 1) * w) (and_r (leb (n * w) (p * c)) (leb (p * c) ((n + 1) * w)) rest);
    }

-- the power of group g whose first m digits are e, and the others 0
abbrev entry : List ℕ → ℕ → ℕ → ℕ → ℕ
entry xs g m e = get_or xs (16 * g + e * 2 ^ (4 - m)) 0

-- the power with a digit 1 more
abbrev is_entry : List ℕ → ℕ → ℕ → ℕ → ℕ → Bool
is_entry xs w g m e = is_floored w (entry xs g m e) (root xs w (4 * g + m + 1)) (entry xs g (m + 1) (2 * e + 1))

abbrev is_group : List ℕ → ℕ → ℕ → Bool
is_group xs w g = (leb w (entry xs g 0 0) && leb (entry xs g 0 0) w) && all_below 4 (λ m. all_below (2 ^ m) (λ e. is_entry xs w g m e))

abbrev is_table : List ℕ → ℕ → ℕ → Bool
is_table xs w n = are_roots xs w (4 * n) && all_below n (λ g. is_group xs w g)

entry_is : (xs : List ℕ) (w n : ℕ) → 0 < w → T (is_table xs w n) → (g : ℕ) → g < n → (m : ℕ) → m ≤ 4 → (e : ℕ) → e < 2 ^ m → IsPart w (4 * g + m) (3 * m) e (entry xs g m e)
entry_is xs w n o t g l zero f e h =
    let group = each_below n (λ i. is_group xs w i) (and_r (are_roots xs w (4 * n)) (all_below n (λ i. is_group xs w i)) t) g l in
    let start = and_l (leb w (entry xs g 0 0) && leb (entry xs g 0 0) w) (all_below 4 (λ m. all_below (2 ^ m) (λ e. is_entry xs w g m e))) group in
    let low = leb→le w (entry xs g 0 0) (and_l (leb w (entry xs g 0 0)) (leb (entry xs g 0 0) w) start) in
    let high = leb→le (entry xs g 0 0) w (and_r (leb w (entry xs g 0 0)) (leb (entry xs g 0 0) w) start) in
    let one : 2 ^ 0 ≡ 1 = refl in
    let none : 0 ≡ e = omega arith in
    let unit : w ≡ entry xs g 0 0 = omega arith in
    subst (λ i. IsPart w (4 * g + 0) 0 i (entry xs g 0 i)) none (subst (λ p. IsPart w (4 * g + 0) 0 0 p) unit (part_none w (4 * g + 0) o))
entry_is xs w n o t g l (suc m) f e h =
    let two : 2 ^ 1 ≡ 2 = refl in
    let more = pow-suc 2 m in
    let halved = div-add-mod' e 2 in
    let digit = mod_below e 2 (omega arith) in
    let half : e / 2 < 2 ^ m = omega arith in
    let before = entry_is xs w n o t g l m (omega arith) (e / 2) half in
    let place : 4 * g + m + 1 ≡ 4 * g + suc m = omega arith in
    let errors : 3 * m + 2 + 1 ≡ 3 * suc m = omega arith in
    elim (cases_lt (e % 2) 1) [
      | inl even ↦
          let index : e / 2 * 2 ^ (4 - m) ≡ e * 2 ^ (4 - suc m) = same_index e m f (omega arith) in
          let z : e / 2 * 2 ^ 1 ≡ e = omega arith in
          let longer = part_longer w (4 * g + m) 1 (3 * m) (e / 2) (entry xs g m (e / 2)) before in
          let all = part_weaker w (4 * g + m + 1) (3 * m) (3 * suc m) (e / 2 * 2 ^ 1) (entry xs g m (e / 2)) (omega arith) longer in
          subst (λ b. IsPart w b (3 * suc m) e (entry xs g (suc m) e)) place
          (subst (λ i. IsPart w (4 * g + m + 1) (3 * suc m) e (get_or xs (16 * g + i) 0)) index
          (subst (λ i. IsPart w (4 * g + m + 1) (3 * suc m) i (entry xs g m (e / 2))) z all))
      | inr odd ↦
          let z : e / 2 * 2 ^ 1 + 1 ≡ e = omega arith in
          let y : 2 * (e / 2) + 1 ≡ e = omega arith in
          let next : m + 1 ≡ suc m = omega arith in
          let c = root xs w (4 * g + m + 1) in
          let roots = and_l (are_roots xs w (4 * n)) (all_below n (λ i. is_group xs w i)) t in
          let factor = part_of_root w (4 * g + m + 1) c o (omega arith) (root_is xs w (4 * n) o roots (4 * g + m + 1) (omega arith)) in
          let group = each_below n (λ i. is_group xs w i) (and_r (are_roots xs w (4 * n)) (all_below n (λ i. is_group xs w i)) t) g l in
          let rows = and_r (leb w (entry xs g 0 0) && leb (entry xs g 0 0) w) (all_below 4 (λ m. all_below (2 ^ m) (λ e. is_entry xs w g m e))) group in
          let row = each_below 4 (λ m. all_below (2 ^ m) (λ e. is_entry xs w g m e)) rows m (omega arith) in
          let here = each_below (2 ^ m) (λ e. is_entry xs w g m e) row (e / 2) half in
          let product = floored w (entry xs g m (e / 2)) c (entry xs g (m + 1) (2 * (e / 2) + 1)) here in
          let small : 1 < 2 ^ 1 = omega arith in
          let all = part_on w (4 * g + m) 1 (3 * m) 2 (e / 2) 1 (entry xs g m (e / 2)) c (entry xs g (m + 1) (2 * (e / 2) + 1)) o small before factor product in
          subst (λ b. IsPart w b (3 * suc m) e (entry xs g (suc m) e)) place
          (subst (λ i. IsPart w (4 * g + m + 1) i e (entry xs g (suc m) e)) errors
          (subst (λ i. IsPart w (4 * g + m + 1) (3 * m + 2 + 1) e (entry xs g i e)) next
          (subst (λ i. IsPart w (4 * g + m + 1) (3 * m + 2 + 1) e (entry xs g (m + 1) i)) y
          (subst (λ i. IsPart w (4 * g + m + 1) (3 * m + 2 + 1) i (entry xs g (m + 1) (2 * (e / 2) + 1))) z all))))
    ]
  where
    same_index : (e m : ℕ) → suc m ≤ 4 → e / 2 * 2 ≡ e → e / 2 * 2 ^ (4 - m) ≡ e * 2 ^ (4 - suc m)
    same_index e m f h =
        let s : 4 - m ≡ suc (4 - suc m) = omega arith in
        let p : 2 ^ (4 - m) ≡ 2 ^ (4 - suc m) * 2 = ap (λ k. 2 ^ k) s ∙ pow-suc 2 (4 - suc m) in
        let x = ap (λ k. k * 2 ^ (4 - suc m)) h in
        rw p (omega arith)

-- ---- the table

group_is : (xs : List ℕ) (w n : ℕ) → 0 < w → T (is_table xs w n) → (g d : ℕ) → g < n → d < 16 → IsPart w (4 * g + 4) 12 d (get_or xs (16 * g + d) 0)
group_is xs w n o t g d l h =
    let e : d * 2 ^ (4 - 4) ≡ d = omega arith in
    subst (λ i. IsPart w (4 * g + 4) 12 d (get_or xs (16 * g + i) 0)) e (entry_is xs w n o t g l 4 (omega arith) d h)

pub broad_is : (g d : ℕ) → g < 16 → d < 16 → IsPart (2 ^ 126) (4 * g + 4) 12 d (get_or BROAD (16 * g + d) 0)
broad_is g d l h = group_is BROAD (2 ^ 126) 16 (omega arith) tt g d l h
