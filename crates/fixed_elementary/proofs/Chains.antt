-- Digits of logarithms, computed by squaring a mantissa.
use Rattle.std.proofs.Common.{◌≡◌, ◌⊎◌, ◌+◌, ◌*◌, ◌/◌, ◌^◌, ◌<◌, ◌≤◌, ℕ, zero, suc, Bool, true, false, ◌&&◌, T, leb, leb→le, refl, subst, inl, inr, arith}
use Rattle.std.specs.Prelude.{if◌then◌else◌}
use Rattle.std.proofs.Math.Nat.{div-mul-le_self, lt-mul-div-succ, pow-le-pow_right}
use Rattle.std.proofs.lemmas.Nat.{mul-le, div_below, le-div, pow_pos}
use lib.Ieee.Fits.{and_l, and_r}
use Rattle.fixed_elementary.specs.inside.Digits.{IsFound, IsRead}
use Rattle.fixed_elementary.specs.inside.Squaring.{IsMantissa, IsSquared}
use Rattle.fixed_elementary.proofs.Reading.{read_all, read_none, read_turn}

-- f of n, which is computed first
abbrev forced : ℕ → (ℕ → Bool) → Bool
forced zero f = f zero
forced (suc n) f = f (suc n)

forced_is : (n : ℕ) (f : ℕ → Bool) → T (forced n f) → T (f n)
forced_is zero f t = t
forced_is (suc n) f t = t

-- the digits after k more squares pass the test: low and high enclose them
abbrev pub reads : ℕ → ℕ → ℕ → ℕ → ℕ → ℕ → Bool
reads zero w d m low high = leb low d && leb d high
reads (suc k) w d m low high = if leb (2 * w * w) (m * m) then forced (m * m / (2 * w)) (λ n. reads k w (2 * d + 1) n low high) else forced (m * m / w) (λ n. reads k w (2 * d) n low high)

either : (c x y : Bool) → T (if c then x else y) → (T c × T x) ⊎ ((T c → ⊥) × T y)
either true x y t = inl (tt, t)
either false x y t = inr (λ z. z, t)

not_le : (x y : ℕ) → (T (leb x y) → ⊥) → y < x
not_le x y h = grind arith

one_digit : (w m : ℕ) → 0 < w → w ≤ m → m < 2 * w → 2 * w * w ≤ m * m → IsSquared w m 1 (m * m / (2 * w))
one_digit w m o l u h =
    let low = div-mul-le_self (m * m) (2 * w) in
    let high = lt-mul-div-succ (m * m) {b = 2 * w} (omega arith) in
    let two : 2 ^ 1 ≡ 2 = refl in
    let a = mul-le (m + 1) (m + 1) (2 * w) (2 * w) (omega arith) (omega arith) in
    let b = le-div w (m * m) (2 * w) (omega arith) (omega arith) in
    let c = div_below (m * m) (2 * w) (2 * w) (omega arith) (omega arith) in
    record { digit = omega arith; least = b; most = c; below = rw two (omega arith); above = rw two (omega arith) }

no_digit : (w m : ℕ) → 0 < w → w ≤ m → m * m < 2 * w * w → IsSquared w m 0 (m * m / w)
no_digit w m o l h =
    let low = div-mul-le_self (m * m) w in
    let high = lt-mul-div-succ (m * m) o in
    let one : 2 ^ 0 ≡ 1 = refl in
    let a = mul-le w w m m l l in
    let b = le-div w (m * m) w o (omega arith) in
    let c = div_below (m * m) w (2 * w) o (omega arith) in
    record { digit = omega arith; least = b; most = c; below = rw one (omega arith); above = rw one (omega arith) }

-- P holds of digits between low and high, after i squares
pub record Ends (P : ℕ → ℕ → ℕ → Type 0) (i low high : ℕ) : Type 0 where
  pub d : ℕ
  pub m : ℕ
  pub read : P i d m
  pub least : low ≤ d
  pub most : d ≤ high

-- what P needs
pub record Reads (P : ℕ → ℕ → ℕ → Type 0) (w : ℕ) : Type 0 where
  pub bounds : (i d m : ℕ) → P i d m → (w ≤ m) × (m < 2 * w)
  pub turn : (i d m n b : ℕ) → P i d m → IsSquared w m b n → P (i + 1) (2 * d + b) n

pub all_read : (P : ℕ → ℕ → ℕ → Type 0) (k w i d m low high : ℕ) → 0 < w → Reads P w → P i d m → T (reads k w d m low high) → Ends P (i + k) low high
all_read P zero w i d m low high o s h t =
    let e : i ≡ i + 0 = omega arith in
    record {
      d = d;
      m = m;
      read = subst (λ n. P n d m) e h;
      least = leb→le low d (and_l (leb low d) (leb d high) t);
      most = leb→le d high (and_r (leb low d) (leb d high) t);
    }
all_read P (suc k) w i d m low high o s h t =
    let e : i + 1 + k ≡ i + suc k = omega arith in
    let b = s.bounds i d m h in
    elim (either (leb (2 * w * w) (m * m)) (forced (m * m / (2 * w)) (λ n. reads k w (2 * d + 1) n low high)) (forced (m * m / w) (λ n. reads k w (2 * d) n low high)) t) [
      | inl y ↦
          let x = one_digit w m o b.0 b.1 (leb→le (2 * w * w) (m * m) y.0) in
          subst (λ n. Ends P n low high) e (all_read P k w (i + 1) (2 * d + 1) (m * m / (2 * w)) low high o s (s.turn i d m (m * m / (2 * w)) 1 h x) (forced_is (m * m / (2 * w)) (λ n. reads k w (2 * d + 1) n low high) y.1))
      | inr y ↦
          let x = no_digit w m o b.0 (not_le (2 * w * w) (m * m) y.0) in
          let z : 2 * d + 0 ≡ 2 * d = omega arith in
          let r = subst (λ n. P (i + 1) n (m * m / w)) z (s.turn i d m (m * m / w) 0 h x) in
          subst (λ n. Ends P n low high) e (all_read P k w (i + 1) (2 * d) (m * m / w) low high o s r (forced_is (m * m / w) (λ n. reads k w (2 * d) n low high) y.1))
    ]

-- ---- the digits of a number

-- 2^127, computed
abbrev pub unit : ℕ
unit = 170141183460469231731687303715884105728

pub begun : (c : ℕ) → 2 ^ 62 ≤ c → c < 2 ^ 63 → IsRead unit c 0 62 (c * 2 ^ 65)
begun c least most =
    let start : IsMantissa unit c 62 (c * 2 ^ 65) = record { least = omega arith; most = omega arith; digits = omega arith; value = omega arith } in
    read_none unit c 62 (c * 2 ^ 65) (omega arith) start

-- the digits are s
pub digits_found : (room w a h d m s : ℕ) → w ≡ 2 ^ (room + 1) → IsRead w a 0 d m → T (reads h w d m s s) → IsFound room a h s
digits_found room w a h d m s u r t =
    let o : 0 < w = omega (arith, pow_pos (room + 1)) in
    let turns : Reads (IsRead w a) w = record { bounds = λ i d m k. (k.least, k.most); turn = λ i d m n b k x. read_turn w a i d m n b o k x } in
    let e = all_read (IsRead w a) h w 0 d m s s o turns r t in
    let all : 0 + h ≡ h = omega arith in
    let low = e.least in
    let high = e.most in
    let same : e.d ≡ s = omega arith in
    subst (λ (x : ℕ). IsFound room a h x) same (read_all room w a h (0 + h) e.d e.m u all e.read)

-- s and s + 2 enclose the logarithm
pub found_between : (room a h s : ℕ) → h ≤ room → IsFound room a h s → (2 ^ s ≤ a ^ 2 ^ h) × (a ^ 2 ^ h < 2 ^ (s + 2))
found_between room a h s l found =
    let fits : h + 0 ≤ room = omega arith in
    let near = found.near 0 fits in
    let one : 2 ^ 0 ≡ 1 = refl in
    let exponent : 2 ^ h * 2 ^ 0 ≡ 2 ^ h = omega arith in
    let next : (s + 1) * 2 ^ 0 + 1 ≡ s + 2 = omega arith in
    (near.below, subst (λ (k : ℕ). a ^ 2 ^ h < 2 ^ k) next (subst (λ (k : ℕ). a ^ k < 2 ^ ((s + 1) * 2 ^ 0 + 1)) exponent near.above))

-- so do powers of two, if the digits are between theirs
pub enclosed : (c h low high : ℕ) → h ≤ 126 → 2 ^ 62 ≤ c → c < 2 ^ 63 → T (reads h unit 62 (c * 2 ^ 65) low high) → (2 ^ low ≤ c ^ 2 ^ h) × (c ^ 2 ^ h < 2 ^ (high + 2))
enclosed c h low high l least most t =
    let o : 0 < unit = omega arith in
    let turns : Reads (IsRead unit c) unit = record { bounds = λ i d m k. (k.least, k.most); turn = λ i d m n b k x. read_turn unit c i d m n b o k x } in
    let e = all_read (IsRead unit c) h unit 0 62 (c * 2 ^ 65) low high o turns (begun c least most) t in
    let between = found_between 126 c h e.d l (read_all 126 unit c h (0 + h) e.d e.m refl (omega arith) e.read) in
    let from : 2 ^ low ≤ 2 ^ e.d = pow-le-pow_right {n = 2} (omega arith) {i = low} {j = e.d} e.least in
    let to : 2 ^ (e.d + 2) ≤ 2 ^ (high + 2) = pow-le-pow_right {n = 2} (omega arith) {i = e.d + 2} {j = high + 2} (omega (arith, e.most)) in
    (omega (arith, between.0), omega (arith, between.1))
