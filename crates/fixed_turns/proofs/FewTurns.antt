-- Angles of few turns in radians, on words of up to 32 bits.
use Rattle.std.proofs.Common.{◌≡◌, ◌⊎◌, ◌+◌, ◌-◌, ◌*◌, ◌/◌, ◌%◌, ◌^◌, ◌<◌, ◌≤◌, ◌<ℤ◌, ◌+ℤ◌, ℕ, ℤ, Bool, true, false, not, pos, negsuc, neg_ℤ, zero, suc, if◌then◌else◌, nat_eq, inl, inr, refl, subst, sym, ap, ◌∙◌, add-mul, pow-add, arith}
use Rattle.std.specs.Prelude.{IsTrue, ◌↔◌, unsigned_abs}
use Rattle.std.proofs.lemmas.Bool.{cases_lt, iff_false}
use Rattle.std.proofs.lemmas.Int.{ints}
use Rattle.std.proofs.lemmas.Nat.{pow_pos}
use Rattle.std.proofs.Math.Nat.{le_of_mul-le-mul_right, lt_of_mul-lt-mul_right, mul-le-mul_right, mul-le-mul_left}
use Rattle.std.proofs.Math.Pow.{pow_mono}
use Rattle.fixed_word.specs.Format.{InRange, IsWidth, with_sign}
use Rattle.fixed_turns.specs.Radians.{IsRadianCosine, IsRadianSine, IsSineWith, parts}
use Rattle.fixed_turns.specs.Series.{Fraction, cosine_series, sine_series}
use Rattle.fixed_turns.specs.Sines.{IsSineBy, IsSumAt, pi}
use Rattle.fixed_turns.specs.inside.Rests.{IsBesidePi, IsClose, IsRounded, IsSineClose, IsSplitClose}
use Rattle.fixed_turns.proofs.Factorials.{quotient_low}
use Rattle.fixed_turns.proofs.RadianSines.{cosine_even, pi_high, pi_low, sine_minus}
use Rattle.fixed_turns.proofs.Splits.{quarters_left, size_down, size_up}
use Rattle.fixed_turns.proofs.Sums.{powers, rounded_half, rounded_most, sum_at}
use Rattle.fixed_turns.proofs.TurnLaws.{twice_negated}
use Rattle.fixed_turns.proofs.Turning.{cosine_at, sine_by_sign}

-- ---- n quarters are near the angle: both in units of 2^-63 radians
both : (i j k : ℕ) → i + j ≡ k → 2 ^ i * 2 ^ j ≡ 2 ^ k
both i j k e = sym (pow-add 2 i j) ∙ ap (λ (l : ℕ). 2 ^ l) e

pub record IsBy (m f n : ℕ) : Type 0 where
  pub few : n < 2 ^ 19
  pub most : m * 2 ^ (63 - f) ≤ n * 0xc90fdaa22168c235 + 0x6500000000000000
  pub least : n * 0xc90fdaa22168c235 ≤ m * 2 ^ (63 - f) + 0x6500000000000000

-- a is the angle in units of 2^-32
by_quarters : (a n : ℕ) → a < 2 ^ 51 → n * 2 ^ 63 ≤ a * 0x517cc1b7 + 2 ^ 62 → a * 0x517cc1b7 + 2 ^ 62 < (n + 1) * 2 ^ 63
    → (n < 2 ^ 19) × ((a * 2 ^ 31 ≤ n * 0xc90fdaa22168c235 + 0x6500000000000000) × (n * 0xc90fdaa22168c235 ≤ a * 2 ^ 31 + 0x6500000000000000))
by_quarters a n few low high = (omega arith, (omega arith, omega arith))

pub near_by : (m f n : ℕ) → f ≤ 32 → m < 2 ^ (f + 19) → n * 2 ^ (31 + f) ≤ m * 0x517cc1b7 + 2 ^ (30 + f) → m * 0x517cc1b7 + 2 ^ (30 + f) < (n + 1) * 2 ^ (31 + f) → IsBy m f n
near_by m f n l few low high =
    let h = 2 ^ (32 - f) in
    let a = m * h in
    let u = both (31 + f) (32 - f) 63 (omega arith) in
    let v = both (30 + f) (32 - f) 62 (omega arith) in
    let w = both (f + 19) (32 - f) 51 (omega arith) in
    let z = both (32 - f) 31 (63 - f) (omega arith) in
    let b = mul-le-mul_right h low in
    let c : (m * 0x517cc1b7 + 2 ^ (30 + f) + 1) * h ≤ (n + 1) * 2 ^ (31 + f) * h = mul-le-mul_right {m = m * 0x517cc1b7 + 2 ^ (30 + f) + 1} {n = (n + 1) * 2 ^ (31 + f)} h (omega arith) in
    let d : (m + 1) * h ≤ 2 ^ (f + 19) * h = mul-le-mul_right {m = m + 1} {n = 2 ^ (f + 19)} h (omega arith) in
    let o : 0 < h = pow_pos (32 - f) in
    let nu = ap (λ (j : ℕ). n * j) u in
    let mz = ap (λ (j : ℕ). m * j) z in
    let r = by_quarters a n (omega arith) (omega arith) (omega arith) in
    record { few = r.0; most = omega (arith, r.1.0, mz); least = omega (arith, r.1.1, mz) }

-- ---- a rest, of which k parts are 2^64 2 10^39
rest_close : (t r f k : ℕ) → k * 2 ^ f ≡ 2 ^ 64 → t * (2 * 10 ^ 39) ≤ r * k + 2 ^ 18 * (2 * 10 ^ 39) → r * k ≤ (t + 2 ^ 18) * (2 * 10 ^ 39) → IsClose (2 ^ 18) t (parts r f)
rest_close t r f k u low high =
    let a = mul-le-mul_right (2 ^ f) low in
    let b = mul-le-mul_right (2 ^ f) high in
    let e : r * k * 2 ^ f ≡ r * 2 ^ 64 = omega (arith, ap (λ (j : ℕ). r * j) u) in
    record { below = omega arith; above = omega arith }

rest_small : (t r f k : ℕ) → 0 < k → k * 2 ^ f ≡ 2 ^ 64 → t + 2 ^ 18 ≤ 2 ^ 64 → r * k ≤ (t + 2 ^ 18) * (2 * 10 ^ 39) → r ≤ 2 * 10 ^ 39 * 2 ^ f
rest_small t r f k o u few high =
    let a = mul-le-mul_right (2 * 10 ^ 39) few in
    let e : 2 * 10 ^ 39 * 2 ^ f * k ≡ 2 ^ 64 * (2 * 10 ^ 39) = omega (arith, ap (λ (j : ℕ). 2 * 10 ^ 39 * j) u) in
    let b : r * k ≤ 2 * 10 ^ 39 * 2 ^ f * k = omega arith in
    le_of_mul-le-mul_right b o

-- b is n quarters and a is the angle, in parts
rest_above : (p m f n t k : ℕ) (below : Bool) → 0 < k → k * 2 ^ f ≡ 2 ^ 64 → n * (p * 2 ^ f) ≤ 2 * 10 ^ 39 * m → n * (p * 2 ^ f) * k + t * (2 * 10 ^ 39) ≤ 2 * 10 ^ 39 * m * k + 2 ^ 18 * (2 * 10 ^ 39)
    → 2 * 10 ^ 39 * m * k ≤ n * (p * 2 ^ f) * k + (t + 2 ^ 18) * (2 * 10 ^ 39) → t + 2 ^ 18 ≤ 2 ^ 64 → (false ≡ below) ⊎ (t ≤ 2 ^ 18) → IsSplitClose p m f n below t
rest_above p m f n t k below o u le low high few sure =
    let b = n * (p * 2 ^ f) in
    let a = 2 * 10 ^ 39 * m in
    let r = a - b in
    let s : r + b ≡ a = omega arith in
    let sk : r * k + b * k ≡ a * k = sym (add-mul r b k) ∙ ap (λ (j : ℕ). j * k) s in
    let most : r * k ≤ (t + 2 ^ 18) * (2 * 10 ^ 39) = omega arith in
    record { sign = false; rest = r; is = omega (arith, ints); small = rest_small t r f k o u few most; close = rest_close t r f k u (omega arith) most; sure = sure }

rest_below : (p m f n t k : ℕ) (below : Bool) → 0 < k → k * 2 ^ f ≡ 2 ^ 64 → 2 * 10 ^ 39 * m ≤ n * (p * 2 ^ f) → 2 * 10 ^ 39 * m * k + t * (2 * 10 ^ 39) ≤ n * (p * 2 ^ f) * k + 2 ^ 18 * (2 * 10 ^ 39)
    → n * (p * 2 ^ f) * k ≤ 2 * 10 ^ 39 * m * k + (t + 2 ^ 18) * (2 * 10 ^ 39) → t + 2 ^ 18 ≤ 2 ^ 64 → (true ≡ below) ⊎ (t ≤ 2 ^ 18) → IsSplitClose p m f n below t
rest_below p m f n t k below o u le low high few sure =
    let b = n * (p * 2 ^ f) in
    let a = 2 * 10 ^ 39 * m in
    let r = b - a in
    let s : r + a ≡ b = omega arith in
    let sk : r * k + a * k ≡ b * k = sym (add-mul r a k) ∙ ap (λ (j : ℕ). j * k) s in
    let most : r * k ≤ (t + 2 ^ 18) * (2 * 10 ^ 39) = omega arith in
    record { sign = true; rest = r; is = omega (arith, ints); small = rest_small t r f k o u few most; close = rest_close t r f k u (omega arith) most; sure = sure }

-- n quarters in parts
quarters_low : (p f n k : ℕ) → k * 2 ^ f ≡ 2 ^ 64 → IsBesidePi p → n * ((4 * 0xc90fdaa22168c235 - 1) * 10 ^ 39) ≤ n * (p * 2 ^ f) * k
quarters_low p f n k u i =
    let below = i.below in
    let a : (4 * 0xc90fdaa22168c235 - 1) * 10 ^ 39 ≤ p * 2 ^ 64 = omega arith in
    let b = mul-le-mul_left n a in
    let e : n * (p * 2 ^ f) * k ≡ n * p * 2 ^ 64 = omega (arith, ap (λ (j : ℕ). n * p * j) u) in
    omega arith

quarters_high : (p f n k : ℕ) → k * 2 ^ f ≡ 2 ^ 64 → IsBesidePi p → n * (p * 2 ^ f) * k ≤ n * (4 * 0xc90fdaa22168c235 * 10 ^ 39)
quarters_high p f n k u i =
    let above = i.above in
    let a : p * 2 ^ 64 ≤ 4 * 0xc90fdaa22168c235 * 10 ^ 39 = omega arith in
    let b = mul-le-mul_left n a in
    let e : n * (p * 2 ^ f) * k ≡ n * p * 2 ^ 64 = omega (arith, ap (λ (j : ℕ). n * p * j) u) in
    omega arith

-- the angle in parts
angle_is : (m f : ℕ) → f ≤ 32 → 2 * 10 ^ 39 * m * 2 ^ (64 - f) ≡ 2 * 10 ^ 39 * (2 * (m * 2 ^ (63 - f)))
angle_is m f l =
    let e = both (63 - f) 1 (64 - f) (omega arith) in
    let d = ap (λ (j : ℕ). 2 * 10 ^ 39 * m * j) e in
    omega (arith, d)

near_ahead : (p m f n t : ℕ) → f ≤ 32 → IsBesidePi p → IsBy m f n → n * 0xc90fdaa22168c235 ≤ m * 2 ^ (63 - f) → t ≡ m * 2 ^ (63 - f) - n * 0xc90fdaa22168c235 → IsSplitClose p m f n false (2 * t)
near_ahead p m f n t l i h le is =
    let k = 2 ^ (64 - f) in
    let o = pow_pos (64 - f) in
    let u = powers f (omega arith) in
    let few = h.few in
    let most = h.most in
    let low = quarters_low p f n k u i in
    let high = quarters_high p f n k u i in
    let e = angle_is m f l in
    let g : n * (p * 2 ^ f) * k ≤ 2 * 10 ^ 39 * m * k = omega arith in
    rest_above p m f n (2 * t) k false o u (le_of_mul-le-mul_right g o) (omega arith) (omega arith) (omega arith) (inl refl)

near_behind : (p m f n t : ℕ) → f ≤ 32 → IsBesidePi p → IsBy m f n → m * 2 ^ (63 - f) < n * 0xc90fdaa22168c235 → t ≡ n * 0xc90fdaa22168c235 - m * 2 ^ (63 - f) → IsSplitClose p m f n true (2 * t)
near_behind p m f n t l i h lt is =
    let k = 2 ^ (64 - f) in
    let o = pow_pos (64 - f) in
    let u = powers f (omega arith) in
    let few = h.few in
    let least = h.least in
    let low = quarters_low p f n k u i in
    let high = quarters_high p f n k u i in
    let e = angle_is m f l in
    elim (cases_lt (2 * 10 ^ 39 * m) (n * (p * 2 ^ f))) [
      | inl more ↦ rest_below p m f n (2 * t) k true o u (omega arith) (omega arith) (omega arith) (omega arith) (inl refl)
      | inr less ↦
          let g = mul-le-mul_right {m = n * (p * 2 ^ f)} {n = 2 * 10 ^ 39 * m} k less in
          rest_above p m f n (2 * t) k true o u less (omega arith) (omega arith) (omega arith) (inr (omega arith))
    ]

-- ---- c is taken from x, modulo 2^64
ahead_is : (x c : ℕ) → c ≤ x → x ≤ c + 0x6500000000000000 → (x % 2 ^ 64 + (2 ^ 64 - c % 2 ^ 64)) % 2 ^ 64 ≡ x - c
ahead_is x c le few = omega arith

behind_is : (x c : ℕ) → x < c → c ≤ x + 0x6500000000000000 → (x % 2 ^ 64 + (2 ^ 64 - c % 2 ^ 64)) % 2 ^ 64 ≡ 2 ^ 64 - (c - x)
behind_is x c lt few = omega arith

-- w is minus d, modulo 2^64
pub split_is : (p m f n d w t : ℕ) → f ≤ 32 → IsBesidePi p → IsBy m f n → d ≡ (m * 2 ^ (63 - f) % 2 ^ 64 + (2 ^ 64 - n * 0xc90fdaa22168c235 % 2 ^ 64)) % 2 ^ 64 → (w + d) % 2 ^ 64 ≡ 0 → w < 2 ^ 64
    → t ≡ (if nat_eq (d / 2 ^ 63) 1 then w else d) → IsSplitClose p m f n (nat_eq (d / 2 ^ 63) 1) (2 * t)
split_is p m f n d w t l i h is minus word t_is =
    let x = m * 2 ^ (63 - f) in
    let c = n * 0xc90fdaa22168c235 in
    elim (cases_lt x c) [
      | inl lt ↦
          let v = is ∙ behind_is x c lt h.least in
          let few = h.least in
          let one : d / 2 ^ 63 ≡ 1 = omega arith in
          let side : nat_eq (d / 2 ^ 63) 1 ≡ true = ap (λ (j : ℕ). nat_eq j 1) one in
          let e : t ≡ w = t_is ∙ ap (λ (b : Bool). if b then w else d) side in
          rw side (near_behind p m f n t l i h lt (omega arith))
      | inr le ↦
          let v = is ∙ ahead_is x c le h.most in
          let few = h.most in
          let none : d / 2 ^ 63 ≡ 0 = omega arith in
          let side : nat_eq (d / 2 ^ 63) 1 ≡ false = ap (λ (j : ℕ). nat_eq j 1) none in
          let e : t ≡ d = t_is ∙ ap (λ (b : Bool). if b then w else d) side in
          rw side (near_ahead p m f n t l i h le (omega arith))
    ]

pub split_small : (m f n d w t : ℕ) → IsBy m f n → d ≡ (m * 2 ^ (63 - f) % 2 ^ 64 + (2 ^ 64 - n * 0xc90fdaa22168c235 % 2 ^ 64)) % 2 ^ 64 → (w + d) % 2 ^ 64 ≡ 0 → w < 2 ^ 64
    → t ≡ (if nat_eq (d / 2 ^ 63) 1 then w else d) → 2 * t ≤ 0xca00000000000000
split_small m f n d w t h is minus word t_is =
    let x = m * 2 ^ (63 - f) in
    let c = n * 0xc90fdaa22168c235 in
    elim (cases_lt x c) [
      | inl lt ↦
          let v = is ∙ behind_is x c lt h.least in
          let few = h.least in
          let one : d / 2 ^ 63 ≡ 1 = omega arith in
          let side : nat_eq (d / 2 ^ 63) 1 ≡ true = ap (λ (j : ℕ). nat_eq j 1) one in
          let e : t ≡ w = t_is ∙ ap (λ (b : Bool). if b then w else d) side in
          omega arith
      | inr le ↦
          let v = is ∙ ahead_is x c le h.most in
          let few = h.most in
          let none : d / 2 ^ 63 ≡ 0 = omega arith in
          let side : nat_eq (d / 2 ^ 63) 1 ≡ false = ap (λ (j : ℕ). nat_eq j 1) none in
          let e : t ≡ d = t_is ∙ ap (λ (b : Bool). if b then w else d) side in
          omega arith
    ]

-- ---- sums, rounded: r is v, over 2^(64 - f), to the nearest
pub half_is : (f v r : ℕ) → f ≤ 32 → r ≡ (v / 2 ^ (63 - f) + 1) / 2 → IsRounded v (64 - f) r
half_is f v r l is =
    let e : 64 - f - 1 ≡ 63 - f = omega arith in
    let h = subst (λ (j : ℕ). IsRounded v (64 - f) ((v / 2 ^ j + 1) / 2)) e (rounded_half v (64 - f) (omega arith)) in
    subst (λ (j : ℕ). IsRounded v (64 - f) j) (sym is) h

unit_large : (f : ℕ) → f ≤ 32 → 2 ^ 32 ≤ 2 ^ (64 - f)
unit_large f l =
    let e = both (32 - f) 32 (64 - f) (omega arith) in
    let a : 1 * 2 ^ 32 ≤ 2 ^ (32 - f) * 2 ^ 32 = mul-le-mul_right (2 ^ 32) (pow_pos (32 - f)) in
    omega arith

pub fits_up : (f v : ℕ) → f ≤ 32 → v < 2 ^ 64 → v / 2 ^ (63 - f) + 1 < 2 ^ 64
fits_up f v l word =
    let p = 2 ^ (63 - f) in
    let e = both (32 - f) 31 (63 - f) (omega arith) in
    let a : 1 * 2 ^ 31 ≤ 2 ^ (32 - f) * 2 ^ 31 = mul-le-mul_right (2 ^ 31) (pow_pos (32 - f)) in
    let b : v / p * 2 ^ 31 ≤ v / p * p = mul-le-mul_left (v / p) (omega arith) in
    let c = quotient_low v p in
    omega arith

pub few_rounded : (f v r : ℕ) → f ≤ 32 → v ≤ 2 ^ 18 → IsRounded v (64 - f) r → r ≡ 0
few_rounded f v r l few round =
    let p = 2 ^ (64 - f) in
    let large = unit_large f l in
    let below = round.below in
    let a : 2 * r * p < 2 * p = omega arith in
    let b = lt_of_mul-lt-mul_right p a in
    omega arith

pub nearly_one_rounded : (f v r : ℕ) → f ≤ 32 → v ≡ 2 ^ 64 - 1 → r ≤ 2 ^ f → IsRounded v (64 - f) r → r ≡ 2 ^ f
nearly_one_rounded f v r l is most round =
    let p = 2 ^ (64 - f) in
    let large = unit_large f l in
    let all = powers f (omega arith) in
    let above = round.above in
    let a : 2 * 2 ^ f * p < (2 * r + 2) * p = omega arith in
    let b = lt_of_mul-lt-mul_right p a in
    omega arith

-- the angle is close to none
pub close_to_none : (x : ℕ) (y : Fraction) → 0 < y.den → IsClose (2 ^ 18) x y → y.num ≡ 0 → x ≤ 2 ^ 18
close_to_none x y some u none =
    let below = u.below in
    let a : x * y.den ≤ 2 ^ 18 * y.den = omega arith in
    le_of_mul-le-mul_right a some

pub sine_sum : (f v r x : ℕ) (y : Fraction) → f ≤ 32 → 0 < y.den → IsClose (2 ^ 18) x y → v < 2 ^ 64 → v ≤ x → ((n : ℕ) → IsClose (2 ^ 23) v (sine_series y (n + 10))) → IsRounded v (64 - f) r → IsSumAt sine_series 41 y f 0 r
sine_sum f v r x y l some u word few close round =
    sum_at sine_series 32 f 0 r v y (omega arith) close (omega arith) round (λ none. let h = close_to_none x y some u none in few_rounded f v r l (omega arith) round)

pub cosine_sum : (f v r x : ℕ) (y : Fraction) → f ≤ 32 → 0 < y.den → IsClose (2 ^ 18) x y → v < 2 ^ 64 → (x < 2 ^ 32 → v ≡ 2 ^ 64 - 1) → ((n : ℕ) → IsClose (2 ^ 23) v (cosine_series y (n + 10))) → IsRounded v (64 - f) r
    → IsSumAt cosine_series 41 y f (2 ^ f) r
cosine_sum f v r x y l some u word one close round =
    let most = rounded_most f v r (omega arith) (omega arith) round in
    sum_at cosine_series 32 f (2 ^ f) r v y (omega arith) close (omega arith) round (λ none. let h = close_to_none x y some u none in nearly_one_rounded f v r l (one (omega arith)) most round)

-- ---- the sine or the cosine, by the number of quarters
pub sine_is : (q f v r x : ℕ) (below sign t : Bool) → f ≤ 32 → q ≤ 4 → v < 2 ^ 64 → r ≡ (v / 2 ^ (63 - f) + 1) / 2 → (q % 2 ≡ 0 → sign ≡ below) → (q % 2 ≡ 1 → sign ≡ false) → ((q / 2 ≡ 1 → ⊥) → t ≡ sign) → (q / 2 ≡ 1 → t ≡ not sign)
    → (q % 2 ≡ 0 → (y : Fraction) (n : ℕ) → 0 < y.den → IsClose (2 ^ 18) x y → IsClose (2 ^ 23) v (sine_series y (n + 10))) → (q % 2 ≡ 1 → (y : Fraction) (n : ℕ) → 0 < y.den → IsClose (2 ^ 18) x y → IsClose (2 ^ 23) v (cosine_series y (n + 10)))
    → (q % 2 ≡ 0 → v ≤ x) → (q % 2 ≡ 1 → x < 2 ^ 32 → v ≡ 2 ^ 64 - 1) → IsSineClose q below x f (with_sign t r)
sine_is q f v r x below sign t l few word is even_sign odd_sign same other sine cosine least one b y some u sure = elim (cases_lt (q % 2) 1) [
  | inl lt ↦
      let even : q % 2 ≡ 0 = omega arith in
      let round = half_is f v r l is in
      let e = even_sign even in
      sine_by_sign 41 q f r y below t b few even (λ n. same n ∙ e) (λ o. other o ∙ ap not e) (sign_or_none b below x v r f l (least even) round sure)
      (sine_sum f v r x y l some u word (least even) (λ n. sine even y n some u) round)
  | inr ge ↦
      let odd : q % 2 ≡ 1 = omega arith in
      let round = half_is f v r l is in
      let e = odd_sign odd in
      cosine_at 41 q f r y b t few (λ even. omega arith) (λ n. same n ∙ e) (λ o. other o ∙ ap not e) (cosine_sum f v r x y l some u word (one odd) (λ n. cosine odd y n some u) round)
]
  where
    sign_or_none : (b below : Bool) (x v r f : ℕ) → f ≤ 32 → v ≤ x → IsRounded v (64 - f) r → (b ≡ below) ⊎ (x ≤ 2 ^ 18) → (b ≡ below) ⊎ (r ≡ 0)
    sign_or_none b below x v r f l few round (inl e) = inl e
    sign_or_none b below x v r f l few round (inr none) = inr (few_rounded f v r l (omega arith) round)

-- ---- the angle without whole turns
magnitude_below : (s : Bool) (n : ℕ) (x : ℤ) → 0 < n → InRange s n x → unsigned_abs x < 2 ^ n
magnitude_below true n x some h =
    let e = both (n - 1) 1 n (omega arith) in
    let o = pow_pos (n - 1) in
    omega (arith, ints, h.0, h.1)
magnitude_below false n x some h = let o = pow_pos n in omega (arith, ints, h.0, h.1)

pub magnitude_few : (s : Bool) (n f m : ℕ) (x : ℤ) → IsWidth n → n ≤ f + 19 → InRange s n x → m ≡ unsigned_abs x → m < 2 ^ (f + 19)
magnitude_few s n f m x width few fits is =
    let some : 0 < n = grind arith in
    let a = magnitude_below s n x some fits in
    let b = pow_mono {i = n} {j = f + 19} few in
    omega (arith, is)

with_pi : (p c m f n x : ℕ) (r : ℤ) (below : Bool) → IsSplitClose p m f n below x → IsSineClose (n % 4 + c) below x f r → IsSineWith p 41 c (pos m) f r
with_pi p c m f n x r below s near =
    let some = pow_pos f in
    record {
      turns = pos (n / 4);
      q = n % 4;
      below = s.sign;
      rest = s.rest;
      angle = record { is = s.is ∙ ap (λ (z : ℤ). z +ℤ with_sign s.sign s.rest) (sym (quarters_left n (p * 2 ^ f))); quarters = omega arith; small = s.small };
      sine = near s.sign (parts s.rest f) (omega arith) s.close s.sure;
    }

sine_of_magnitude : (m f n x : ℕ) (r : ℤ) (below : Bool) → ((p : ℕ) → IsBesidePi p → IsSplitClose p m f n below x) → IsSineClose (n % 4) below x f r → IsRadianSine 41 (pos m) f r
sine_of_magnitude m f n x r below s near =
    let e : n % 4 ≡ n % 4 + 0 = omega arith in
    let h = subst (λ (j : ℕ). IsSineClose j below x f r) e near in
    record { low = with_pi pi 0 m f n x r below (s pi pi_low) h; high = with_pi (pi + 1) 0 m f n x r below (s (pi + 1) pi_high) h }

cosine_of_magnitude : (m f n x : ℕ) (r : ℤ) (below : Bool) → ((p : ℕ) → IsBesidePi p → IsSplitClose p m f n below x) → IsSineClose (n % 4 + 1) below x f r → IsRadianCosine 41 (pos m) f r
cosine_of_magnitude m f n x r below s near = record { low = with_pi pi 1 m f n x r below (s pi pi_low) near; high = with_pi (pi + 1) 1 m f n x r below (s (pi + 1) pi_high) near }

-- ---- with the sign of the angle: a half turn changes that of the sine
half_turn : (k q f : ℕ) (b : Bool) (y : Fraction) (r : ℤ) → q ≤ 3 → IsSineBy k ((q + 2) % 4) b y f r → IsSineBy k q b y f (neg_ℤ r)
unfolding IsSineBy
half_turn k zero f b y r few h = h
half_turn k (suc zero) f b y r few h = h
half_turn k (suc (suc zero)) f b y r few h = subst (λ (z : ℤ). IsSineBy k 0 b y f z) (sym (twice_negated r)) h
half_turn k (suc (suc (suc zero))) f b y r few h = subst (λ (z : ℤ). IsSineBy k 1 b y f z) (sym (twice_negated r)) h
half_turn k (suc (suc (suc (suc q)))) f b y r few h = absurd (omega arith)

half_close : (q x f : ℕ) (r : ℤ) (below : Bool) → q ≤ 3 → IsSineClose ((q + 2) % 4) below x f r → IsSineClose q below x f (neg_ℤ r)
half_close q x f r below few near = λ b y some u sure. half_turn 41 q f b y r few (near b y some u sure)

pub sine_of : (a : ℤ) (m f n x h : ℕ) (r : ℤ) (neg below : Bool) → (IsTrue neg ↔ (a <ℤ pos 0)) → m ≡ unsigned_abs a → ((p : ℕ) → IsBesidePi p → IsSplitClose p m f n below x) → h ≡ (if neg then 2 else 0)
    → IsSineClose ((n % 4 + h) % 4) below x f r → IsRadianSine 41 a f r
sine_of a m f n x h r true below sign size s half near =
    let e = size_down a m (sign.0 refl) size in
    let c = subst (λ (j : ℕ). IsSineClose ((n % 4 + j) % 4) below x f r) half near in
    let d = sine_minus 41 f (pos m) (neg_ℤ r) (sine_of_magnitude m f n x (neg_ℤ r) below s (half_close (n % 4) x f r below (omega arith) c)) in
    subst (λ (z : ℤ). IsRadianSine 41 z f r) (sym e) (subst (λ (z : ℤ). IsRadianSine 41 (neg_ℤ (pos m)) f z) (twice_negated r) d)
sine_of a m f n x h r false below sign size s half near =
    let e = size_up a m (iff_false sign refl) size in
    let same : (n % 4 + h) % 4 ≡ n % 4 = omega arith in
    subst (λ (z : ℤ). IsRadianSine 41 z f r) (sym e) (sine_of_magnitude m f n x r below s (subst (λ (j : ℕ). IsSineClose j below x f r) same near))

signed_cosine : (a : ℤ) (m f : ℕ) (r : ℤ) → m ≡ unsigned_abs a → IsRadianCosine 41 (pos m) f r → IsRadianCosine 41 a f r
signed_cosine (pos n) m f r size h = subst (λ (j : ℕ). IsRadianCosine 41 (pos j) f r) size h
signed_cosine (negsuc n) m f r size h = cosine_even 41 f (pos (suc n)) r (subst (λ (j : ℕ). IsRadianCosine 41 (pos j) f r) size h)

pub cosine_of : (a : ℤ) (m f n x : ℕ) (r : ℤ) (below : Bool) → m ≡ unsigned_abs a → ((p : ℕ) → IsBesidePi p → IsSplitClose p m f n below x) → IsSineClose (n % 4 + 1) below x f r → IsRadianCosine 41 a f r
cosine_of a m f n x r below size s near = signed_cosine a m f r size (cosine_of_magnitude m f n x r below s near)
