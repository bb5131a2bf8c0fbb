-- Logarithms by factors, from the mantissa to the digits.
use Rattle.std.proofs.Common.{◌≡◌, ◌≢◌, ◌+◌, ◌-◌, ◌*◌, ◌/◌, ◌%◌, ◌^◌, ◌<◌, ◌≤◌, ℕ, zero, suc, T, refl, ap, sym, subst, ◌∙◌, inl, inr, arith}
use Rattle.std.specs.Prelude.{min}
use Rattle.std.proofs.Math.Nat.{le_of_mul-le-mul_right, mul-le-mul_left, mul-le-mul_right, pow-le-pow_left, pow-le-pow_right, pow-lt-pow_left, pow-suc}
use Rattle.std.proofs.lemmas.Nat.{div-add-mod', mod_below, mul-le, mul-pow, pow-add, pow_pos, shl_whole}
use Rattle.std.proofs.lemmas.Bool.{cases_lt}
use Rattle.fixed_elementary.specs.Enclosed.{IsEnclosed}
use Rattle.fixed_elementary.specs.inside.Digits.{IsFound}
use Rattle.fixed_elementary.specs.inside.Reduced.{IsClose, IsNearFactor, IsNearOne, IsOver}
use Rattle.fixed_elementary.specs.inside.Squaring.{IsMantissa}
use Rattle.fixed_elementary.proofs.Chains.{digits_found, found_between, reads}
use Rattle.fixed_elementary.proofs.LogLaws.{exponent_less}
use Rattle.fixed_elementary.proofs.Reading.{pow_times, read_none, root_le, root_lt}
use Rattle.fixed_elementary.proofs.Reduced.{over_on, power_some}
use Rattle.fixed_elementary.proofs.Rests.{IsUnit, rest_over}

-- ---- one factor brings a mantissa nearer to 1

digit_low : (r s d : ℕ) → 0 < s → d ≡ min (r / s) 127 → d * s ≤ r
digit_low r s d o e =
    let a = div-add-mod' r s in
    let few : d ≤ r / s = omega arith in
    let b = mul-le-mul_right s few in
    omega arith

digit_high : (r s d : ℕ) → 0 < s → d ≡ min (r / s) 127 → d < 127 → r < (d + 1) * s
digit_high r s d o e l =
    let a = div-add-mod' r s in
    let b = mod_below r s o in
    let same : d ≡ r / s = omega arith in
    rw same (omega arith)

pub step_near : (w v q g m d s c n : ℕ) → w ≡ v * 2 ^ 63 → s * (128 * q) ≡ w → 0 < s → 0 < q → d ≡ min ((m - w) / s) 127 → IsNearOne w v q g m → IsNearFactor (128 * q) d c
    → n * 2 ^ 63 ≤ m * c → m * c < (n + 1) * 2 ^ 63 → IsNearOne w v (128 * q) (g + 1) n
step_near w v q g m d s c n unit whole o some digit near f low high =
    let Q = 128 * q in
    let least = near.least in
    let r = m - w in
    let m_is : m ≡ w + r = omega arith in
    let x = mul-le-mul_right Q (digit_low r s d o digit) in
    let from : (Q + d) * w ≤ m * Q = begun Q d w r s m whole m_is x in
    let up : m * Q ≤ (Q + d + 1) * w + Q * (g * v) = elim (cases_lt d 127) [
      | inl less ↦ ended Q d w r s m g v whole m_is (digit_high r s d o digit less)
      | inr more ↦ let last : d ≡ 127 = omega arith in let most = near.most in rw last (omega arith)
    ] in
    record {
      least = one w Q m c n d (omega arith) from f.least high;
      most = bound w v Q g m c n d unit f.one f.most low up;
    }
  where
    begun : (Q d w r s m : ℕ) → s * Q ≡ w → m ≡ w + r → d * s * Q ≤ r * Q → (Q + d) * w ≤ m * Q
    begun Q d w r s m e f h = let t : d * w ≤ r * Q = rw (sym e) (omega arith) in rw f (omega arith)

    ended : (Q d w r s m g v : ℕ) → s * Q ≡ w → m ≡ w + r → r < (d + 1) * s → m * Q ≤ (Q + d + 1) * w + Q * (g * v)
    ended Q d w r s m g v e f h =
        let a : r ≤ (d + 1) * s = omega arith in
        let b = mul-le-mul_right Q a in
        let t : r * Q ≤ (d + 1) * w = rw (sym e) (omega arith) in
        rw f (omega arith)

    one : (w Q m c n d : ℕ) → 0 < Q → (Q + d) * w ≤ m * Q → 2 ^ 63 * Q ≤ (Q + d) * c → m * c < (n + 1) * 2 ^ 63 → w ≤ n
    one w Q m c n d o f g h =
        let a = mul-le-mul_right c f in
        let b = mul-le-mul_left w g in
        let t : w * 2 ^ 63 * Q ≤ m * c * Q = omega arith in
        let u = le_of_mul-le-mul_right t o in
        omega arith

    bound : (w v Q g m c n d : ℕ) → w ≡ v * 2 ^ 63 → c ≤ 2 ^ 63 → (Q + d + 1) * c ≤ 2 ^ 63 * (Q + 1) + Q → n * 2 ^ 63 ≤ m * c → m * Q ≤ (Q + d + 1) * w + Q * (g * v) → Q * n ≤ (Q + 1) * w + Q * ((g + 1) * v)
    bound w v Q g m c n d u one most low up =
        let a = mul-le-mul_right Q low in
        let b = mul-le-mul_right c up in
        let e = mul-le-mul_right w most in
        let h = mul-le-mul_left (Q * (g * v)) one in
        let x : n * 2 ^ 63 * Q ≤ (2 ^ 63 * (Q + 1) + Q) * w + Q * (g * v) * 2 ^ 63 = omega arith in
        let y : Q * w ≡ Q * v * 2 ^ 63 = rw u (omega arith) in
        let t : Q * n * 2 ^ 63 ≤ ((Q + 1) * w + Q * ((g + 1) * v)) * 2 ^ 63 = omega arith in
        le_of_mul-le-mul_right t (omega arith)

-- ---- the logarithm of 1 and one unit

unit_is : (h b n j a c s : ℕ) → a ≡ 2 ^ n + 1 → 2 ^ h * b ≡ 2 ^ j → s ≡ c + n * 2 ^ j → IsFound j a j s → IsUnit h (2 ^ n) b c
unit_is h b n j a c s e u sum found =
    let between = found_between j a j s (omega arith) found in
    let above = between.1 in
    let whole = pow_times 2 n (2 ^ j) in
    let low : 2 ^ s ≡ 2 ^ c * (2 ^ n) ^ 2 ^ j = ap (λ (k : ℕ). 2 ^ k) sum ∙ pow-add 2 c (n * 2 ^ j) ∙ ap (λ (k : ℕ). 2 ^ c * k) (sym whole) in
    let order : s + 2 ≡ c + 2 + n * 2 ^ j = omega arith in
    let high : 2 ^ (s + 2) ≡ 2 ^ (c + 2) * (2 ^ n) ^ 2 ^ j = ap (λ (k : ℕ). 2 ^ k) order ∙ pow-add 2 (c + 2) (n * 2 ^ j) ∙ ap (λ (k : ℕ). 2 ^ (c + 2) * k) (sym whole) in
    let below : 2 ^ c * (2 ^ n) ^ 2 ^ j ≤ (2 ^ n + 1) ^ 2 ^ j = subst (λ (k : ℕ). 2 ^ c * (2 ^ n) ^ 2 ^ j ≤ k ^ 2 ^ j) e (subst (λ (k : ℕ). k ≤ a ^ 2 ^ j) low between.0) in
    let most : (2 ^ n + 1) ^ 2 ^ j ≤ 2 ^ (c + 2) * (2 ^ n) ^ 2 ^ j = subst (λ (k : ℕ). k ^ 2 ^ j ≤ 2 ^ (c + 2) * (2 ^ n) ^ 2 ^ j) e (subst (λ (k : ℕ). a ^ 2 ^ j ≤ k) high (omega arith)) in
    record {
      below = subst (λ (k : ℕ). 2 ^ c * (2 ^ n) ^ k ≤ (2 ^ n + 1) ^ k) (sym u) below;
      above = subst (λ (k : ℕ). (2 ^ n + 1) ^ k ≤ 2 ^ (c + 2) * (2 ^ n) ^ k) (sym u) most;
    }

-- a mantissa of j + 2 bits reads j digits
pub unit_read : (h b n j m w c s : ℕ) → 2 ^ h * b ≡ 2 ^ j → s ≡ c + n * 2 ^ j → w ≡ 2 ^ (j + 1) → w ≡ 2 ^ n * m → m < w → n ≤ 127 → T (reads j w n (w + m) s s) → IsUnit h (2 ^ n) b c
unit_read h b n j m w c s u sum size whole small few t =
    let o : 0 < w = omega (arith, pow_pos (j + 1)) in
    let value : 2 ^ n * (w + m) ≡ (2 ^ n + 1) * w = omega arith in
    let start : IsMantissa w (2 ^ n + 1) n (w + m) = record { least = omega arith; most = omega arith; digits = omega arith; value = value } in
    unit_is h b n j (2 ^ n + 1) c s refl u sum (digits_found j w (2 ^ n + 1) j n (w + m) s size (read_none w (2 ^ n + 1) n (w + m) o start) t)

narrow_unit : IsUnit 62 (2 ^ 63) (2 ^ 64) 0xb8aa3b295c17f0bb
narrow_unit = unit_read 62 (2 ^ 64) 63 126 (2 ^ 64) (2 ^ 127) 0xb8aa3b295c17f0bb (0xb8aa3b295c17f0bb + 63 * 2 ^ 126) refl refl refl refl (omega arith) (omega arith) tt

broad_unit : IsUnit 126 (2 ^ 127) (2 ^ 128) 0xb8aa3b295c17f0bbbe87fed0691d3e88
broad_unit = unit_read 126 (2 ^ 128) 127 254 (2 ^ 128) (2 ^ 255) 0xb8aa3b295c17f0bbbe87fed0691d3e88 (0xb8aa3b295c17f0bbbe87fed0691d3e88 + 127 * 2 ^ 254) refl refl refl refl (omega arith) (omega arith) tt

-- ---- the steps of the two mantissas

next_group : (g : ℕ) → 128 * 128 ^ g ≡ 128 ^ (g + 1)
next_group g = let e : g + 1 ≡ suc g = omega arith in rw e (omega (arith, pow-suc 128 g))

narrow_scale : (g : ℕ) → g < 3 → 2 ^ (56 - 7 * g) * (128 * 128 ^ g) ≡ 2 ^ 63
narrow_scale zero l = refl
narrow_scale (suc zero) l = refl
narrow_scale (suc (suc zero)) l = refl
narrow_scale (suc (suc (suc g))) l = absurd (omega arith)

broad_scale : (g : ℕ) → g < 6 → 2 ^ (120 - 7 * g) * (128 * 128 ^ g) ≡ 2 ^ 127
broad_scale zero l = refl
broad_scale (suc zero) l = refl
broad_scale (suc (suc zero)) l = refl
broad_scale (suc (suc (suc zero))) l = refl
broad_scale (suc (suc (suc (suc zero)))) l = refl
broad_scale (suc (suc (suc (suc (suc zero))))) l = refl
broad_scale (suc (suc (suc (suc (suc (suc g)))))) l = absurd (omega arith)

pub narrow_near : (g m d c n : ℕ) → g < 3 → d ≡ min ((m - 2 ^ 63) / 2 ^ (56 - 7 * g)) 127 → IsNearOne (2 ^ 63) 1 (128 ^ g) g m → IsNearFactor (128 ^ (g + 1)) d c
    → n * 2 ^ 63 ≤ m * c → m * c < (n + 1) * 2 ^ 63 → IsNearOne (2 ^ 63) 1 (128 ^ (g + 1)) (g + 1) n
narrow_near g m d c n few digit near factor low high =
    let e = next_group g in
    let f = subst (λ (q : ℕ). IsNearFactor q d c) (sym e) factor in
    subst (λ (q : ℕ). IsNearOne (2 ^ 63) 1 q (g + 1) n) e
    (step_near (2 ^ 63) 1 (128 ^ g) g m d (2 ^ (56 - 7 * g)) c n refl (narrow_scale g few) (pow_pos (56 - 7 * g)) (power_some 128 g (omega arith)) digit near f low high)

pub broad_near : (g m d c n : ℕ) → g < 6 → d ≡ min ((m - 2 ^ 127) / 2 ^ (120 - 7 * g)) 127 → IsNearOne (2 ^ 127) (2 ^ 64) (128 ^ g) g m → IsNearFactor (128 ^ (g + 1)) d c
    → n * 2 ^ 63 ≤ m * c → m * c < (n + 1) * 2 ^ 63 → IsNearOne (2 ^ 127) (2 ^ 64) (128 ^ (g + 1)) (g + 1) n
broad_near g m d c n few digit near factor low high =
    let e = next_group g in
    let f = subst (λ (q : ℕ). IsNearFactor q d c) (sym e) factor in
    subst (λ (q : ℕ). IsNearOne (2 ^ 127) (2 ^ 64) q (g + 1) n) e
    (step_near (2 ^ 127) (2 ^ 64) (128 ^ g) g m d (2 ^ (120 - 7 * g)) c n refl (broad_scale g few) (pow_pos (120 - 7 * g)) (power_some 128 g (omega arith)) digit near f low high)

pub begun_near : (w v m : ℕ) → w ≤ m → m < 2 * w → IsNearOne w v 1 0 m
begun_near w v m least most = record { least = least; most = omega arith }

-- ---- what is left

pub left_small : (w v q i m k : ℕ) → IsNearOne w v q i m → q * k ≡ w + q * (i * v) → 0 < q → m - w ≤ k
left_small w v q i m k near e o =
    let most = near.most in
    let t : m * q ≤ (w + k) * q = omega arith in
    let s = le_of_mul-le-mul_right t o in
    omega arith

cube_most : (u k : ℕ) → u ≤ k → u * u * u ≤ k * k * k
cube_most u k h = let a = mul-le u u k k h h in mul-le (u * u) u (k * k) k a h

pub narrow_rest_is : (u q i t : ℕ) → u ≤ 5 * 2 ^ 40 → q * 2 ^ 64 ≤ u * u → u * u < (q + 1) * 2 ^ 64 → i ≡ u - (q + 1) → t * 2 ^ 64 ≤ i * 0xb8aa3b295c17f0bb → i * 0xb8aa3b295c17f0bb < (t + 1) * 2 ^ 64
    → IsOver 62 5 (2 ^ 63 + u) (2 ^ 63) t
narrow_rest_is u q i t few low high e t_low t_high =
    let cube = cube_most u (5 * 2 ^ 40) few in
    rest_over 62 (2 ^ 63) u q i (2 ^ 64) 0xb8aa3b295c17f0bb t (omega arith) (omega arith) (omega arith) (omega arith) (omega arith) (omega arith) (omega arith) (omega arith) (omega arith) e t_low t_high narrow_unit

pub broad_rest_is : (u q i t : ℕ) → u ≤ 5 * 2 ^ 83 → q * 2 ^ 128 ≤ u * u → u * u < (q + 1) * 2 ^ 128 → i ≡ u - (q + 1) → t * 2 ^ 128 ≤ i * 0xb8aa3b295c17f0bbbe87fed0691d3e88 → i * 0xb8aa3b295c17f0bbbe87fed0691d3e88 < (t + 1) * 2 ^ 128
    → IsOver 126 5 (2 ^ 127 + u) (2 ^ 127) t
broad_rest_is u q i t few low high e t_low t_high =
    let cube = cube_most u (5 * 2 ^ 83) few in
    rest_over 126 (2 ^ 127) u q i (2 ^ 128) 0xb8aa3b295c17f0bbbe87fed0691d3e88 t (omega arith) (omega arith) (omega arith) (omega arith) (omega arith) (omega arith) (omega arith) (omega arith) (omega arith) e t_low t_high broad_unit

pub rest_small : (i t c b : ℕ) → c ≤ b → 0 < b → t * b ≤ i * c → t ≤ i
rest_small i t c b h o l = let a = mul-le-mul_left i h in let s : t * b ≤ i * b = omega arith in le_of_mul-le-mul_right s o

pub sum_small : (l t r m w k b : ℕ) → l ≤ b → t ≤ r → r ≡ m - w → m - w ≤ k → k ≤ b → l + t ≤ 2 * b
sum_small l t r m w k b f g e h s = omega arith

-- ---- the logarithm

pub close_is : (h e w m n a d l t k : ℕ) → 0 < w → IsMantissa w a d m → IsOver h e m n l → IsOver h k n w t → IsClose h (e + k) a d (l + t)
close_is h e w m n a d l t k o whole first last =
    let N = 2 ^ h in
    let all = over_on h e k m n w l t first last in
    let a_is = mul-pow a w N in
    let m_is = mul-pow (2 ^ d) m N in
    let same : (2 ^ d * m) ^ N ≡ (a * w) ^ N = ap (λ (x : ℕ). x ^ N) whole.value in
    let d_is = pow_times 2 d N in
    let order : d * N + (l + t) + (e + k) ≡ d * N + (l + t + (e + k)) = omega arith in
    let p = pow-add 2 (d * N) (l + t) in
    let q = pow-add 2 (d * N) (l + t + (e + k)) in
    let value : 2 ^ (d * N) * m ^ N ≡ a ^ N * w ^ N = rw (sym d_is) (sym m_is ∙ same ∙ a_is) in
    let x = mul-le-mul_left (2 ^ (d * N)) all.below in
    let y = mul-le-mul_left (2 ^ (d * N)) all.above in
    let s : 2 ^ (d * N + (l + t)) * w ^ N ≤ a ^ N * w ^ N = rw p (omega arith) in
    let u : a ^ N * w ^ N ≤ 2 ^ (d * N + (l + t) + (e + k)) * w ^ N = rw (order, q) (omega arith) in
    record {
      below = le_of_mul-le-mul_right s (power_some w N o);
      above = le_of_mul-le-mul_right u (power_some w N o);
    }

pub log_is_close : (h e w m n r a d l t k : ℕ) → 0 < w → w ≤ n → r ≡ n - w → IsMantissa w a d m → IsOver h e m n l → IsOver h k (w + r) w t → IsClose h (e + k) a d (l + t)
log_is_close h e w m n r a d l t k o least rest whole first last =
    let same : w + r ≡ n = omega arith in
    close_is h e w m n a d l t k o whole first (subst (λ (x : ℕ). IsOver h k x w t) same last)

-- ---- with fewer digits

-- the digits before place p, where a unit has 2^j of those after it
fewer : (p j d s r : ℕ) → r ≡ d * 2 ^ p + s / 2 ^ j → (r * 2 ^ j ≤ d * 2 ^ (p + j) + s) × (d * 2 ^ (p + j) + s < (r + 1) * 2 ^ j)
fewer p j d s r e =
    let a = div-add-mod' s (2 ^ j) in
    let b = mod_below s (2 ^ j) (pow_pos j) in
    let whole = pow-add 2 p j in
    (rw (e, whole) (omega arith), rw (e, whole) (omega arith))

raised_low : (p j a r s : ℕ) → r * 2 ^ j ≤ s → 2 ^ s ≤ a ^ 2 ^ (p + j) → 2 ^ r ≤ a ^ 2 ^ p
raised_low p j a r s h l =
    let e = ap (λ (k : ℕ). a ^ k) (pow-add 2 p j) ∙ sym (pow_times a (2 ^ p) (2 ^ j)) in
    let x : 2 ^ (r * 2 ^ j) ≤ 2 ^ s = pow-le-pow_right {n = 2} (omega arith) h in
    let t : (2 ^ r) ^ 2 ^ j ≤ (a ^ 2 ^ p) ^ 2 ^ j = rw (pow_times 2 r (2 ^ j), sym e) (omega arith) in
    root_le (2 ^ r) (a ^ 2 ^ p) (2 ^ j) (pow_pos j) t

raised_high : (p j a r s : ℕ) → s < r * 2 ^ j → a ^ 2 ^ (p + j) ≤ 2 ^ s → a ^ 2 ^ p < 2 ^ r
raised_high p j a r s h l =
    let e = ap (λ (k : ℕ). a ^ k) (pow-add 2 p j) ∙ sym (pow_times a (2 ^ p) (2 ^ j)) in
    let x : 2 ^ suc s ≤ 2 ^ (r * 2 ^ j) = pow-le-pow_right {n = 2} (omega arith) {i = suc s} {j = r * 2 ^ j} h in
    let y = pow-suc 2 s in
    let z = pow_pos s in
    let t : (a ^ 2 ^ p) ^ 2 ^ j < (2 ^ r) ^ 2 ^ j = rw (pow_times 2 r (2 ^ j), sym e) (omega arith) in
    root_lt (a ^ 2 ^ p) (2 ^ r) (2 ^ j) t

pub digits_moved : (d p w : ℕ) → d ≤ 63 → p + 6 ≤ w → d * 2 ^ p % 2 ^ w ≡ d * 2 ^ p
digits_moved d p w few h = shl_whole d 6 p w (omega arith) (omega arith)

pub units_fit : (d p s j k : ℕ) → d ≤ 63 → p ≤ k → 5 ≤ j → d * 2 ^ p + s / 2 ^ j ≤ 63 * 2 ^ k + s / 32
units_fit d p s j k few h l =
    let a : 2 ^ p ≤ 2 ^ k = pow-le-pow_right {n = 2} (omega arith) h in
    let b : 2 ^ 5 ≤ 2 ^ j = pow-le-pow_right {n = 2} (omega arith) {i = 5} {j = j} l in
    let c = mul-le d (2 ^ p) 63 (2 ^ k) few a in
    let e = div-add-mod' s (2 ^ j) in
    let f = mul-le-mul_left (s / 2 ^ j) b in
    omega arith

pub enclosed_is : (p j e a d s r h : ℕ) → h ≡ p + j → e ≤ 32 → 5 ≤ j → a < 2 ^ 64 → r ≡ d * 2 ^ p + s / 2 ^ j → IsClose h e a d s → IsEnclosed a p r
enclosed_is p j e a d s r h sum few many small value close =
    let most : 2 ^ 5 ≤ 2 ^ j = pow-le-pow_right {n = 2} (omega arith) {i = 5} {j = j} many in
    let same = subst (λ (k : ℕ). IsClose k e a d s) sum close in
    let both = fewer p j d s r value in
    let low = raised_low p j a r (d * 2 ^ (p + j) + s) both.0 same.below in
    let past : d * 2 ^ (p + j) + s + e < (r + 2) * 2 ^ j = let b = both.1 in omega arith in
    record {
      below = low;
      above = raised_high p j a (r + 2) (d * 2 ^ (p + j) + s + e) past same.above;
      digits = last a p r small low;
    }
  where
    last : (a p r : ℕ) → a < 2 ^ 64 → 2 ^ r ≤ a ^ 2 ^ p → r + 1 ≤ 64 * 2 ^ p
    last a p r small low =
        let some : 2 ^ p ≢ zero = λ e. absurd (omega (arith, pow_pos p)) in
        let x = pow-lt-pow_left small some in
        let y = pow_times 2 64 (2 ^ p) in
        let z : 2 ^ r < 2 ^ (64 * 2 ^ p) = rw (sym y) (omega arith) in
        let t = exponent_less r (64 * 2 ^ p) z in
        omega arith

pub found_is : (p j e a d s r h room : ℕ) → h ≡ p + j → r ≡ d * 2 ^ p + s / 2 ^ j → r ≡ d * 2 ^ p + (s + e) / 2 ^ j → IsClose h e a d s → IsFound room a p r
found_is p j e a d s r h room sum value most close =
    let same = subst (λ (k : ℕ). IsClose k e a d s) sum close in
    let both = fewer p j d s r value in
    let other = fewer p j d (s + e) r most in
    let low = raised_low p j a r (d * 2 ^ (p + j) + s) both.0 same.below in
    let past : d * 2 ^ (p + j) + s + e < (r + 1) * 2 ^ j = let b = other.1 in omega arith in
    let high = raised_high p j a (r + 1) (d * 2 ^ (p + j) + s + e) past same.above in
    record {
      near = λ k l. record { below = low; above = times a p k r high };
      exact = λ i e. power a p r i e low high;
    }
  where
    times : (a p k r : ℕ) → a ^ 2 ^ p < 2 ^ (r + 1) → a ^ (2 ^ p * 2 ^ k) < 2 ^ ((r + 1) * 2 ^ k + 1)
    times a p k r h =
        let most : a ^ 2 ^ p ≤ 2 ^ (r + 1) = omega arith in
        let x = pow-le-pow_left most (2 ^ k) in
        let y = pow_times a (2 ^ p) (2 ^ k) in
        let z = pow_times 2 (r + 1) (2 ^ k) in
        let t = pow-add 2 ((r + 1) * 2 ^ k) 1 in
        let o = pow_pos ((r + 1) * 2 ^ k) in
        rw (sym y, t, sym z) (omega (arith, z))

    power : (a p r i : ℕ) → a ≡ 2 ^ i → 2 ^ r ≤ a ^ 2 ^ p → a ^ 2 ^ p < 2 ^ (r + 1) → r ≡ i * 2 ^ p
    power a p r i e low high =
        let x : a ^ 2 ^ p ≡ 2 ^ (i * 2 ^ p) = ap (λ (k : ℕ). k ^ 2 ^ p) e ∙ pow_times 2 i (2 ^ p) in
        let y = pow-add 2 (i * 2 ^ p) 1 in
        let o = pow_pos (i * 2 ^ p) in
        let less = exponent_less r (i * 2 ^ p + 1) (omega arith) in
        let more = exponent_less (i * 2 ^ p) (r + 1) (omega arith) in
        omega arith
