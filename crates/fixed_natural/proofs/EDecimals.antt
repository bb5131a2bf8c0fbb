-- The decimals of the logarithm of e, which lies between s / t and (s + 1) / t.
use Rattle.std.proofs.Common.{◌≡◌, ◌+◌, ◌*◌, ◌/◌, ◌-◌, ◌^◌, ◌<◌, ◌≤◌, ℕ, suc, refl, ap, sym, ◌∙◌, arith}
use Rattle.std.proofs.lemmas.Nat.{mul-le, mul-pow, pow-add, pow_pos}
use Rattle.std.proofs.Math.Nat.{le_of_mul-le-mul_right, mul-le-mul_right, mul-le-mul_left, one-le-pow, pow-le-pow_left, pow-le-pow_right, pow-suc, pow-zero}
use Rattle.fixed_elementary.specs.inside.Squaring.{IsSquared}
use Rattle.fixed_elementary.proofs.Chains.{Ends, all_read}
use Rattle.fixed_elementary.proofs.Reading.{doubled, pow_times, root_le, twice_more, twice_power}
use Rattle.fixed_elementary.proofs.Squarings.{growth_within, lower, upper}
use Rattle.fixed_natural.specs.Bases.{decimals, e_sum, factorial, log2_e}

-- i digits were read
record IsRatio (w s t i d m : ℕ) : Type 0 where
  turns : ℕ
  turns_are : turns + 1 ≡ 3 * 2 ^ i
  least : w ≤ m
  most : m < 2 * w
  below : 2 ^ d * t ^ 2 ^ i * m ≤ s ^ 2 ^ i * w
  above : (s + 1) ^ 2 ^ i * w * w ^ turns ≤ 2 ^ d * t ^ 2 ^ i * m * (w + 1) ^ turns

ratio_turn : (w s t i d m n b : ℕ) → 0 < w → IsRatio w s t i d m → IsSquared w m b n → IsRatio w s t (i + 1) (2 * d + b) n
ratio_turn w s t i d m n b o h k =
    let next : i + 1 ≡ suc i = omega arith in
    let c = h.turns in
    let q = h.turns_are in
    let p = pow-suc 2 i in
    let P = 2 ^ d * t ^ 2 ^ i in
    let lo = lower (s ^ 2 ^ i) P m n w (2 ^ b) o h.below k.below in
    let hi = upper ((s + 1) ^ 2 ^ i) P m n w (2 ^ b) ((w + 1) ^ c) (w ^ c) o k.least h.above k.above in
    let e = doubled d b in
    let f = twice_power t i in
    let g = twice_power s i in
    let j = twice_power (s + 1) i in
    let x = twice_more w c in
    let y = twice_more (w + 1) c in
    let fold : 2 ^ (2 * d + b) * t ^ 2 ^ suc i ≡ P * P * 2 ^ b = rw (e, f) (omega arith) in
    rw next (record {
      turns = c + c + 1;
      turns_are = omega arith;
      least = k.least;
      most = k.most;
      below = rw (fold, g) lo;
      above = rw (fold, j, sym x, sym y) hi;
    })

ratio_begun : (w s t m : ℕ) → w ≤ m → m < 2 * w → 2 * t * m ≤ s * w → (s + 1) * w * (w * w) ≤ 2 * t * m * ((w + 1) * (w + 1)) → IsRatio w s t 0 1 m
ratio_begun w s t m l u f g =
    let one : 2 ^ 0 ≡ 1 = refl in
    let two : 2 ^ 1 ≡ 2 = refl in
    let first : (x : ℕ) → x ^ 1 ≡ x = λ x. pow-suc x 0 ∙ ap (λ n. n * x) (pow-zero x) ∙ omega arith in
    let square : (x : ℕ) → x ^ 2 ≡ x * x = λ x. pow-suc x 1 ∙ ap (λ n. n * x) (first x) in
    let a = first s in
    let b = first (s + 1) in
    let c = first t in
    let d = square w in
    let e = square (w + 1) in
    record {
      turns = 2;
      turns_are = refl;
      least = l;
      most = u;
      below = rw (one, two, a, c) f;
      above = rw (one, two, b, c, d, e) g;
    }

ratio_most : (w s t h d m : ℕ) → 0 < w → 2 * (3 * 2 ^ h) ≤ w → IsRatio w s t h d m → (s + 1) ^ 2 ^ h ≤ 2 ^ (d + 2) * t ^ 2 ^ h
ratio_most w s t h d m o few r =
    let c = r.turns in
    let q = r.turns_are in
    let P = 2 ^ d * t ^ 2 ^ h in
    let a = mul-le-mul_left P (growth_within w c o (omega arith)) in
    let b : P * m ≤ P * (2 * w) = mul-le-mul_left P (omega (arith, r.most)) in
    let e = mul-le-mul_right ((w + 1) ^ c) b in
    let f = mul-le-mul_right (2 * w) a in
    let k : (s + 1) ^ 2 ^ h * (w * w ^ c) ≤ 4 * P * (w * w ^ c) = omega (arith, r.above) in
    let some = mul-le 1 1 w (w ^ c) o (one-le-pow c w o) in
    let z = le_of_mul-le-mul_right k some in
    let i = pow-add 2 d 2 in
    let four : 2 ^ 2 ≡ 4 = refl in
    rw i (omega arith)

ratio_least : (w s t h d m : ℕ) → 0 < w → IsRatio w s t h d m → 2 ^ d * t ^ 2 ^ h ≤ s ^ 2 ^ h
ratio_least w s t h d m o r =
    let a = mul-le-mul_left (2 ^ d * t ^ 2 ^ h) r.least in
    let b : 2 ^ d * t ^ 2 ^ h * w ≤ s ^ 2 ^ h * w = omega (arith, r.below) in
    le_of_mul-le-mul_right b o

-- (x ^ h) ^ q, with h and q exchanged
swap : (x h q : ℕ) → (x ^ h) ^ q ≡ (x ^ q) ^ h
swap x h q = pow_times x h q ∙ (let k : h * q ≡ q * h = omega arith in ap (λ n. x ^ n) k) ∙ sym (pow_times x q h)

between_from : (w s t h low high p q : ℕ) → 0 < w → 2 * (3 * 2 ^ h) ≤ w → Ends (IsRatio w s t) h low high → p * 2 ^ h ≤ low * q → (high + 2) * q ≤ (p + 1) * 2 ^ h
    → (2 ^ p * t ^ q ≤ s ^ q) × ((s + 1) ^ q ≤ 2 ^ (p + 1) * t ^ q)
between_from w s t h low high p q o few e f g =
    let H = 2 ^ h in
    let x = ratio_least w s t h e.d e.m o e.read in
    let y = ratio_most w s t h e.d e.m o few e.read in
    let i = mul-le-mul_right q e.least in
    let j = mul-le-mul_right q e.most in
    let a : (2 ^ e.d * t ^ H) ^ q ≤ (s ^ H) ^ q = pow-le-pow_left x q in
    let b : ((s + 1) ^ H) ^ q ≤ (2 ^ (e.d + 2) * t ^ H) ^ q = pow-le-pow_left y q in
    let c : (2 ^ e.d * t ^ H) ^ q ≡ 2 ^ (e.d * q) * (t ^ q) ^ H = mul-pow (2 ^ e.d) (t ^ H) q ∙ ap (λ n. n * (t ^ H) ^ q) (pow_times 2 e.d q) ∙ ap (λ n. 2 ^ (e.d * q) * n) (swap t H q) in
    let d : (2 ^ (e.d + 2) * t ^ H) ^ q ≡ 2 ^ ((e.d + 2) * q) * (t ^ q) ^ H = mul-pow (2 ^ (e.d + 2)) (t ^ H) q ∙ ap (λ n. n * (t ^ H) ^ q) (pow_times 2 (e.d + 2) q) ∙ ap (λ n. 2 ^ ((e.d + 2) * q) * n) (swap t H q) in
    let k : 2 ^ (p * H) ≤ 2 ^ (e.d * q) = pow-le-pow_right {n = 2} (omega arith) {i = p * H} {j = e.d * q} (omega arith) in
    let l : 2 ^ ((e.d + 2) * q) ≤ 2 ^ ((p + 1) * H) = pow-le-pow_right {n = 2} (omega arith) {i = (e.d + 2) * q} {j = (p + 1) * H} (omega arith) in
    let m = mul-le-mul_right ((t ^ q) ^ H) k in
    let n = mul-le-mul_right ((t ^ q) ^ H) l in
    let u : (2 ^ p * t ^ q) ^ H ≡ 2 ^ (p * H) * (t ^ q) ^ H = mul-pow (2 ^ p) (t ^ q) H ∙ ap (λ z. z * (t ^ q) ^ H) (pow_times 2 p H) in
    let v : (2 ^ (p + 1) * t ^ q) ^ H ≡ 2 ^ ((p + 1) * H) * (t ^ q) ^ H = mul-pow (2 ^ (p + 1)) (t ^ q) H ∙ ap (λ z. z * (t ^ q) ^ H) (pow_times 2 (p + 1) H) in
    let r = swap s H q in
    let r2 = swap (s + 1) H q in
    let low_root : (2 ^ p * t ^ q) ^ H ≤ (s ^ q) ^ H = omega arith in
    let high_root : ((s + 1) ^ q) ^ H ≤ (2 ^ (p + 1) * t ^ q) ^ H = omega arith in
    (root_le (2 ^ p * t ^ q) (s ^ q) H (pow_pos h) low_root, root_le ((s + 1) ^ q) (2 ^ (p + 1) * t ^ q) H (pow_pos h) high_root)

start : IsRatio (2 ^ 157) (e_sum 40) (factorial 40) 0 1 (e_sum 40 * 2 ^ 157 / (2 * factorial 40))
start = ratio_begun (2 ^ 157) (e_sum 40) (factorial 40) (e_sum 40 * 2 ^ 157 / (2 * factorial 40)) (omega arith) (omega arith) (omega arith) (omega arith)

ends : Ends (IsRatio (2 ^ 157) (e_sum 40) (factorial 40)) 150 (log2_e * 2 ^ 150 / decimals + 1) ((log2_e + 1) * 2 ^ 150 / decimals - 2)
ends = all_read (IsRatio (2 ^ 157) (e_sum 40) (factorial 40)) 150 (2 ^ 157) 0 1 (e_sum 40 * 2 ^ 157 / (2 * factorial 40)) (log2_e * 2 ^ 150 / decimals + 1) ((log2_e + 1) * 2 ^ 150 / decimals - 2) (omega arith) (record { bounds = λ i d m h. (h.least, h.most); turn = λ i d m n b h x. ratio_turn (2 ^ 157) (e_sum 40) (factorial 40) i d m n b (omega arith) h x }) start tt

pub e_between : (p q : ℕ) → p ≡ log2_e → q ≡ decimals → (2 ^ p * factorial 40 ^ q ≤ e_sum 40 ^ q) × ((e_sum 40 + 1) ^ q ≤ 2 ^ (p + 1) * factorial 40 ^ q)
e_between p q e f = between_from (2 ^ 157) (e_sum 40) (factorial 40) 150 (log2_e * 2 ^ 150 / decimals + 1) ((log2_e + 1) * 2 ^ 150 / decimals - 2) p q (omega arith) (omega arith) ends (rw (e, f) (omega arith)) (rw (e, f) (omega arith))
