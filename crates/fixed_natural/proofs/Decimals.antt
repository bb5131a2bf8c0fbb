-- The decimals of the logarithm of 10, by squaring a mantissa of 301 bits 150 times.
use Rattle.std.proofs.Common.{◌≡◌, ◌+◌, ◌*◌, ◌/◌, ◌-◌, ◌^◌, ◌<◌, ◌≤◌, ℕ, ℤ, pos, refl, ap, sym, ◌∙◌, arith}
use Rattle.std.proofs.lemmas.Nat.{pow_pos}
use Rattle.std.proofs.Math.Nat.{mul-le-mul_right, pow-le-pow_left, pow-le-pow_right, pow-lt-pow_left}
use Rattle.fixed_elementary.specs.inside.Squaring.{IsMantissa}
use Rattle.fixed_elementary.specs.inside.Digits.{IsRead}
use Rattle.fixed_elementary.proofs.Chains.{Ends, all_read, found_between}
use Rattle.fixed_elementary.proofs.Reading.{pow_times, read_all, read_none, read_turn, root_le, root_lt}
use Rattle.fixed_natural.specs.Bases.{decimals, log2_10}
use Rattle.fixed_natural.specs.Logs.{IsLog10, IsLogTo}
use Rattle.fixed_natural.proofs.NaturalLaws.{log_of_power}

-- from digits to decimals
decimals_from : (room w a h low high p q : ℕ) → w ≡ 2 ^ (room + 1) → h ≤ room → Ends (IsRead w a) h low high → 0 < q → p * 2 ^ h ≤ low * q → (high + 2) * q ≤ (p + 1) * 2 ^ h → (2 ^ p ≤ a ^ q) × (a ^ q < 2 ^ (p + 1))
decimals_from room w a h low high p q u l e o f g =
    let x = found_between room a h e.d l (read_all room w a h h e.d e.m u refl e.read) in
    let s = mul-le-mul_right q e.least in
    let t = mul-le-mul_right q e.most in
    let swap : (a ^ 2 ^ h) ^ q ≡ (a ^ q) ^ 2 ^ h = pow_times a (2 ^ h) q ∙ (let k : 2 ^ h * q ≡ q * 2 ^ h = omega arith in ap (λ n. a ^ n) k) ∙ sym (pow_times a q (2 ^ h)) in
    let b : (2 ^ e.d) ^ q ≤ (a ^ 2 ^ h) ^ q = pow-le-pow_left x.0 q in
    let c : (a ^ 2 ^ h) ^ q < (2 ^ (e.d + 2)) ^ q = pow-lt-pow_left x.1 (omega arith) in
    let i = pow_times 2 e.d q in
    let j = pow_times 2 (e.d + 2) q in
    let m = pow_times 2 p (2 ^ h) in
    let n = pow_times 2 (p + 1) (2 ^ h) in
    let y : 2 ^ (p * 2 ^ h) ≤ 2 ^ (e.d * q) = pow-le-pow_right {n = 2} (omega arith) {i = p * 2 ^ h} {j = e.d * q} (omega arith) in
    let z : 2 ^ ((e.d + 2) * q) ≤ 2 ^ ((p + 1) * 2 ^ h) = pow-le-pow_right {n = 2} (omega arith) {i = (e.d + 2) * q} {j = (p + 1) * 2 ^ h} (omega arith) in
    let v : (2 ^ p) ^ 2 ^ h ≤ (a ^ q) ^ 2 ^ h = rw m (omega arith) in
    let w2 : (a ^ q) ^ 2 ^ h < (2 ^ (p + 1)) ^ 2 ^ h = rw n (omega arith) in
    (root_le (2 ^ p) (a ^ q) (2 ^ h) (pow_pos h) v, root_lt (a ^ q) (2 ^ (p + 1)) (2 ^ h) w2)

begun : IsMantissa (2 ^ 300) 10 3 (10 * 2 ^ 297)
begun = record { least = omega arith; most = omega arith; digits = omega arith; value = refl }

ends : Ends (IsRead (2 ^ 300) 10) 150 (log2_10 * 2 ^ 150 / decimals + 1) ((log2_10 + 1) * 2 ^ 150 / decimals - 2)
ends = all_read (IsRead (2 ^ 300) 10) 150 (2 ^ 300) 0 3 (10 * 2 ^ 297) (log2_10 * 2 ^ 150 / decimals + 1) ((log2_10 + 1) * 2 ^ 150 / decimals - 2) (omega arith) (record { bounds = λ i d m h. (h.least, h.most); turn = λ i d m n b h x. read_turn (2 ^ 300) 10 i d m n b (omega arith) h x }) (read_none (2 ^ 300) 10 3 (10 * 2 ^ 297) (omega arith) begun) tt

-- log2 10 lies between its decimals
pub ten_between : (p q : ℕ) → p ≡ log2_10 → q ≡ decimals → (2 ^ p ≤ 10 ^ q) × (10 ^ q < 2 ^ (p + 1))
ten_between p q e f = decimals_from 299 (2 ^ 300) 10 150 (log2_10 * 2 ^ 150 / decimals + 1) ((log2_10 + 1) * 2 ^ 150 / decimals - 2) p q refl (omega arith) ends (rw f (omega arith)) (rw (e, f) (omega arith)) (rw (e, f) (omega arith))

of_power_by : (p q j k f : ℕ) (r : ℤ) → p ≡ log2_10 → q ≡ decimals → 1 ≤ k → IsLogTo p q (10 ^ j * 2 ^ f) f k r → IsLogTo (p + 1) q (10 ^ j * 2 ^ f) f k r → r ≡ pos (j * 2 ^ f)
of_power_by p q j k f r e g one low high =
    let between = ten_between p q e g in
    let some : 0 < p = rw e (omega arith) in
    let least = between.0 in
    let most = between.1 in
    log_of_power 10 p q j k f r some one least (omega arith) low high

pub log10_of_power : (j k f : ℕ) (r : ℤ) → 1 ≤ k → IsLog10 k (pos (10 ^ j * 2 ^ f)) f r → r ≡ pos (j * 2 ^ f)
log10_of_power j k f r one h = of_power_by log2_10 decimals j k f r refl refl one h.0 h.1
