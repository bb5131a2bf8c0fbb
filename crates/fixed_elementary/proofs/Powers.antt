-- Powers of 2 with a fractional exponent: their roots, squares and products, rounded down.
use Rattle.std.proofs.Common.{◌≡◌, ◌+◌, ◌-◌, ◌*◌, ◌/◌, ◌%◌, ◌^◌, ◌<◌, ◌≤◌, ℕ, suc, refl, ap, sym, subst, ◌∙◌, inl, inr, arith}
use Rattle.std.proofs.Math.Nat.{le_of_mul-le-mul_right, lt_of_mul-lt-mul_right, mul-le-mul_right, mul-le-mul_left, pow-le-pow_left, pow-le-pow_right, one-le-pow, pow-suc, pow-zero, div-div-eq-div-mul}
use Rattle.std.proofs.lemmas.Nat.{mul-le, mul-pow, pow-add, pow_pos, div-add-mod', mod_below, div_below}
use Rattle.std.proofs.lemmas.Bool.{cases_lt}
use Rattle.fixed_elementary.specs.inside.Power.{IsFloored, IsPart, IsPower}
use Rattle.fixed_elementary.proofs.Reading.{pow_times, root_le}

-- c is 2 ^ (1 / 2 ^ b)
pub record IsRootOfTwo (w b c : ℕ) : Type 0 where
  pub least : w ≤ c
  pub most : c ≤ 2 * w
  pub power : IsPower w (2 ^ b) 1 (2 * 2 ^ b) c

twice_suc : (b : ℕ) → 2 ^ suc b ≡ 2 ^ b + 2 ^ b
twice_suc b = omega (arith, pow-suc 2 b)

-- ---- a root

square_times : (c q : ℕ) → (c * c) ^ q ≡ c ^ (q + q)
square_times c q = mul-pow c c q ∙ sym (pow-add c q q)

half_below : (w q z p c : ℕ) → c * c ≤ p * w → p ^ q ≤ 2 ^ z * w ^ q → c ^ (q + q) ≤ 2 ^ z * w ^ (q + q)
half_below w q z p c f h =
    let up : (c * c) ^ q ≤ (p * w) ^ q = pow-le-pow_left f q in
    let a = mul-pow p w q in
    let x = mul-le-mul_right (w ^ q) h in
    let s = square_times c q in
    let u = pow-add w q q in
    rw (sym s, u) (omega arith)

half_above : (w q z p c i : ℕ) → w ≤ c → p * w ≤ (c + 1) * (c + 1) → 2 ^ z * w ^ q * w ^ i ≤ p ^ q * (w + 1) ^ i → 2 ^ z * w ^ (q + q) * w ^ (i + (q + q)) ≤ c ^ (q + q) * (w + 1) ^ (i + (q + q))
half_above w q z p c i l f h =
    let near : (c + 1) * w ≤ c * (w + 1) = omega arith in
    let twice = mul-le ((c + 1) * w) ((c + 1) * w) (c * (w + 1)) (c * (w + 1)) near near in
    let wide = mul-le-mul_right (w * w) f in
    let all : p * w * (w * w) ≤ c * c * ((w + 1) * (w + 1)) = omega arith in
    let up : (p * w * (w * w)) ^ q ≤ (c * c * ((w + 1) * (w + 1))) ^ q = pow-le-pow_left all q in
    let a = mul-pow (p * w) (w * w) q in
    let d = mul-pow p w q in
    let r : (p * w * (w * w)) ^ q ≡ p ^ q * w ^ q * w ^ (q + q) = a ∙ ap (λ n. n * (w * w) ^ q) d ∙ ap (λ n. p ^ q * w ^ q * n) (square_times w q) in
    let s : (c * c * ((w + 1) * (w + 1))) ^ q ≡ c ^ (q + q) * (w + 1) ^ (q + q) = mul-pow (c * c) ((w + 1) * (w + 1)) q ∙ ap (λ n. n * ((w + 1) * (w + 1)) ^ q) (square_times c q) ∙ ap (λ n. c ^ (q + q) * n) (square_times (w + 1) q) in
    let v : p ^ q * w ^ q * w ^ (q + q) ≤ c ^ (q + q) * (w + 1) ^ (q + q) = omega arith in
    let x = mul-le-mul_right (w ^ q * w ^ (q + q)) h in
    let y = mul-le-mul_right ((w + 1) ^ i) v in
    let m = pow-add w q q in
    let n = pow-add w i (q + q) in
    let t = pow-add (w + 1) i (q + q) in
    let m2 : 2 ^ z * w ^ (q + q) * (w ^ i * w ^ (q + q)) ≡ 2 ^ z * w ^ q * w ^ i * (w ^ q * w ^ (q + q)) = ap (λ x. 2 ^ z * x * (w ^ i * w ^ (q + q))) m ∙ omega arith in
    rw (n, t) (omega arith)

-- the root, rounded down, of a root of two
pub next_root : (w b p c : ℕ) → 0 < w → IsRootOfTwo w b p → c * c ≤ p * w → p * w < (c + 1) * (c + 1) → IsRootOfTwo w (suc b) c
next_root w b p c o h low high =
    let least : w ≤ c = elim (cases_lt c w) [
      | inl less ↦
          let m = mul-le (c + 1) (c + 1) w w (omega arith) (omega arith) in
          let k = mul-le-mul_right w h.least in
          absurd (omega arith)
      | inr fine ↦ fine
    ] in
    let most : c ≤ 2 * w = elim (cases_lt (2 * w) c) [
      | inl more ↦
          let m = mul-le (2 * w + 1) (2 * w) c c (omega arith) (omega arith) in
          let k = mul-le-mul_right w h.most in
          absurd (omega arith)
      | inr fine ↦ fine
    ] in
    let e = twice_suc b in
    let i : 2 * 2 ^ suc b ≡ 2 * 2 ^ b + (2 ^ b + 2 ^ b) = omega arith in
    record {
      least = least;
      most = most;
      power = rw (i, e) (record {
        below = half_below w (2 ^ b) 1 p c low h.power.below;
        above = half_above w (2 ^ b) 1 p c (2 * 2 ^ b) least (omega arith) h.power.above;
      });
    }

pub first_root : (w c : ℕ) → c ≡ 2 * w → IsRootOfTwo w 0 c
first_root w c e =
    let x : 2 ^ 0 ≡ 1 = refl in
    let y : 2 ^ 1 ≡ 2 = refl in
    let a = pow-suc w 0 ∙ ap (λ n. n * w) (pow-zero w) in
    let b = pow-suc (2 * w) 0 ∙ ap (λ n. n * (2 * w)) (pow-zero (2 * w)) in
    let near : w ≤ w + 1 = omega arith in
    let s : w ^ 2 ≤ (w + 1) ^ 2 = pow-le-pow_left near 2 in
    let t = mul-le-mul_left (2 * w) s in
    rw e (record {
      least = omega arith;
      most = omega arith;
      power = record { below = rw (x, y, a, b) (omega arith); above = rw (x, y, a, b) (omega arith) };
    })

-- ---- powers and products

times_below : (w q z m : ℕ) → (2 ^ z * w ^ q) ^ m ≡ 2 ^ (z * m) * w ^ (q * m)
times_below w q z m = mul-pow (2 ^ z) (w ^ q) m ∙ ap (λ k. k * (w ^ q) ^ m) (pow_times 2 z m) ∙ ap (λ k. 2 ^ (z * m) * k) (pow_times w q m)

times_above : (w q z i m : ℕ) → (2 ^ z * w ^ q * w ^ i) ^ m ≡ 2 ^ (z * m) * w ^ (q * m) * w ^ (i * m)
times_above w q z i m = mul-pow (2 ^ z * w ^ q) (w ^ i) m ∙ ap (λ k. k * (w ^ i) ^ m) (times_below w q z m) ∙ ap (λ k. 2 ^ (z * m) * w ^ (q * m) * k) (pow_times w i m)

times_over : (w q i m p : ℕ) → (p ^ q * (w + 1) ^ i) ^ m ≡ p ^ (q * m) * (w + 1) ^ (i * m)
times_over w q i m p = mul-pow (p ^ q) ((w + 1) ^ i) m ∙ ap (λ k. k * ((w + 1) ^ i) ^ m) (pow_times p q m) ∙ ap (λ k. p ^ (q * m) * k) (pow_times (w + 1) i m)

raised : (w q z i m p : ℕ) → IsPower w q z i p → IsPower w (q * m) (z * m) (i * m) p
raised w q z i m p h =
    let low : (p ^ q) ^ m ≤ (2 ^ z * w ^ q) ^ m = pow-le-pow_left h.below m in
    let high : (2 ^ z * w ^ q * w ^ i) ^ m ≤ (p ^ q * (w + 1) ^ i) ^ m = pow-le-pow_left h.above m in
    record { below = rw (sym (times_below w q z m), sym (pow_times p q m)) low; above = rw (sym (times_above w q z i m), sym (times_over w q i m p)) high }

rooted : (w q z i m p : ℕ) → 0 < m → IsPower w (q * m) (z * m) (i * m) p → IsPower w q z i p
rooted w q z i m p o h =
    let low : (p ^ q) ^ m ≤ (2 ^ z * w ^ q) ^ m = rw (times_below w q z m, pow_times p q m) h.below in
    let high : (2 ^ z * w ^ q * w ^ i) ^ m ≤ (p ^ q * (w + 1) ^ i) ^ m = rw (times_above w q z i m, times_over w q i m p) h.above in
    record { below = root_le (p ^ q) (2 ^ z * w ^ q) m o low; above = root_le (2 ^ z * w ^ q * w ^ i) (p ^ q * (w + 1) ^ i) m o high }

weaker : (w q z i j p : ℕ) → i ≤ j → IsPower w q z i p → IsPower w q z j p
weaker w q z i j p l h =
    let e : j ≡ i + (j - i) = omega arith in
    let s : w ^ (j - i) ≤ (w + 1) ^ (j - i) = pow-le-pow_left (omega arith) (j - i) in
    let m = mul-le (2 ^ z * w ^ q * w ^ i) (w ^ (j - i)) (p ^ q * (w + 1) ^ i) ((w + 1) ^ (j - i)) h.above s in
    let a : w ^ j ≡ w ^ i * w ^ (j - i) = ap (λ k. w ^ k) e ∙ pow-add w i (j - i) in
    let b : (w + 1) ^ j ≡ (w + 1) ^ i * (w + 1) ^ (j - i) = ap (λ k. (w + 1) ^ k) e ∙ pow-add (w + 1) i (j - i) in
    record { below = h.below; above = rw (a, b) (omega arith) }

product_below : (w q y z m n p : ℕ) → 0 < w → p * w ≤ m * n → m ^ q ≤ 2 ^ y * w ^ q → n ^ q ≤ 2 ^ z * w ^ q → p ^ q ≤ 2 ^ (y + z) * w ^ q
product_below w q y z m n p o f g h =
    let up : (p * w) ^ q ≤ (m * n) ^ q = pow-le-pow_left f q in
    let a = mul-pow p w q in
    let b = mul-pow m n q in
    let c = mul-le (m ^ q) (n ^ q) (2 ^ y * w ^ q) (2 ^ z * w ^ q) g h in
    let d = pow-add 2 y z in
    let x = one-le-pow q w o in
    let t : p ^ q * w ^ q ≤ 2 ^ y * 2 ^ z * w ^ q * w ^ q = omega arith in
    rw d (le_of_mul-le-mul_right t (omega arith))

product_above : (w q y z m n p i j : ℕ) → w ≤ p → m * n ≤ (p + 1) * w → 2 ^ y * w ^ q * w ^ i ≤ m ^ q * (w + 1) ^ i → 2 ^ z * w ^ q * w ^ j ≤ n ^ q * (w + 1) ^ j → 2 ^ (y + z) * w ^ q * w ^ (i + j + q) ≤ p ^ q * (w + 1) ^ (i + j + q)
product_above w q y z m n p i j l f g h =
    let e : m * n ≤ p * (w + 1) = omega arith in
    let up : (m * n) ^ q ≤ (p * (w + 1)) ^ q = pow-le-pow_left e q in
    let a = mul-pow p (w + 1) q in
    let b = mul-pow m n q in
    let u : m ^ q * n ^ q ≤ p ^ q * (w + 1) ^ q = omega arith in
    let c = mul-le (2 ^ y * w ^ q * w ^ i) (2 ^ z * w ^ q * w ^ j) (m ^ q * (w + 1) ^ i) (n ^ q * (w + 1) ^ j) g h in
    let v = mul-le-mul_right ((w + 1) ^ i * (w + 1) ^ j) u in
    let d = pow-add 2 y z in
    let r = pow-add w (i + j) q in
    let s = pow-add w i j in
    let t = pow-add (w + 1) (i + j) q in
    let k = pow-add (w + 1) i j in
    rw (d, r, s, t, k) (omega arith)

product_is : (w q y z m n p i j : ℕ) → 0 < w → IsFloored w m n p → IsPower w q y i m → IsPower w q z j n → IsPower w q (y + z) (i + j + q) p
product_is w q y z m n p i j o f a b = record {
  below = product_below w q y z m n p o f.below a.below b.below;
  above = product_above w q y z m n p i j f.least f.above a.above b.above;
}

-- a power of less than one is less than two
less_than_two : (w q z i p : ℕ) → 0 < w → z < q → IsPower w q z i p → p < 2 * w
less_than_two w q z i p o l h = elim (cases_lt p (2 * w)) [
  | inl fine ↦ fine
  | inr more ↦
      let up : (2 * w) ^ q ≤ p ^ q = pow-le-pow_left more q in
      let a = mul-pow 2 w q in
      let b : 2 ^ suc z ≤ 2 ^ q = pow-le-pow_right {n = 2} (omega arith) {i = suc z} {j = q} l in
      let s : 2 ^ z + 2 ^ z ≤ 2 ^ q = omega (arith, twice_suc z) in
      let t = mul-le-mul_right (w ^ q) s in
      let low = h.below in
      let x = mul-le 1 1 (2 ^ z) (w ^ q) (pow_pos z) (one-le-pow q w o) in
      absurd (omega arith)
]

-- ---- parts

pub part_none : (w b : ℕ) → 0 < w → IsPart w b 0 0 w
part_none w b o =
    let z = pow-zero 2 in
    let n : 0 * 2 ^ b ≡ 0 = omega arith in
    let x = pow-zero w in
    let y = pow-zero (w + 1) in
    record {
      digits = pow_pos b;
      least = omega arith;
      most = omega arith;
      power = record { below = rw z (omega arith); above = rw (z, n, x, y) (omega arith) };
      unit = λ k. refl;
    }

pub part_of_root : (w b c : ℕ) → 0 < w → 1 ≤ b → IsRootOfTwo w b c → IsPart w b 2 1 c
part_of_root w b c o l h =
    let p : 2 ^ 1 ≤ 2 ^ b = pow-le-pow_right {n = 2} (omega arith) {i = 1} {j = b} l in
    let two : 2 ^ 1 ≡ 2 = refl in
    let digits : 1 < 2 ^ b = omega arith in
    record {
      digits = digits;
      least = h.least;
      most = less_than_two w (2 ^ b) 1 (2 * 2 ^ b) c o digits h.power;
      power = h.power;
      unit = λ k. absurd (omega arith);
    }

pub part_weaker : (w b n m z p : ℕ) → n ≤ m → IsPart w b n z p → IsPart w b m z p
part_weaker w b n m z p l h = record {
  digits = h.digits;
  least = h.least;
  most = h.most;
  power = weaker w (2 ^ b) z (n * 2 ^ b) (m * 2 ^ b) p (mul-le-mul_right (2 ^ b) l) h.power;
  unit = h.unit;
}

-- k digits 0 more
pub part_longer : (w b k n z p : ℕ) → IsPart w b n z p → IsPart w (b + k) n (z * 2 ^ k) p
part_longer w b k n z p h =
    let e = pow-add 2 b k in
    let i : n * (2 ^ b * 2 ^ k) ≡ n * 2 ^ b * 2 ^ k = omega arith in
    let more = mul-le-mul_right (2 ^ k) h.digits in
    let some = pow_pos k in
    record {
      digits = rw e (omega arith);
      least = h.least;
      most = h.most;
      power = rw (e, i) (raised w (2 ^ b) z (n * 2 ^ b) (2 ^ k) p h.power);
      unit = λ g. h.unit (no_digits z (2 ^ k) some g);
    }
  where
    no_digits : (z m : ℕ) → 0 < m → z * m ≡ 0 → z ≡ 0
    no_digits z m o e = let t : z * m ≤ 0 * m = omega arith in let l = le_of_mul-le-mul_right t o in omega arith

-- and fewer
pub part_shorter : (w b k n z p : ℕ) → IsPart w (b + k) n (z * 2 ^ k) p → IsPart w b n z p
part_shorter w b k n z p h =
    let e = pow-add 2 b k in
    let i : n * (2 ^ b * 2 ^ k) ≡ n * 2 ^ b * 2 ^ k = omega arith in
    let less : z * 2 ^ k < 2 ^ b * 2 ^ k = omega (arith, h.digits) in
    let power : IsPower w (2 ^ b * 2 ^ k) (z * 2 ^ k) (n * 2 ^ b * 2 ^ k) p = subst (λ x. IsPower w (2 ^ b * 2 ^ k) (z * 2 ^ k) x p) i (subst (λ x. IsPower w x (z * 2 ^ k) (n * x) p) e h.power) in
    record {
      digits = lt_of_mul-lt-mul_right (2 ^ k) less;
      least = h.least;
      most = h.most;
      power = rooted w (2 ^ b) z (n * 2 ^ b) (2 ^ k) p (pow_pos k) power;
      unit = λ g. h.unit (rw g (omega arith));
    }

part_times : (w b n m y z p c r : ℕ) → 0 < w → y + z < 2 ^ b → IsPart w b n y p → IsPart w b m z c → IsFloored w p c r → IsPart w b (n + m + 1) (y + z) r
part_times w b n m y z p c r o digits g h f =
    let all = product_is w (2 ^ b) y z p c r (n * 2 ^ b) (m * 2 ^ b) o f g.power h.power in
    let i : n * 2 ^ b + m * 2 ^ b + 2 ^ b ≡ (n + m + 1) * 2 ^ b = omega arith in
    let power = subst (λ k. IsPower w (2 ^ b) (y + z) k r) i all in
    record {
      digits = digits;
      least = f.least;
      most = less_than_two w (2 ^ b) (y + z) ((n + m + 1) * 2 ^ b) r o digits power;
      power = power;
      unit = λ k. unit_product w p c r o f.least f.below (g.unit (omega arith)) (h.unit (omega arith));
    }
  where
    unit_product : (w p c n : ℕ) → 0 < w → w ≤ n → n * w ≤ p * c → p ≡ w → c ≡ w → n ≡ w
    unit_product w p c n o l h e f =
        let t : n * w ≤ w * w = subst (λ k. n * w ≤ w * k) f (subst (λ k. n * w ≤ k * c) e h) in
        let s = le_of_mul-le-mul_right t o in
        omega arith

-- the power of the digits z, rounded down
pub part_floored : (w b z p : ℕ) → 0 < w → z < 2 ^ b → w ≤ p → (z ≡ 0 → p ≡ w) → p ^ 2 ^ b ≤ 2 ^ z * w ^ 2 ^ b → 2 ^ z * w ^ 2 ^ b ≤ (p + 1) ^ 2 ^ b → IsPart w b 1 z p
part_floored w b z p o digits least unit low high =
    let q = 2 ^ b in
    let near : (p + 1) * w ≤ p * (w + 1) = omega arith in
    let up : ((p + 1) * w) ^ q ≤ (p * (w + 1)) ^ q = pow-le-pow_left near q in
    let x = mul-pow (p + 1) w q in
    let y = mul-pow p (w + 1) q in
    let t = mul-le-mul_right (w ^ q) high in
    let one : 1 * q ≡ q = omega arith in
    let power : IsPower w q z (1 * q) p = rw one (record { below = low; above = omega arith }) in
    record { digits = digits; least = least; most = less_than_two w q z (1 * q) p o digits power; power = power; unit = unit }

-- k digits more, which are d
pub part_on : (w b k n m z d p c r : ℕ) → 0 < w → d < 2 ^ k → IsPart w b n z p → IsPart w (b + k) m d c → IsFloored w p c r → IsPart w (b + k) (n + m + 1) (z * 2 ^ k + d) r
part_on w b k n m z d p c r o small g h f =
    let e = pow-add 2 b k in
    let t = mul-le-mul_right (2 ^ k) g.digits in
    part_times w (b + k) n m (z * 2 ^ k) d p c r o (rw e (omega arith)) (part_longer w b k n z p g) h f

pub turned : (w b k n m z d p c r : ℕ) → 0 < w → d < 2 ^ k → IsPart w b n z p → IsPart w (b + k) m d c → IsFloored w p c r → IsPart w (b + k) (n + (m + 1)) (2 ^ k * z + d) r
turned w b k n m z d p c r o small h f g =
    let i : n + m + 1 ≡ n + (m + 1) = omega arith in
    let e : z * 2 ^ k + d ≡ 2 ^ k * z + d = omega arith in
    let all = part_on w b k n m z d p c r o small h f g in
    subst (λ x. IsPart w (b + k) (n + (m + 1)) x r) e (subst (λ x. IsPart w (b + k) x (z * 2 ^ k + d) r) i all)

-- ---- the fraction

-- with as many digits as g
pub digits_fit : (x f g : ℕ) → f ≤ g → g ≤ 64 → x % (1 * 2 ^ f % 2 ^ 128) * 2 ^ (g - f) % 2 ^ 128 < 2 ^ g
digits_fit x f g l h =
    let most : 2 ^ f ≤ 2 ^ 64 = pow-le-pow_right {n = 2} (omega arith) {i = f} {j = 64} (omega arith) in
    let same : 1 * 2 ^ f % 2 ^ 128 ≡ 2 ^ f = omega arith in
    let m = mod_below x (2 ^ f) (pow_pos f) in
    let t = mul-le-mul_right (2 ^ (g - f)) m in
    let o = pow_pos (g - f) in
    let e : f + (g - f) ≡ g = omega arith in
    let p : 2 ^ g ≡ 2 ^ f * 2 ^ (g - f) = ap (λ k. 2 ^ k) (sym e) ∙ pow-add 2 f (g - f) in
    rw (same, p) (omega arith)

-- ---- the loop: k digits a turn, for each of which there are c factors

pub part_begun : (w x k c g : ℕ) → 0 < w → x < 2 ^ (k * g) → IsPart w (k * 0) (c * 0) (x / 2 ^ (k * (g - 0))) w
part_begun w x k c g o h =
    let e : g - 0 ≡ g = omega arith in
    let a : k * 0 ≡ 0 = omega arith in
    let b : c * 0 ≡ 0 = omega arith in
    let z : x / 2 ^ (k * g) ≡ 0 = let d = div_below x (2 ^ (k * g)) 1 (pow_pos (k * g)) (omega arith) in omega arith in
    rw (e, a, b, z) (part_none w 0 o)

-- the digits so far, and the next
digits_on : (x k g i : ℕ) → i < g → 2 ^ k * (x / 2 ^ (k * (g - i))) + x / 2 ^ (k * (g - 1 - i)) % 2 ^ k ≡ x / 2 ^ (k * (g - (i + 1)))
digits_on x k g i h =
    let e : g - 1 - i ≡ g - (i + 1) = omega arith in
    let s : g - i ≡ g - (i + 1) + 1 = omega arith in
    let f : k * (g - (i + 1) + 1) ≡ k * (g - (i + 1)) + k = omega arith in
    let p = pow-add 2 (k * (g - (i + 1))) k in
    let d = div-div-eq-div-mul x (2 ^ (k * (g - (i + 1)))) (2 ^ k) in
    let m = div-add-mod' (x / 2 ^ (k * (g - (i + 1)))) (2 ^ k) in
    rw (e, s, f, p, sym d) (omega arith)

pub part_turned : (w x k c g i d r : ℕ) → i < g → d ≡ x / 2 ^ (k * (g - 1 - i)) % 2 ^ k → IsPart w (k * i + k) (c * i + c) (2 ^ k * (x / 2 ^ (k * (g - i))) + d) r → IsPart w (k * (i + 1)) (c * (i + 1)) (x / 2 ^ (k * (g - (i + 1)))) r
part_turned w x k c g i d r l e h =
    let b : k * i + k ≡ k * (i + 1) = omega arith in
    let n : c * i + c ≡ c * (i + 1) = omega arith in
    let z = ap (λ (y : ℕ). 2 ^ k * (x / 2 ^ (k * (g - i))) + y) e ∙ digits_on x k g i l in
    subst (λ y. IsPart w y (c * (i + 1)) (x / 2 ^ (k * (g - (i + 1)))) r) b (subst (λ y. IsPart w (k * i + k) y (x / 2 ^ (k * (g - (i + 1)))) r) n (subst (λ y. IsPart w (k * i + k) (c * i + c) y r) z h))

pub part_all : (w x k c g i p : ℕ) → i ≡ g → IsPart w (k * i) (c * i) (x / 2 ^ (k * (g - i))) p → IsPart w (k * g) (c * g) x p
part_all w x k c g i p e h =
    let s : g - g ≡ 0 = omega arith in
    let z : k * 0 ≡ 0 = omega arith in
    let one : x / 2 ^ 0 ≡ x = let d = div-add-mod' x 1 in let m = mod_below x 1 (omega arith) in omega arith in
    let a = subst (λ y. IsPart w (k * y) (c * y) (x / 2 ^ (k * (g - y))) p) e h in
    subst (λ y. IsPart w (k * g) (c * g) y p) (ap (λ y. x / 2 ^ (k * y)) s ∙ ap (λ y. x / 2 ^ y) z ∙ one) a
