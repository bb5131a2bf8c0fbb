-- Powers of 2 with a whole exponent more, rounded down to units.
use Rattle.std.proofs.Common.{◌≡◌, ◌+◌, ◌-◌, ◌*◌, ◌/◌, ◌%◌, ◌^◌, ◌<◌, ◌≤◌, ◌<ℤ◌, ℕ, ℤ, Bool, true, false, pos, negsuc, refl, ap, sym, subst, ◌∙◌, inl, inr, arith}
use Rattle.std.specs.Prelude.{min}
use Rattle.std.proofs.lemmas.Int.{ints}
use Rattle.std.proofs.Math.Nat.{le_of_mul-le-mul_right, lt_of_mul-lt-mul_right, mul-le-mul_right, mul-le-mul_left, pow-le-pow_left, pow-le-pow_right, pow-lt-pow_left, one-le-pow, mul-div_left, div-mul-le_self, lt-mul-div-succ}
use Rattle.std.proofs.lemmas.Nat.{mul-le, mul-pow, pow-add, pow_pos, div-add-mod', mod_below, div_below, le-div}
use Rattle.std.proofs.lemmas.Bool.{cases_lt}
use Rattle.fixed_word.specs.Format.{highest}
use Rattle.fixed_word.specs.Standing.{StandsFor}
use Rattle.fixed_word.specs.declared.outcome.Outcome.{Outcome}
use Rattle.fixed_elementary.specs.Exp2.{IsExp2, IsExp2At, IsExp2Up, StandsUpTo, exp2_room}
use Rattle.fixed_elementary.specs.inside.Power.{IsPart}
use Rattle.fixed_elementary.proofs.Powers.{part_shorter}
use Rattle.fixed_elementary.proofs.Reading.{pow_times}
use Rattle.fixed_elementary.proofs.Squarings.{growth_within}

-- ---- times 2 ^ n

up_below : (w q z n p r : ℕ) → 0 < w → r * w ≤ p * 2 ^ n → p ^ q ≤ 2 ^ z * w ^ q → r ^ q ≤ 2 ^ (n * q + z)
up_below w q z n p r o f h =
    let up : (r * w) ^ q ≤ (p * 2 ^ n) ^ q = pow-le-pow_left f q in
    let a = mul-pow r w q in
    let b = mul-pow p (2 ^ n) q in
    let c = pow_times 2 n q in
    let d = pow-add 2 (n * q) z in
    let x = mul-le-mul_right (2 ^ (n * q)) h in
    let e : p ^ q * (2 ^ n) ^ q ≡ p ^ q * 2 ^ (n * q) = ap (λ k. p ^ q * k) c in
    let t : r ^ q * w ^ q ≤ 2 ^ (n * q) * 2 ^ z * w ^ q = omega arith in
    rw d (le_of_mul-le-mul_right t (one-le-pow q w o))

up_above : (w q z n p r i : ℕ) → 0 < w → 0 < q → p * 2 ^ n < (r + 1) * w → 2 ^ z * w ^ q * w ^ i ≤ p ^ q * (w + 1) ^ i → 2 ^ (n * q + z) * w ^ i < (r + 1) ^ q * (w + 1) ^ i
up_above w q z n p r i o some f h =
    let up : (p * 2 ^ n) ^ q < ((r + 1) * w) ^ q = pow-lt-pow_left f (omega arith) in
    let a = mul-pow (r + 1) w q in
    let b = mul-pow p (2 ^ n) q in
    let c = pow_times 2 n q in
    let d = pow-add 2 (n * q) z in
    let e : p ^ q * (2 ^ n) ^ q ≡ p ^ q * 2 ^ (n * q) = ap (λ k. p ^ q * k) c in
    let s : p ^ q * 2 ^ (n * q) + 1 ≤ (r + 1) ^ q * w ^ q = omega arith in
    let x = mul-le-mul_right (2 ^ (n * q)) h in
    let y = mul-le-mul_right ((w + 1) ^ i) s in
    let one = one-le-pow i (w + 1) (omega arith) in
    let t : 2 ^ (n * q) * 2 ^ z * w ^ i * w ^ q < (r + 1) ^ q * (w + 1) ^ i * w ^ q = omega arith in
    rw d (lt_of_mul-lt-mul_right (w ^ q) t)

-- ---- the factor, raised

factor_raised : (w c m q : ℕ) → 0 < w → 2 * (c * m) ≤ w → (w + 1) ^ (c * q * m) ≤ 2 ^ q * w ^ (c * q * m)
factor_raised w c m q o h =
    let up : ((w + 1) ^ (c * m)) ^ q ≤ (2 * w ^ (c * m)) ^ q = pow-le-pow_left (growth_within w (c * m) o h) q in
    let a = mul-pow 2 (w ^ (c * m)) q in
    let b = pow_times w (c * m) q in
    let d = pow_times (w + 1) (c * m) q in
    let e : c * m * q ≡ c * q * m = omega arith in
    let x : 2 ^ q * (w ^ (c * m)) ^ q ≡ 2 ^ q * w ^ (c * m * q) = ap (λ k. 2 ^ q * k) b in
    rw (sym e) (omega arith)

above_raised : (w c q m e r : ℕ) → 0 < w → 0 < m → 2 * (c * m) ≤ w → 2 ^ e * w ^ (c * q) < (r + 1) ^ q * (w + 1) ^ (c * q) → 2 ^ (e * m) < (r + 1) ^ (q * m) * 2 ^ q
above_raised w c q m e r o some h f =
    let up : (2 ^ e * w ^ (c * q)) ^ m < ((r + 1) ^ q * (w + 1) ^ (c * q)) ^ m = pow-lt-pow_left f (omega arith) in
    let a = mul-pow (2 ^ e) (w ^ (c * q)) m in
    let b = mul-pow ((r + 1) ^ q) ((w + 1) ^ (c * q)) m in
    let i = pow_times 2 e m in
    let j = pow_times w (c * q) m in
    let k = pow_times (r + 1) q m in
    let l = pow_times (w + 1) (c * q) m in
    let s : 2 ^ (e * m) * w ^ (c * q * m) < (r + 1) ^ (q * m) * (w + 1) ^ (c * q * m) = rw (sym i, sym j, sym k, sym l, sym a, sym b) up in
    let g = mul-le-mul_left ((r + 1) ^ (q * m)) (factor_raised w c m q o h) in
    let t : 2 ^ (e * m) * w ^ (c * q * m) < (r + 1) ^ (q * m) * 2 ^ q * w ^ (c * q * m) = omega arith in
    lt_of_mul-lt-mul_right (w ^ (c * q * m)) t

-- ---- the power

power_near : (w f m z n p k : ℕ) → 0 < w → 2 * (m * 2 ^ k) ≤ w → IsPart w f m z p → IsExp2 (n * 2 ^ f + z) f k (p * 2 ^ n / w)
power_near w f m z n p k o h part =
    let q = 2 ^ f in
    let fits = div-mul-le_self (p * 2 ^ n) w in
    let next = lt-mul-div-succ (p * 2 ^ n) o in
    let low = up_below w q z n p (p * 2 ^ n / w) o fits part.power.below in
    let high = up_above w q z n p (p * 2 ^ n / w) (m * q) o (pow_pos f) (omega arith) part.power.above in
    record { below = low; above = above_raised w m q (2 ^ k) (n * q + z) (p * 2 ^ n / w) o (pow_pos k) h high }

whole_exponent : (q n z j : ℕ) → z < q → n * q + z ≡ j * q → (z ≡ 0) × (n ≡ j)
whole_exponent q n z j h e =
    let a : (n * q + z) / q ≡ n = quotient n q z h in
    let b : (j * q + 0) / q ≡ j = quotient j q 0 (omega arith) in
    let s : n * q + z ≡ j * q + 0 = omega arith in
    let t : n ≡ j = sym a ∙ ap (λ k. k / q) s ∙ b in
    (less n j q z t e, t)
  where
    quotient : (n q z : ℕ) → z < q → (n * q + z) / q ≡ n
    quotient n q z h =
        let below = div_below (n * q + z) q (n + 1) (omega arith) (omega arith) in
        let above = le-div n (n * q + z) q (omega arith) (omega arith) in
        omega arith

    less : (n j q z : ℕ) → n ≡ j → n * q + z ≡ j * q → z ≡ 0
    less n j q z t e = let u = ap (λ k. k * q) t in omega arith

power_exact : (w f m z n p j : ℕ) → 0 < w → IsPart w f m z p → n * 2 ^ f + z ≡ j * 2 ^ f → p * 2 ^ n / w ≡ 2 ^ j
power_exact w f m z n p j o part e =
    let v = whole_exponent (2 ^ f) n z j part.digits e in
    let unit = part.unit v.0 in
    let a : w * 2 ^ n / w ≡ 2 ^ n = let s : w * 2 ^ n ≡ 2 ^ n * w = omega arith in ap (λ k. k / w) s ∙ mul-div_left (2 ^ n) o in
    ap (λ k. k * 2 ^ n / w) unit ∙ a ∙ ap (λ k. 2 ^ k) v.1

-- b is the number of the unit's bits less those of 2 m
enough : (m k b c : ℕ) → 2 * m ≤ 2 ^ c → k ≤ b → 2 * (m * 2 ^ k) ≤ 2 ^ (c + b)
enough m k b c h l =
    let p : 2 ^ k ≤ 2 ^ b = pow-le-pow_right {n = 2} (omega arith) {i = k} {j = b} l in
    let x = mul-le (2 * m) (2 ^ k) (2 ^ c) (2 ^ b) h p in
    let e = pow-add 2 c b in
    omega arith

-- the power has d digits more, which are 0
pub power_is : (f d g e b c m p : ℕ) → f + d ≡ g → 2 * m ≤ 2 ^ c → IsPart (2 ^ (c + b)) g m (e % 2 ^ f * 2 ^ d) p → IsExp2Up b e f (p * 2 ^ (e / 2 ^ f) / 2 ^ (c + b))
power_is f d g e b c m p all h more =
    let w = 2 ^ (c + b) in
    let part = part_shorter w f d m (e % 2 ^ f) p (subst (λ k. IsPart w k m (e % 2 ^ f * 2 ^ d) p) (sym all) more) in
    let q = div-add-mod' e (2 ^ f) in
    let s : e / 2 ^ f * 2 ^ f + e % 2 ^ f ≡ e = omega arith in
    record {
      near = λ k l. subst (λ x. IsExp2 x f k (p * 2 ^ (e / 2 ^ f) / w)) s (power_near w f m (e % 2 ^ f) (e / 2 ^ f) p k (pow_pos (c + b)) (enough m k b c h l) part);
      exact = λ j y. power_exact w f m (e % 2 ^ f) (e / 2 ^ f) p j (pow_pos (c + b)) part (s ∙ y);
    }

-- ---- in a word

-- n is the whole exponent, and u the places of the mantissa
pub in_word : (m n u b : ℕ) → n < b → b ≤ u → m < 2 * 2 ^ u → m / 2 ^ (u - n) ≡ min (m * 2 ^ n / 2 ^ u) (2 ^ b)
in_word m n u b l h f =
    let e : u ≡ u - n + n = omega arith in
    let p : 2 ^ u ≡ 2 ^ (u - n) * 2 ^ n = ap (λ k. 2 ^ k) e ∙ pow-add 2 (u - n) n in
    let same : m * 2 ^ n / 2 ^ u ≡ m / 2 ^ (u - n) = rw p (cancelled m (2 ^ (u - n)) (2 ^ n) (pow_pos (u - n)) (pow_pos n)) in
    let q : 2 ^ (n + 1) ≤ 2 ^ b = pow-le-pow_right {n = 2} (omega arith) {i = n + 1} {j = b} (omega arith) in
    let r = pow-add 2 n 1 in
    let two : 2 ^ 1 ≡ 2 = refl in
    let small = div_below m (2 ^ (u - n)) (2 * 2 ^ n) (pow_pos (u - n)) (omega arith) in
    least_is (m / 2 ^ (u - n)) (m * 2 ^ n / 2 ^ u) (2 ^ b) same (omega arith)
  where
    cancelled : (m d p : ℕ) → 0 < d → 0 < p → m * p / (d * p) ≡ m / d
    cancelled m d p o s =
        let a = div-add-mod' m d in
        let b = mod_below m d o in
        let k = m / d in
        let under : k * d ≤ m = omega arith in
        let y = mul-le-mul_right p under in
        let low : k * (d * p) ≤ m * p = omega arith in
        let t : m + 1 ≤ (k + 1) * d = omega arith in
        let x = mul-le-mul_right p t in
        let z : 0 < d * p = mul-le 1 1 d p o s in
        let above = div_below (m * p) (d * p) (k + 1) z (omega arith) in
        let below = le-div k (m * p) (d * p) z low in
        omega arith

    least_is : (x y b : ℕ) → y ≡ x → x < b → x ≡ min y b
    least_is x y b e h = rw e (grind arith)

pub past_word : (m n u b : ℕ) → b ≤ n → 2 ^ u ≤ m → 2 ^ b ≡ min (m * 2 ^ n / 2 ^ u) (2 ^ b)
past_word m n u b h l =
    let p : 2 ^ b ≤ 2 ^ n = pow-le-pow_right {n = 2} (omega arith) {i = b} {j = n} h in
    let t : 2 ^ b * 2 ^ u ≤ m * 2 ^ n = let x = mul-le (2 ^ u) (2 ^ b) m (2 ^ n) l p in omega arith in
    let q = le-div (2 ^ b) (m * 2 ^ n) (2 ^ u) (pow_pos u) t in
    grind arith

-- ---- the outcome

pub at_exponent : (room f e r : ℕ) (x : ℤ) → x ≡ pos e → IsExp2Up room e f r → IsExp2At room x f (pos r)
at_exponent room f e r x s h = rw s (r, refl, h)

pub below_exponent : (room f : ℕ) (x : ℤ) → x <ℤ pos 0 → IsExp2At room x f (pos 0)
below_exponent room f (pos e) h = absurd (omega (arith, ints))
below_exponent room f (negsuc e) h = refl

pub above_all : (s : Bool) (n x : ℕ) → 1 ≤ n → 2 ^ n ≤ x → highest s n <ℤ pos x
above_all true n x o h =
    let p : 2 ^ (n - 1) ≤ 2 ^ n = pow-le-pow_right {n = 2} (omega arith) {i = n - 1} {j = n} (omega arith) in
    omega (arith, ints, pow_pos (n - 1))
above_all false n x o h = omega (arith, ints, pow_pos n)

pub stands_up_to : {T : Type 0} (value : T → ℤ) (s : Bool) (n r m : ℕ) (o : Outcome T) → 1 ≤ n → m ≡ min r (2 ^ n) → StandsFor value s n (pos m) o → StandsUpTo value s n (pos r) o
stands_up_to value s n r m o one e h = record {
  other = pos m;
  alike = elim (cases_lt r (2 ^ n)) [
    | inl less ↦ let t : m ≡ r = e ∙ grind arith in inl (ap pos t)
    | inr fine ↦ let t : m ≡ 2 ^ n = e ∙ grind arith in inr (above_all s n m one (omega arith), above_all s n r one fine)
  ];
  stands = h;
}

pub room_narrow : (n : ℕ) → n ≤ 32 → 54 ≡ exp2_room n
room_narrow n h = grind arith

pub room_broad : (n : ℕ) → 32 < n → 117 ≡ exp2_room n
room_broad n h = grind arith

-- b is the width as the code knows it
pub exp2_is : {T : Type 0} (value : T → ℤ) (s : Bool) (n b f e r m : ℕ) (x : ℤ) (o : Outcome T) → b ≡ n → 1 ≤ n → x ≡ pos e → IsExp2Up (exp2_room b) e f r → m ≡ min r (2 ^ b)
    → StandsFor value s n (pos m) o → (y : ℤ) × IsExp2At (exp2_room n) x f y × StandsUpTo value s n y o
exp2_is value s n b f e r m x o w one at up is h =
    let near = subst (λ (k : ℕ). IsExp2Up (exp2_room k) e f r) w up in
    let bits = subst (λ (k : ℕ). m ≡ min r (2 ^ k)) w is in
    (pos r, at_exponent (exp2_room n) f e r x at near, stands_up_to value s n r m o one bits h)
