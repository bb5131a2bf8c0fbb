-- Angles in radians: quarter turns and a rest.
use Rattle.std.proofs.Common.{◌≡◌, ◌⊎◌, ◌+◌, ◌-◌, ◌*◌, ◌/◌, ◌%◌, ◌^◌, ◌<◌, ◌≤◌, ◌<ℤ◌, ◌+ℤ◌, ◌-ℤ◌, ◌*ℤ◌, unsigned_abs, ℕ, ℤ, Bool, true, false, not, pos, negsuc, neg_ℤ, if◌then◌else◌, T, leb, leb→le, inl, inr, zero, suc, refl, subst, sym, ap, ◌∙◌, add-mul, mul_assoc, pow-add, arith}
use Rattle.std.proofs.lemmas.Bool.{cases_lt, leb-false}
use Rattle.std.proofs.lemmas.Int.{ints}
use Rattle.std.proofs.lemmas.Nat.{div-add-mod', pow_pos, shl_whole}
use Rattle.std.proofs.Math.Nat.{le_of_mul-le-mul_right, mul-le-mul_right, mul-le-mul_left}
use Rattle.fixed_word.specs.Format.{with_sign}
use Rattle.fixed_turns.specs.Radians.{parts}
use Rattle.fixed_turns.specs.inside.Rests.{IsBesidePi, IsReducedTo, IsSplit, IsUnder, rounded_pi}
use Rattle.fixed_turns.proofs.TurnLaws.{negative_times, other_way}

-- ---- a rest, of which k parts are 2^65 2 10^39
rest_under : (t r f k : ℕ) → k * 2 ^ f ≡ 2 ^ 65 → 2 * t * (2 * 10 ^ 39) ≤ r * k → r * k ≤ 2 * (t + 2) * (2 * 10 ^ 39) → IsUnder 2 t (parts r f)
rest_under t r f k u low high =
    let g = pow_pos f in
    let a = mul-le-mul_right (2 ^ f) low in
    let b = mul-le-mul_right (2 ^ f) high in
    let e : r * k * 2 ^ f ≡ r * 2 ^ 65 = omega (arith, ap (λ (j : ℕ). r * j) u) in
    record { some = omega arith; below = omega arith; above = omega arith }

rest_small : (t r f k : ℕ) → 0 < k → k * 2 ^ f ≡ 2 ^ 65 → t + 2 ≤ 2 ^ 64 → r * k ≤ 2 * (t + 2) * (2 * 10 ^ 39) → r ≤ 2 * 10 ^ 39 * 2 ^ f
rest_small t r f k o u few high =
    let a = mul-le-mul_right (2 * (2 * 10 ^ 39)) few in
    let e : 2 * 10 ^ 39 * 2 ^ f * k ≡ 2 ^ 65 * (2 * 10 ^ 39) = omega (arith, ap (λ (j : ℕ). 2 * 10 ^ 39 * j) u) in
    let b : r * k ≤ 2 * 10 ^ 39 * 2 ^ f * k = omega arith in
    le_of_mul-le-mul_right b o

-- b is n quarters and a is the angle, in parts
pub rest_above : (p m f n t k : ℕ) (below : Bool) → 0 < k → k * 2 ^ f ≡ 2 ^ 65 → n * (p * 2 ^ f) ≤ 2 * 10 ^ 39 * m → n * (p * 2 ^ f) * k + 2 * t * (2 * 10 ^ 39) ≤ 2 * 10 ^ 39 * m * k
    → 2 * 10 ^ 39 * m * k ≤ n * (p * 2 ^ f) * k + 2 * (t + 2) * (2 * 10 ^ 39) → t + 2 ≤ 2 ^ 64 → (false ≡ below) ⊎ (t ≡ 0) → IsSplit p m f n below t
rest_above p m f n t k below o u le low high few sure =
    let b = n * (p * 2 ^ f) in
    let a = 2 * 10 ^ 39 * m in
    let r = a - b in
    let s : r + b ≡ a = omega arith in
    let sk : r * k + b * k ≡ a * k = sym (add-mul r b k) ∙ ap (λ (j : ℕ). j * k) s in
    let most : r * k ≤ 2 * (t + 2) * (2 * 10 ^ 39) = omega arith in
    record { sign = false; rest = r; is = omega (arith, ints); small = rest_small t r f k o u few most; under = rest_under t r f k u (omega arith) most; sure = sure }

pub rest_below : (p m f n t k : ℕ) (below : Bool) → 0 < k → k * 2 ^ f ≡ 2 ^ 65 → 2 * 10 ^ 39 * m ≤ n * (p * 2 ^ f) → 2 * 10 ^ 39 * m * k + 2 * t * (2 * 10 ^ 39) ≤ n * (p * 2 ^ f) * k
    → n * (p * 2 ^ f) * k ≤ 2 * 10 ^ 39 * m * k + 2 * (t + 2) * (2 * 10 ^ 39) → t + 2 ≤ 2 ^ 64 → (true ≡ below) ⊎ (t ≡ 0) → IsSplit p m f n below t
rest_below p m f n t k below o u le low high few sure =
    let b = n * (p * 2 ^ f) in
    let a = 2 * 10 ^ 39 * m in
    let r = b - a in
    let s : r + a ≡ b = omega arith in
    let sk : r * k + a * k ≡ b * k = sym (add-mul r a k) ∙ ap (λ (j : ℕ). j * k) s in
    let most : r * k ≤ 2 * (t + 2) * (2 * 10 ^ 39) = omega arith in
    record { sign = true; rest = r; is = omega (arith, ints); small = rest_small t r f k o u few most; under = rest_under t r f k u (omega arith) most; sure = sure }

-- ---- c is n quarters, rounded down
quarters_low : (p f n k c : ℕ) → k * 2 ^ f ≡ 2 ^ 65 → IsBesidePi p → c * 2 ^ 63 ≤ n * rounded_pi → 2 * 10 ^ 39 * (2 * c) ≤ n * (p * 2 ^ f) * k
quarters_low p f n k c u i low =
    let a = mul-le-mul_left n i.below in
    let b = mul-le-mul_right (10 ^ 39) low in
    let e : n * (p * 2 ^ f) * k ≡ n * p * 2 ^ 65 = omega (arith, ap (λ (j : ℕ). n * p * j) u) in
    let g : 2 * 10 ^ 39 * (2 * c) * 2 ^ 61 ≤ n * p * 2 ^ 65 * 2 ^ 61 = omega arith in
    let h = le_of_mul-le-mul_right {k = 2 ^ 61} g (omega arith) in
    omega arith

quarters_high : (p f n k c : ℕ) → k * 2 ^ f ≡ 2 ^ 65 → IsBesidePi p → n < 2 ^ 64 → n * rounded_pi < (c + 1) * 2 ^ 63 → n * (p * 2 ^ f) * k ≤ 2 * (2 * c + 3) * 10 ^ 39
quarters_high p f n k c u i few high =
    let a : n * (4 * (p * 2 ^ 126)) ≤ n * ((4 * rounded_pi + 1) * 10 ^ 39) = mul-le-mul_left n i.above in
    let b : n * rounded_pi * 10 ^ 39 ≤ (c + 1) * 2 ^ 63 * 10 ^ 39 = mul-le-mul_right {m = n * rounded_pi} {n = (c + 1) * 2 ^ 63} (10 ^ 39) (omega arith) in
    let d : n * 10 ^ 39 ≤ 2 ^ 64 * 10 ^ 39 = mul-le-mul_right {m = n} {n = 2 ^ 64} (10 ^ 39) (omega arith) in
    let e : n * (p * 2 ^ f) * k ≡ n * p * 2 ^ 65 = omega (arith, ap (λ (j : ℕ). n * p * j) u) in
    let g : n * p * 2 ^ 65 * 2 ^ 63 ≤ 2 * (2 * c + 3) * 10 ^ 39 * 2 ^ 63 = omega arith in
    let h = le_of_mul-le-mul_right {k = 2 ^ 63} g (omega arith) in
    omega arith

-- x is m 2^-f radians in units of 2^-64, rounded up by at most half a unit, and c is n quarters, rounded down
pub record IsWhole (m f n x c : ℕ) : Type 0 where
  pub k : ℕ
  pub some : 0 < k
  pub unit : k * 2 ^ f ≡ 2 ^ 65
  pub least : 2 * x ≤ m * k + 1
  pub most : m * k ≤ 2 * x
  pub few : n < 2 ^ 64
  pub low : c * 2 ^ 63 ≤ n * rounded_pi
  pub high : n * rounded_pi < (c + 1) * 2 ^ 63

pub whole_is : (m f n x c k : ℕ) → k * 2 ^ f ≡ 2 ^ 65 → 2 * x ≤ m * k + 1 → m * k ≤ 2 * x → n < 2 ^ 64 → c * 2 ^ 63 ≤ n * rounded_pi → n * rounded_pi < (c + 1) * 2 ^ 63 → IsWhole m f n x c
whole_is m f n x c k u least most few low high = record { k = k; some = some_of k (2 ^ f) u; unit = u; least = least; most = most; few = few; low = low; high = high }
  where
    some_of : (k g : ℕ) → k * g ≡ 2 ^ 65 → 0 < k
    some_of zero g e = absurd (omega arith)
    some_of (suc k) g e = omega arith

pub doubled : (f : ℕ) → f ≤ 64 → 2 ^ (65 - f) * 2 ^ f ≡ 2 ^ 65
doubled f l =
    let e : 65 - f + f ≡ 65 = omega arith in
    sym (pow-add 2 (65 - f) f) ∙ ap (λ (j : ℕ). 2 ^ j) e

pub as_units : (m f x from : ℕ) → f ≤ 64 → from ≡ m → m < 2 ^ 64 → x ≡ from * 2 ^ (64 - f) % 2 ^ 128 → m * 2 ^ (65 - f) ≡ 2 * x
as_units m f x from l e small is =
    let j : 65 - f ≡ 64 - f + 1 = omega arith in
    let d : 2 ^ (65 - f) ≡ 2 ^ (64 - f) * 2 = ap (λ (i : ℕ). 2 ^ i) j ∙ pow-add 2 (64 - f) 1 in
    let g = is ∙ ap (λ (i : ℕ). i * 2 ^ (64 - f) % 2 ^ 128) e ∙ shl_whole m 64 (64 - f) 128 small (omega arith) in
    let h : m * 2 ^ (65 - f) ≡ m * 2 ^ (64 - f) * 2 = ap (λ (i : ℕ). m * i) d ∙ sym (mul_assoc m (2 ^ (64 - f)) 2) in
    omega (arith, g, h)

-- the angle in parts
parts_least : (m k x : ℕ) → 2 * x ≤ m * k + 1 → 2 * 10 ^ 39 * (2 * x) ≤ 2 * 10 ^ 39 * m * k + 2 * 10 ^ 39
parts_least m k x l = let a = mul-le-mul_left (2 * 10 ^ 39) l in omega arith

parts_most : (m k x : ℕ) → m * k ≤ 2 * x → 2 * 10 ^ 39 * m * k ≤ 2 * 10 ^ 39 * (2 * x)
parts_most m k x l = let a = mul-le-mul_left (2 * 10 ^ 39) l in omega arith

pub behind : (p m f n x c : ℕ) → IsWhole m f n x c → IsBesidePi p → x ≤ c → c - x + 2 ≤ 2 ^ 64 → IsSplit p m f n true (c - x)
behind p m f n x c w i le few =
    let k = w.k in
    let b = n * (p * 2 ^ f) in
    let a = 2 * 10 ^ 39 * m in
    let low = quarters_low p f n k c w.unit i w.low in
    let high = quarters_high p f n k c w.unit i w.few w.high in
    let e = parts_least m k x w.least in
    let d = parts_most m k x w.most in
    let g : a * k ≤ b * k = omega arith in
    rest_below p m f n (c - x) k true w.some w.unit (le_of_mul-le-mul_right g w.some) (omega arith) (omega arith) few (inl refl)

ahead_far : (p m f n x c : ℕ) → IsWhole m f n x c → IsBesidePi p → c + 2 ≤ x → x - c ≤ 2 ^ 64 → IsSplit p m f n false (x - c - 2)
ahead_far p m f n x c w i le few =
    let k = w.k in
    let b = n * (p * 2 ^ f) in
    let a = 2 * 10 ^ 39 * m in
    let low = quarters_low p f n k c w.unit i w.low in
    let high = quarters_high p f n k c w.unit i w.few w.high in
    let e = parts_least m k x w.least in
    let d = parts_most m k x w.most in
    let g : b * k ≤ a * k = omega arith in
    rest_above p m f n (x - c - 2) k false w.some w.unit (le_of_mul-le-mul_right g w.some) (omega arith) (omega arith) (omega arith) (inl refl)

ahead_near : (p m f n x c : ℕ) → IsWhole m f n x c → IsBesidePi p → x ≡ c + 1 → IsSplit p m f n false 0
ahead_near p m f n x c w i one =
    let k = w.k in
    let b = n * (p * 2 ^ f) in
    let a = 2 * 10 ^ 39 * m in
    let low = quarters_low p f n k c w.unit i w.low in
    let high = quarters_high p f n k c w.unit i w.few w.high in
    let e = parts_least m k x w.least in
    let d = parts_most m k x w.most in
    elim (cases_lt a b) [
      | inl more ↦ let g = mul-le-mul_right {m = a} {n = b} k (omega arith) in rest_below p m f n 0 k false w.some w.unit (omega arith) (omega arith) (omega arith) (omega arith) (inr refl)
      | inr less ↦ let g = mul-le-mul_right {m = b} {n = a} k less in rest_above p m f n 0 k false w.some w.unit less (omega arith) (omega arith) (omega arith) (inr refl)
    ]

pub ahead : (p m f n x c : ℕ) → IsWhole m f n x c → IsBesidePi p → c < x → x - c ≤ 2 ^ 64 → IsSplit p m f n false (x - c - 2)
ahead p m f n x c w i lt few = elim (cases_lt (c + 1) x) [
  | inl more ↦ ahead_far p m f n x c w i (omega arith) few
  | inr less ↦
      let one : x ≡ c + 1 = omega arith in
      let z : x - c - 2 ≡ 0 = omega arith in
      subst (λ (t : ℕ). IsSplit p m f n false t) (sym z) (ahead_near p m f n x c w i one)
]

-- w is c - x and s is x - c - 2, each where it is above 0
pub on_a_side : (p m f n x c w s t : ℕ) → IsWhole m f n x c → IsBesidePi p → x < 2 ^ 128 → c < 2 ^ 128 → x < c + 2 ^ 64 → c + 2 < x + 2 ^ 64
    → (w + (x + (2 ^ 128 - c)) % 2 ^ 128 % 2 ^ 64) % 2 ^ 64 ≡ 0 → w < 2 ^ 64 → s ≡ (x + (2 ^ 128 - c)) % 2 ^ 128 % 2 ^ 64 - 2 → t ≡ (if leb x c then w else s) → IsSplit p m f n (leb x c) t
on_a_side p m f n x c w s t h i few few_c above below w_is few_w s_is t_is = go (leb x c) refl t_is
  where
    go : (b : Bool) → leb x c ≡ b → t ≡ (if b then w else s) → IsSplit p m f n b t
    go true e is =
        let le : x ≤ c = leb→le x c (subst T (sym e) tt) in
        let d : w ≡ c - x = omega arith in
        rw (is, d) (behind p m f n x c h i le (omega arith))
    go false e is =
        let lt : c < x = leb-false x c e in
        let d : s ≡ x - c - 2 = omega arith in
        rw (is, d) (ahead p m f n x c h i lt (omega arith))

-- no quarters: x is the rest
pub exact_rest : (p m f x k : ℕ) → 0 < k → k * 2 ^ f ≡ 2 ^ 65 → m * k ≡ 2 * x → x + 2 ≤ 2 ^ 64 → IsSplit p m f 0 false x
exact_rest p m f x k o u same few =
    let z : 0 * (p * 2 ^ f) ≡ 0 = omega arith in
    let y : 0 * (p * 2 ^ f) * k ≡ 0 = ap (λ (j : ℕ). j * k) z ∙ nothing k in
    let e : 2 * 10 ^ 39 * m * k ≡ 2 * 10 ^ 39 * (2 * x) = omega (arith, ap (λ (j : ℕ). 2 * 10 ^ 39 * j) same) in
    rest_above p m f 0 x k false o u (omega (arith, z)) (omega (arith, y, e)) (omega (arith, y, e)) few (inl refl)
  where
    nothing : (k : ℕ) → 0 * k ≡ 0
    nothing k = omega arith

-- ---- with the sign, and without whole turns
pub quarters_left : (n : ℕ) (w : ℕ) → (pos 4 *ℤ pos (n / 4) +ℤ pos (n % 4)) *ℤ pos w ≡ pos (n * w)
quarters_left n w =
    let e : pos 4 *ℤ pos (n / 4) +ℤ pos (n % 4) ≡ pos n = let d = div-add-mod' n 4 in omega (arith, ints) in
    ap (λ (z : ℤ). z *ℤ pos w) e

pub size_up : (a : ℤ) (m : ℕ) → (a <ℤ pos 0 → ⊥) → m ≡ unsigned_abs a → a ≡ pos m
size_up (pos n) m sign e = ap pos (sym e)
size_up (negsuc n) m sign e = absurd (sign (omega (arith, ints)))

pub size_down : (a : ℤ) (m : ℕ) → a <ℤ pos 0 → m ≡ unsigned_abs a → a ≡ neg_ℤ (pos m)
size_down (pos n) m sign e = absurd (omega (arith, ints))
size_down (negsuc n) m sign e = ap (λ (j : ℕ). neg_ℤ (pos j)) (sym e)

pub not_below : (p m f n t : ℕ) (a : ℤ) (below : Bool) → (a <ℤ pos 0 → ⊥) → m ≡ unsigned_abs a → IsSplit p m f n below t → IsReducedTo p a f (n % 4) below t
not_below p m f n t a below sign size s =
    let e = size_up a m sign size in
    let units : pos (2 * 10 ^ 39) *ℤ a ≡ pos (2 * 10 ^ 39 * m) = ap (λ (z : ℤ). pos (2 * 10 ^ 39) *ℤ z) e in
    record {
      turns = pos (n / 4);
      sign = s.sign;
      rest = s.rest;
      angle = record { is = units ∙ s.is ∙ ap (λ (z : ℤ). z +ℤ with_sign s.sign s.rest) (sym (quarters_left n (p * 2 ^ f))); quarters = omega arith; small = s.small };
      under = s.under;
      sure = s.sure;
    }

other_sure : (b c : Bool) (t : ℕ) → (b ≡ c) ⊎ (t ≡ 0) → (not b ≡ not c) ⊎ (t ≡ 0)
other_sure b c t (inl e) = inl (ap not e)
other_sure b c t (inr z) = inr z

-- w is minus n, besides whole turns
pub is_below : (p m f n w t : ℕ) (a : ℤ) (below : Bool) → a <ℤ pos 0 → m ≡ unsigned_abs a → (w + n) % 2 ^ 64 ≡ 0 → IsSplit p m f n below t → IsReducedTo p a f (w % 4) (not below) t
is_below p m f n w t a below sign size none s =
    let e = size_down a m sign size in
    let v = (w + n) / 2 ^ 64 * 2 ^ 62 in
    let d = div-add-mod' (w + n) (2 ^ 64) in
    let j = div-add-mod' w 4 in
    let turns = pos (w / 4) -ℤ pos v in
    let q : pos 4 *ℤ turns +ℤ pos (w % 4) ≡ neg_ℤ (pos n) = omega (arith, ints, d, none) in
    let x = p * 2 ^ f in
    let units : pos (2 * 10 ^ 39) *ℤ a ≡ neg_ℤ (pos (2 * 10 ^ 39 * m)) = ap (λ (z : ℤ). pos (2 * 10 ^ 39) *ℤ z) e ∙ minus_times m in
    let all : (pos 4 *ℤ turns +ℤ pos (w % 4)) *ℤ pos x ≡ neg_ℤ (pos (n * x)) = ap (λ (z : ℤ). z *ℤ pos x) q ∙ negative_times (pos n) x in
    let o = other_way s.sign s.rest in
    let i = s.is in
    record {
      turns = turns;
      sign = not s.sign;
      rest = s.rest;
      angle = record { is = units ∙ minus_both (pos (2 * 10 ^ 39 * m)) (pos (n * x)) (with_sign s.sign s.rest) i ∙ ap (λ (z : ℤ). z +ℤ neg_ℤ (with_sign s.sign s.rest)) (sym all) ∙ ap (λ (z : ℤ). (pos 4 *ℤ turns +ℤ pos (w % 4)) *ℤ pos x +ℤ z) (sym o); quarters = omega arith; small = s.small };
      under = s.under;
      sure = other_sure s.sign below t s.sure;
    }
  where
    minus_times : (m : ℕ) → pos (2 * 10 ^ 39) *ℤ neg_ℤ (pos m) ≡ neg_ℤ (pos (2 * 10 ^ 39 * m))
    minus_times m = omega (arith, ints)

    minus_both : (x y z : ℤ) → x ≡ y +ℤ z → neg_ℤ x ≡ neg_ℤ y +ℤ neg_ℤ z
    minus_both x y z e = omega (arith, ints)
