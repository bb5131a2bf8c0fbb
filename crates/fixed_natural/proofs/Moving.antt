-- The exponent of a power of e, and the power, in a word.
use Rattle.std.proofs.Common.{◌≡◌, ◌+◌, ◌-◌, ◌*◌, ◌^◌, ◌<◌, ◌≤◌, ◌<ℤ◌, ◌-ℤ◌, ℕ, ℤ, Bool, Option, Some, None, pos, suc, zero, negsuc, refl, ap, sym, ◌∙◌, inl, inr, arith, rules}
use Rattle.std.specs.Prelude.{min, unsigned_abs}
use Rattle.std.proofs.lemmas.Int.{ints}
use Rattle.std.proofs.lemmas.Bool.{cases_lt}
use Rattle.std.proofs.lemmas.Nat.{mul-le, pow-add, pow_pos, shl_below}
use Rattle.std.proofs.Math.Nat.{lt_of_mul-lt-mul_right, mul-le-mul_right, pow-le-pow_right, pow-lt-pow_left, pow-zero, pow-suc}
use Rattle.fixed_elementary.proofs.Reading.{pow_times}
use Rattle.fixed_word.specs.Format.{IsWidth}
use Rattle.fixed_word.specs.Standing.{StandsFor}
use Rattle.fixed_word.specs.declared.outcome.Outcome.{Outcome}
use Rattle.fixed_elementary.specs.Exp2.{IsExp2Up, StandsUpTo}
use Rattle.fixed_elementary.proofs.Raised.{above_all}
use Rattle.fixed_natural.specs.Bases.{decimals, log2_e}
use Rattle.fixed_natural.specs.Exps.{IsExp, IsExpTo, exp_room}
use Rattle.fixed_natural.specs.inside.Exponent.{IsExponentTo}
use Rattle.fixed_natural.specs.inside.Scaling.{IsInverse, IsQuotient}
use Rattle.fixed_natural.proofs.Raising.{exp_above, exp_below, lowered_above, lowered_below, raised_above, raised_below}

-- ---- in 128 bits

moved_fits : (m f g : ℕ) → m < 2 ^ 64 → f ≤ g + 1 → g ≤ 63 → m * 2 ^ (g + 1 - f) ≤ 2 ^ (128 - f)
moved_fits m f g l h few =
    let a = shl_below m 64 (g + 1 - f) l in
    let b : 2 ^ (64 + (g + 1 - f)) ≤ 2 ^ (128 - f) = pow-le-pow_right {n = 2} (omega arith) (omega arith) in
    omega arith

quotient_small : (x c e t : ℕ) → x ≤ 2 ^ t → e * 2 ^ 128 ≤ x * c → e * 2 ^ 128 ≤ c * 2 ^ t
quotient_small x c e t h l = let a = mul-le-mul_right c h in omega arith

pub sum_fits : (m f g c e : ℕ) → m < 2 ^ 64 → f ≤ g + 1 → g ≤ 63 → c + 3 < 2 ^ 128 → e * (2 ^ 128 * 2 ^ 0) ≤ m * 2 ^ (g + 1 - f) * c → f * 2 ^ g + e + 3 < 2 ^ 128
sum_fits m zero g c e l h few less q =
    let one : 2 ^ 0 ≡ 1 = refl in
    let a = moved_fits m zero g l h few in
    let b : m * 2 ^ (g + 1 - zero) ≤ 2 ^ 128 = a in
    let k = quotient_small (m * 2 ^ (g + 1 - zero)) c e 128 b (omega arith) in
    omega arith
sum_fits m (suc f) g c e l h few less q =
    let one : 2 ^ 0 ≡ 1 = refl in
    let a = moved_fits m (suc f) g l h few in
    let b : 2 ^ (128 - suc f) ≤ 2 ^ 127 = pow-le-pow_right {n = 2} (omega arith) {i = 128 - suc f} {j = 127} (omega arith) in
    let k = quotient_small (m * 2 ^ (g + 1 - suc f)) c e 127 (omega arith) (omega arith) in
    let p : 2 ^ g ≤ 2 ^ 63 = pow-le-pow_right {n = 2} (omega arith) few in
    let s = mul-le (suc f) (2 ^ g) 64 (2 ^ 63) (omega arith) p in
    omega arith

-- ---- the exponent

twice : (f g : ℕ) → f ≤ g + 1 → 2 * 2 ^ g ≡ 2 ^ (g + 1 - f) * 2 ^ f
twice f g h =
    let e : g + 1 - f + f ≡ g + 1 = omega arith in
    let a : 2 ^ (g + 1 - f + f) ≡ 2 ^ (g + 1) = ap (λ k. 2 ^ k) e in
    let b = pow-add 2 g 1 in
    let c = pow-add 2 (g + 1 - f) f in
    omega arith

whole : (m f g : ℕ) → m < 2 ^ 64 → f ≤ g + 1 → g ≤ 63 → m * 2 ^ (g + 1 - f) ≤ 2 ^ 128
whole m f g l h few =
    let a = moved_fits m f g l h few in
    let b : 2 ^ (128 - f) ≤ 2 ^ 128 = pow-le-pow_right {n = 2} (omega arith) {i = 128 - f} {j = 128} (omega arith) in
    omega arith

pub some_is : {x y : ℕ} → Some x ≡ Some y → x ≡ y
some_is e = search rules

pub none_is : {x : ℕ} → None ≡ Some x → ⊥
none_is e = search rules

pub exponent_up : (p q : ℕ) (a : ℤ) (f g m c e : ℕ) → 0 < q → f ≤ g + 1 → g ≤ 63 → (a <ℤ pos 0 → ⊥) → m ≡ unsigned_abs a → m < 2 ^ 64 → IsInverse c (2 * q) p
    → IsQuotient (m * 2 ^ (g + 1 - f) * c) (2 ^ 128 * 2 ^ 0) e → IsExponentTo p q a f g (Some (f * 2 ^ g + e + 3))
exponent_up p q a f g m c e some h few sign same l i d =
    let one : 2 ^ 0 ≡ 1 = refl in
    let o : 0 < 2 ^ 128 = omega arith in
    let t = twice f g h in
    let low : e * 2 ^ 128 ≤ m * 2 ^ (g + 1 - f) * c = omega (arith, d.below) in
    let high : m * 2 ^ (g + 1 - f) * c ≤ (e + 1) * 2 ^ 128 = omega (arith, d.above) in
    let first = raised_below m (2 ^ f) (2 ^ g) (2 ^ (g + 1 - f)) p q c (2 ^ 128) e o t low i.below in
    let second = raised_above m (2 ^ f) (2 ^ g) (2 ^ (g + 1 - f)) p q c (2 ^ 128) e o t high (whole m f g l h few) i.above in
    record {
      up = m;
      down = 0;
      value = from_zero a m sign same;
      least = λ z is. rw (sym (some_is is)) (omega arith);
      most = λ z is. rw (sym (some_is is)) (omega arith);
      none = λ is. absurd (none_is (sym is));
    }
  where
    from_zero : (a : ℤ) (m : ℕ) → (a <ℤ pos 0 → ⊥) → m ≡ unsigned_abs a → a ≡ pos m -ℤ pos 0
    from_zero (pos n) m s e = let k : m ≡ n = e in omega (arith, ints)
    from_zero (negsuc n) m s e = absurd (s (omega (arith, ints)))

below_zero : (a : ℤ) (m : ℕ) → a <ℤ pos 0 → m ≡ unsigned_abs a → a ≡ pos 0 -ℤ pos m
below_zero (pos n) m l e = absurd (omega (arith, ints))
below_zero (negsuc n) m l e = let k : m ≡ suc n = e in omega (arith, ints)

pub exponent_down : (p q : ℕ) (a : ℤ) (f g m c e : ℕ) (z : Option ℕ) → 0 < q → f ≤ g + 1 → g ≤ 63 → a <ℤ pos 0 → m ≡ unsigned_abs a → m < 2 ^ 64 → IsInverse c (2 * q) p
    → IsQuotient (m * 2 ^ (g + 1 - f) * (c + 1)) (2 ^ 128 * 2 ^ 0) e → (f * 2 ^ g + 2 < e → z ≡ None) → (e ≤ f * 2 ^ g + 2 → z ≡ Some (f * 2 ^ g + 2 - e)) → IsExponentTo p q a f g z
exponent_down p q a f g m c e z some h few sign same l i d nothing something =
    let one : 2 ^ 0 ≡ 1 = refl in
    let o : 0 < 2 ^ 128 = omega arith in
    let t = twice f g h in
    let low : e * 2 ^ 128 ≤ m * 2 ^ (g + 1 - f) * (c + 1) = omega (arith, d.below) in
    let high : m * 2 ^ (g + 1 - f) * (c + 1) ≤ (e + 1) * 2 ^ 128 = omega (arith, d.above) in
    let first = lowered_below m (2 ^ f) (2 ^ g) (2 ^ (g + 1 - f)) p q c (2 ^ 128) e o t high i.above in
    let second = lowered_above m (2 ^ f) (2 ^ g) (2 ^ (g + 1 - f)) p q c (2 ^ 128) e o t low (whole m f g l h few) i.below in
    let n = 2 ^ f * q in
    elim (cases_lt (f * 2 ^ g + 2) e) [
      | inl more ↦
          let is = nothing more in
          let k : (f * 2 ^ g + 3) * n ≤ e * n = mul-le-mul_right n (omega arith) in
          let some_n : 0 < n = mul-le 1 1 (2 ^ f) q (pow_pos f) some in
          let s : f * 2 ^ f * q * 2 ^ g < m * p * 2 ^ g = omega arith in
          let u = lt_of_mul-lt-mul_right (2 ^ g) s in
          record {
            up = 0;
            down = m;
            value = below_zero a m sign same;
            least = λ y has. absurd (none_is (sym is ∙ has));
            most = λ y has. absurd (none_is (sym is ∙ has));
            none = λ has. omega arith;
          }
      | inr fine ↦
          let is = something fine in
          let y = f * 2 ^ g + 2 - e in
          let all : (y + e) * n ≡ (f * 2 ^ g + 2) * n = let s : y + e ≡ f * 2 ^ g + 2 = omega arith in ap (λ k. k * n) s in
          record {
            up = 0;
            down = m;
            value = below_zero a m sign same;
            least = λ k has. rw (some_is (sym has ∙ is)) (omega arith);
            most = λ k has. rw (some_is (sym has ∙ is)) (omega arith);
            none = λ has. absurd (none_is (sym has ∙ is));
          }
    ]

-- ---- the power

exp_to : (p q : ℕ) (a : ℤ) (f k z r : ℕ) → 0 < q → k + 2 ≤ 117 → IsExponentTo p q a f (k + 2) (Some z) → IsExp2Up 117 z (k + 2) r → IsExpTo p q a f k r
exp_to p q a f k z r some few e is =
    let n = 2 ^ f * q in
    let o : 0 < n = mul-le 1 1 (2 ^ f) q (pow_pos f) some in
    let none : 0 ≤ 117 = omega arith in
    let zero_near = is.near 0 none in
    let near = is.near (k + 2) few in
    let x = e.up * p + f * 2 ^ f * q in
    let four : 2 ^ (k + 2) ≡ 4 * 2 ^ k = pow-add 2 k 2 ∙ omega arith in
    let s = mul-le-mul_right (2 ^ k) (e.least z refl) in
    let t : n * 2 ^ (k + 2) ≡ 4 * n * 2 ^ k = ap (λ y. n * y) four ∙ omega arith in
    record {
      up = e.up;
      down = e.down;
      value = e.value;
      below = exp_below r (n * 2 ^ k) (k + 2) z (e.down * p * 2 ^ k) (x * 2 ^ k + n) zero_near.below (omega arith);
      above = exp_above (r + 1) n (k + 2) z (e.down * p) x o near.above (e.most z refl);
    }

power_less : (i j : ℕ) → i < j → 2 ^ i < 2 ^ j
power_less i j l =
    let p : 2 ^ suc i ≤ 2 ^ j = pow-le-pow_right {n = 2} (omega arith) {i = suc i} {j = j} l in
    omega (arith, pow-suc 2 i, pow_pos i)

nothing_raised : (n v x : ℕ) → 0 < n → 0 ^ n * 2 ^ v ≤ 2 ^ x
nothing_raised (suc n) v x o =
    let e : 0 ^ suc n ≡ 0 = pow-suc 0 n ∙ omega arith in
    rw e (omega arith)
nothing_raised zero v x o = absurd (omega arith)

one_raised : (n : ℕ) → 1 ^ n ≡ 1
one_raised zero = pow-zero 1
one_raised (suc n) = pow-suc 1 n ∙ ap (λ (x : ℕ). x * 1) (one_raised n)

exp_to_none : (p q : ℕ) (a : ℤ) (f h k : ℕ) → 0 < q → IsExponentTo p q a f h None → IsExpTo p q a f k 0
exp_to_none p q a f h k some e =
    let n = 2 ^ f * q * 2 ^ k in
    let o : 0 < n = mul-le 1 1 (2 ^ f * q) (2 ^ k) (mul-le 1 1 (2 ^ f) q (pow_pos f) some) (pow_pos k) in
    let x = e.up * p + f * 2 ^ f * q in
    let one = one_raised (2 ^ f * q) in
    let up = power_less x (e.down * p) (e.none refl) in
    record {
      up = e.up;
      down = e.down;
      value = e.value;
      below = nothing_raised n (e.down * p * 2 ^ k) (x * 2 ^ k + 2 ^ f * q) o;
      above = rw one (omega arith);
    }

exp_to_one : (p q f k : ℕ) → 0 < q → IsExpTo p q (pos 0) f k (2 ^ f)
exp_to_one p q f k some =
    let n = 2 ^ f * q in
    let o : 0 < n = mul-le 1 1 (2 ^ f) q (pow_pos f) some in
    let a = pow_times 2 f (n * 2 ^ k) in
    let b = pow_times 2 f n in
    let c : 2 ^ (f * (n * 2 ^ k)) ≤ 2 ^ ((0 * p + f * 2 ^ f * q) * 2 ^ k + n) = pow-le-pow_right {n = 2} (omega arith) {i = f * (n * 2 ^ k)} {j = (0 * p + f * 2 ^ f * q) * 2 ^ k + n} (omega arith) in
    let unit = pow-zero 2 in
    let z : 0 * p * 2 ^ k ≡ 0 = omega arith in
    let y : 0 * p ≡ 0 = omega arith in
    let s : 0 * p + f * 2 ^ f * q ≡ f * n = omega arith in
    let up : (2 ^ f) ^ n < (2 ^ f + 1) ^ n = pow-lt-pow_left (omega arith) (omega arith) in
    let nothing : pos 0 ≡ pos 0 -ℤ pos 0 = refl in
    record {
      up = 0;
      down = 0;
      value = nothing;
      below = rw (z, unit) (omega arith);
      above = rw (s, y, unit) (omega arith);
    }

pub exp_is_one : (a : ℤ) (m f r : ℕ) → m ≡ unsigned_abs a → m ≡ 0 → r ≡ 2 ^ f → IsExp a f (pos r)
exp_is_one (pos n) m f r e z is =
    let none : n ≡ 0 = sym e ∙ z in
    let some : 0 < decimals = omega arith in
    rw (none, is) (record {
      units = 2 ^ f;
      value = refl;
      low = exp_to_one log2_e decimals f exp_room some;
      high = exp_to_one (log2_e + 1) decimals f exp_room some;
      exact = λ same. refl;
    })
exp_is_one (negsuc n) m f r e z is = let k : m ≡ suc n = e in absurd (omega arith)

not_none : (a : ℤ) (m : ℕ) → m ≡ unsigned_abs a → (m ≡ 0 → ⊥) → a ≡ pos 0 → ⊥
not_none a m e some none = some (e ∙ ap unsigned_abs none)

pub exp_is : (a : ℤ) (m f z r : ℕ) → m ≡ unsigned_abs a → (m ≡ 0 → ⊥) → ((p q : ℕ) → 0 < q → IsInverse 0xb8aa3b295c17f0bbbe87fed0691d3e88 (2 * q) p → IsExponentTo p q a f (exp_room + 2) (Some z))
    → IsExp2Up 117 z (exp_room + 2) r → IsExp a f (pos r)
exp_is a m f z r e nonzero to is =
    let some : 0 < decimals = omega arith in
    let first = to log2_e decimals some (record { below = omega arith; above = omega arith }) in
    let second = to (log2_e + 1) decimals some (record { below = omega arith; above = omega arith }) in
    record {
      units = r;
      value = refl;
      low = exp_to log2_e decimals a f exp_room z r some (omega arith) first is;
      high = exp_to (log2_e + 1) decimals a f exp_room z r some (omega arith) second is;
      exact = λ none. absurd (not_none a m e nonzero none);
    }

pub exp_is_none : (a : ℤ) (m f : ℕ) → m ≡ unsigned_abs a → (m ≡ 0 → ⊥) → ((p q : ℕ) → 0 < q → IsInverse 0xb8aa3b295c17f0bbbe87fed0691d3e88 (2 * q) p → IsExponentTo p q a f (exp_room + 2) None) → IsExp a f (pos 0)
exp_is_none a m f e nonzero to =
    let some : 0 < decimals = omega arith in
    let first = to log2_e decimals some (record { below = omega arith; above = omega arith }) in
    let second = to (log2_e + 1) decimals some (record { below = omega arith; above = omega arith }) in
    record {
      units = 0;
      value = refl;
      low = exp_to_none log2_e decimals a f (exp_room + 2) exp_room some first;
      high = exp_to_none (log2_e + 1) decimals a f (exp_room + 2) exp_room some second;
      exact = λ none. absurd (not_none a m e nonzero none);
    }

-- ---- the outcome

pub stands : {T : Type 0} (value : T → ℤ) (s : Bool) (n r m : ℕ) (o : Outcome T) → IsWidth n → m ≡ min r (2 ^ 64) → StandsFor value s n (pos m) o → StandsUpTo value s n (pos r) o
stands value s n r m o w e h =
    let l = width_most n w in
    let p : 2 ^ n ≤ 2 ^ 64 = pow-le-pow_right {n = 2} (omega arith) {i = n} {j = 64} l.1 in
    record {
      other = pos m;
      alike = elim (cases_lt r (2 ^ 64)) [
        | inl less ↦ let t : m ≡ r = e ∙ grind arith in inl (ap pos t)
        | inr fine ↦ let t : m ≡ 2 ^ 64 = e ∙ grind arith in inr (above_all s n m l.0 (omega arith), above_all s n r l.0 (omega arith))
      ];
      stands = h;
    }
  where
    width_most : (n : ℕ) → IsWidth n → (1 ≤ n) × (n ≤ 64)
    width_most n w = grind arith

pub stands_itself : {T : Type 0} (value : T → ℤ) (s : Bool) (n : ℕ) (x : ℤ) (o : Outcome T) → StandsFor value s n x o → StandsUpTo value s n x o
stands_itself value s n x o h = record { other = x; alike = inl refl; stands = h }
