-- The sine and the cosine of one angle, rounded: the sum of their squares is near 1.
use Rattle.std.proofs.Common.{◌≡◌, ◌⊎◌, ◌+◌, ◌-◌, ◌*◌, ◌^◌, ◌<◌, ◌≤◌, ◌+ℤ◌, ◌-ℤ◌, ◌*ℤ◌, ℕ, ℤ, Bool, true, false, zero, suc, pos, negsuc, neg_ℤ, refl, subst, sym, ap, ◌∙◌, inl, inr, arith}
use Rattle.std.specs.Prelude.{unsigned_abs}
use Rattle.std.proofs.lemmas.Bool.{cases_lt}
use Rattle.std.proofs.lemmas.Int.{ints}
use Rattle.std.proofs.lemmas.Nat.{mul-le, pow-add, pow_pos}
use Rattle.std.proofs.Math.Nat.{le_of_mul-le-mul_right, mul-le-mul_left, mul-le-mul_right, pow-le-pow_right}
use Rattle.fixed_word.specs.Format.{with_sign}
use Rattle.fixed_word.proofs.Wraps.{neg-times, plus_times}
use Rattle.fixed_turns.specs.Series.{Fraction, cosine_series, sine_series}
use Rattle.fixed_turns.specs.Sines.{IsCosine, IsNear, IsOfUnitLength, IsSine, IsSineBy, pi, radians}
use Rattle.fixed_turns.specs.Radians.{IsRadianCosine, IsRadianSine, parts}
use Rattle.fixed_turns.proofs.Circle.{IsOnCircle, cosines, quotients, same, sines}
use Rattle.fixed_turns.proofs.TurnLaws.{negative_times}

-- ---- p / d and q / d are a sine and a cosine: their squares are 1 in sum, up to 1 / t, so that they themselves are 71/50 at
-- most. In units of 1 / f, up to h / l units, they are m and n
twice_product : (p q : ℕ) → 2 * (p * q) ≤ p * p + q * q
twice_product p q = elim (cases_lt p q) [
  | inl less ↦ at_most p q (omega arith)
  | inr fine ↦ let h = at_most q p fine in omega arith
]
  where
    at_most : (p q : ℕ) → p ≤ q → 2 * (p * q) ≤ p * p + q * q
    at_most p q l = let e : q ≡ p + (q - p) = omega arith in rw e (omega arith)

sum_at_most : (p q d t : ℕ) → 0 < d → 1000 ≤ t → t * (p * p + q * q) ≤ (t + 1) * (d * d) → 50 * (p + q) ≤ 71 * d
sum_at_most p q d t o many circle = elim (cases_lt (71 * d) (50 * (p + q))) [
  | inl more ↦
      let a = mul-le (71 * d) (71 * d) (50 * (p + q)) (50 * (p + q)) (omega arith) (omega arith) in
      let b = mul-le-mul_left t a in
      let c = mul-le-mul_left t (twice_product p q) in
      let e = mul-le-mul_right (d * d) many in
      let s = mul-le 1 1 d d o o in
      absurd (omega arith)
  | inr fine ↦ fine
]

square_below : (m l d f p h : ℕ) → m * l * d ≤ f * l * p + h * d → m * l * d * (m * l * d) ≤ f * l * (f * l) * (p * p) + 2 * (f * l * h * d * p) + h * h * (d * d)
square_below m l d f p h a = let b = mul-le (m * l * d) (m * l * d) (f * l * p + h * d) (f * l * p + h * d) a a in omega arith

square_above : (x y e : ℕ) → x ≤ y + e → x * x ≤ y * y + 2 * (x * e)
square_above x y e a = elim (cases_lt x e) [
  | inl less ↦ let b = mul-le-mul_left {m = x} {n = e} x (omega arith) in omega arith
  | inr fine ↦
      let is : x ≡ (x - e) + e = omega arith in
      let b = mul-le (x - e) (x - e) y y (omega arith) (omega arith) in
      rw is (omega arith)
]

-- s is m^2 + n^2: it is f^2, up to 4 f h / l
above_by : (s l d f p q h t : ℕ) → 0 < d → 0 < t → 256 * h ≤ 129 * (f * l) → 25 * (f * l) ≤ 3 * t * h → 50 * (p + q) ≤ 71 * d → t * (p * p + q * q) ≤ (t + 1) * (d * d)
    → l * l * s * (d * d) ≤ f * l * (f * l) * (p * p + q * q) + 2 * (f * l * h * d * (p + q)) + 2 * (h * h * (d * d)) → l * l * s ≤ f * l * (f * l) + 4 * (f * l * h)
above_by s l d f p q h t o many small less few circle squares =
    let g = f * l in
    let a = mul-le-mul_left (25 * t) squares in
    let b = mul-le-mul_left (25 * (g * g)) circle in
    let c = mul-le-mul_left (t * (g * h * d)) few in
    let e = mul-le-mul_left (t * h * (d * d)) small in
    let i = mul-le-mul_left (g * (d * d)) less in
    let j : l * l * s * (256 * 25 * t * (d * d)) ≤ (g * g + 4 * (g * h)) * (256 * 25 * t * (d * d)) = omega arith in
    le_of_mul-le-mul_right j (mul-le 1 1 (256 * 25 * t) (d * d) (omega arith) (mul-le 1 1 d d o o))

below_by : (s l d f p q h t : ℕ) → 0 < d → 0 < t → 25 * (f * l) ≤ 3 * t * h → 50 * (p + q) ≤ 71 * d → t * (d * d) ≤ t * (p * p + q * q) + d * d
    → f * l * (f * l) * (p * p + q * q) ≤ l * l * s * (d * d) + 2 * (f * l * h * d * (p + q)) → f * l * (f * l) ≤ l * l * s + 4 * (f * l * h)
below_by s l d f p q h t o many less few circle squares =
    let g = f * l in
    let a = mul-le-mul_left (25 * t) squares in
    let b = mul-le-mul_left (25 * (g * g)) circle in
    let c = mul-le-mul_left (t * (g * h * d)) few in
    let i = mul-le-mul_left (g * (d * d)) less in
    let j : g * g * (25 * t * (d * d)) ≤ (l * l * s + 4 * (g * h)) * (25 * t * (d * d)) = omega arith in
    le_of_mul-le-mul_right j (mul-le 1 1 (25 * t) (d * d) (omega arith) (mul-le 1 1 d d o o))

-- so with l = 2 k and h = k + 2 f, where k is 2^8 at least and t / 16 at most
sum_above : (m n k d f p q t : ℕ) → 0 < d → 0 < f → 256 ≤ k → 16 * k ≤ t → t * (p * p + q * q) ≤ (t + 1) * (d * d)
    → m * (2 * k) * d ≤ f * (2 * k) * p + (k + 2 * f) * d → n * (2 * k) * d ≤ f * (2 * k) * q + (k + 2 * f) * d → k * (m * m + n * n) ≤ k * (f * f) + 2 * f * (k + 2 * f)
sum_above m n k d f p q t o some least most circle low high =
    let l = 2 * k in
    let h = k + 2 * f in
    let a = square_below m l d f p h low in
    let b = square_below n l d f q h high in
    let c = sum_at_most p q d t o (omega arith) circle in
    let e = mul-le-mul_left (2 * k) some in
    let g = mul-le-mul_left (2 * f) least in
    let i = mul-le-mul_left f most in
    let small : 256 * h ≤ 129 * (f * l) = omega arith in
    let less : 25 * (f * l) ≤ 3 * t * h = omega arith in
    let s = above_by (m * m + n * n) l d f p q h t o (omega arith) small less c circle (omega arith) in
    let j : k * (m * m + n * n) * (4 * k) ≤ (k * (f * f) + 2 * f * h) * (4 * k) = omega arith in
    le_of_mul-le-mul_right j (omega arith)

sum_below : (m n k d f p q t : ℕ) → 0 < d → 0 < f → 256 ≤ k → 16 * k ≤ t → t * (p * p + q * q) ≤ (t + 1) * (d * d) → t * (d * d) ≤ t * (p * p + q * q) + d * d
    → f * (2 * k) * p ≤ m * (2 * k) * d + (k + 2 * f) * d → f * (2 * k) * q ≤ n * (2 * k) * d + (k + 2 * f) * d → k * (f * f) ≤ k * (m * m + n * n) + 2 * f * (k + 2 * f)
sum_below m n k d f p q t o some least most above circle low high =
    let l = 2 * k in
    let h = k + 2 * f in
    let a = square_above (f * l * p) (m * l * d) (h * d) low in
    let b = square_above (f * l * q) (n * l * d) (h * d) high in
    let c = sum_at_most p q d t o (omega arith) above in
    let i = mul-le-mul_left f most in
    let less : 25 * (f * l) ≤ 3 * t * h = omega arith in
    let s = below_by (m * m + n * n) l d f p q h t o (omega arith) less c circle (omega arith) in
    let j : k * (f * f) * (4 * k) ≤ (k * (m * m + n * n) + 2 * f * h) * (4 * k) = omega arith in
    le_of_mul-le-mul_right j (omega arith)

-- ---- the magnitude of a sine by quarters is near that series, or that of the cosine
unfoldable series_at : ℕ → Fraction → ℕ → Fraction
series_at zero y n = sine_series y n
series_at (suc zero) y n = cosine_series y n
series_at (suc (suc q)) y n = series_at q y n

size_signed : (b : Bool) (m : ℕ) → unsigned_abs (with_sign b m) ≡ m
size_signed true zero = refl
size_signed true (suc m) = refl
size_signed false m = refl

size_negated : (r : ℤ) → unsigned_abs (neg_ℤ r) ≡ unsigned_abs r
size_negated r = omega (arith, ints)

near_size : (k q : ℕ) (b : Bool) (y : Fraction) (f : ℕ) (r : ℤ) → IsSineBy k q b y f r → (n : ℕ) → IsNear k (series_at q y (n + 10)) f (unsigned_abs r)
unfolding IsSineBy series_at
near_size k zero b y f r h n = subst (λ (m : ℕ). IsNear k (sine_series y (n + 10)) f m) (sym (size_signed b h.0) ∙ ap unsigned_abs (sym h.1)) (h.2.near n)
near_size k (suc zero) b y f r h n = subst (λ (m : ℕ). IsNear k (cosine_series y (n + 10)) f m) (ap unsigned_abs (sym h.1)) (h.2.near n)
near_size k (suc (suc q)) b y f r h n = subst (λ (m : ℕ). IsNear k (series_at q y (n + 10)) f m) (size_negated r) (near_size k q b y f (neg_ℤ r) h n)

-- ---- numbers near a sine and a cosine, each over its denominator
over_low : (m l d f n h e : ℕ) → m * l * d ≤ f * l * n + h * d → m * l * (d * e) ≤ f * l * (n * e) + h * (d * e)
over_low m l d f n h e a = let b = mul-le-mul_right e a in omega arith

over_high : (m l d f n h e : ℕ) → f * l * n ≤ m * l * d + h * d → f * l * (n * e) ≤ m * l * (d * e) + h * (d * e)
over_high m l d f n h e a = let b = mul-le-mul_right e a in omega arith

-- the squares of m and n, where g is 2 f
record IsBoth (m n k f l g : ℕ) : Type 0 where
  below : k * (m * m + n * n) ≤ k * (f * f) + g * (k + g)
  above : k * (f * f) ≤ k * (m * m + n * n) + g * (k + g)

both_near : (m n k f l g : ℕ) (x y : Fraction) → l ≡ 2 * k → g ≡ 2 * f → 0 < f → 2 ^ 8 ≤ k → k ≤ 2 ^ 76 → IsOnCircle x y
    → m * l * x.den ≤ f * l * x.num + (k + g) * x.den → f * l * x.num ≤ m * l * x.den + (k + g) * x.den
    → n * l * y.den ≤ f * l * y.num + (k + g) * y.den → f * l * y.num ≤ n * l * y.den + (k + g) * y.den → IsBoth m n k f l g
both_near m n k f l g x y u v some least most circle a b c e =
    let d = x.den * y.den in
    let p = x.num * y.den in
    let q = y.num * x.den in
    let t = 2 ^ 80 in
    let o = mul-le 1 1 x.den y.den circle.first circle.second in
    let turn : y.den * x.den ≡ d = omega arith in
    let a1 : m * (2 * k) * d ≤ f * (2 * k) * p + (k + 2 * f) * d = over_low m (2 * k) x.den f x.num (k + 2 * f) y.den (rw (sym u, sym v) a) in
    let b1 : f * (2 * k) * p ≤ m * (2 * k) * d + (k + 2 * f) * d = over_high m (2 * k) x.den f x.num (k + 2 * f) y.den (rw (sym u, sym v) b) in
    let c1 : n * (2 * k) * d ≤ f * (2 * k) * q + (k + 2 * f) * d = rw (sym turn) (over_low n (2 * k) y.den f y.num (k + 2 * f) x.den (rw (sym u, sym v) c)) in
    let e1 : f * (2 * k) * q ≤ n * (2 * k) * d + (k + 2 * f) * d = rw (sym turn) (over_high n (2 * k) y.den f y.num (k + 2 * f) x.den (rw (sym u, sym v) e)) in
    let r = sum_above m n k d f p q t (omega arith) some (omega arith) (omega arith) circle.below a1 c1 in
    let s = sum_below m n k d f p q t (omega arith) some (omega arith) (omega arith) circle.below circle.above b1 e1 in
    record { below = rw v r; above = rw v s }

of_unit_length : (k f : ℕ) (x y : Fraction) (s c : ℤ) → 8 ≤ k → k ≤ 76 → IsOnCircle x y → IsNear k x f (unsigned_abs s) → IsNear k y f (unsigned_abs c) → IsOfUnitLength k f s c
of_unit_length k f x y s c least most circle near other =
    let u = pow-add 2 k 1 in
    let v = pow-add 2 f 1 in
    let low : 2 ^ 8 ≤ 2 ^ k = pow-le-pow_right {n = 2} (omega arith) {i = 8} {j = k} least in
    let high : 2 ^ k ≤ 2 ^ 76 = pow-le-pow_right {n = 2} (omega arith) {i = k} {j = 76} most in
    let b = both_near (unsigned_abs s) (unsigned_abs c) (2 ^ k) (2 ^ f) (2 ^ (k + 1)) (2 ^ (f + 1)) x y (u ∙ omega arith) (v ∙ omega arith) (pow_pos f) low high circle near.below near.above other.below other.above in
    record { below = b.below; above = b.above }

-- ---- two ways to reduce one angle: the quarters are the same, or one apart, and then the rests are a quarter in sum
none_apart : (b c : Bool) (x y : ℕ) → with_sign c y -ℤ with_sign b x ≡ pos 0 → x ≡ y
none_apart true true x y e = omega (arith, ints)
none_apart true false x y e = omega (arith, ints)
none_apart false true x y e = omega (arith, ints)
none_apart false false x y e = omega (arith, ints)

one_apart : (b c : Bool) (x y g : ℕ) → x < g → y < g → with_sign c y -ℤ with_sign b x ≡ pos g → x + y ≡ g
one_apart true true x y g l m e = omega (arith, ints)
one_apart true false x y g l m e = omega (arith, ints)
one_apart false true x y g l m e = omega (arith, ints)
one_apart false false x y g l m e = omega (arith, ints)

not_apart : (b c : Bool) (x y g n : ℕ) → x < g → y < g → 2 * g ≤ n → with_sign c y -ℤ with_sign b x ≡ pos n → ⊥
not_apart true true x y g n l m far e = absurd (omega (arith, ints))
not_apart true false x y g n l m far e = absurd (omega (arith, ints))
not_apart false true x y g n l m far e = absurd (omega (arith, ints))
not_apart false false x y g n l m far e = absurd (omega (arith, ints))

exchanged : (v w : ℤ) (n : ℕ) → w -ℤ v ≡ neg_ℤ (pos n) → v -ℤ w ≡ pos n
exchanged v w n e = omega (arith, ints)

apart : (s : ℤ) (g x y : ℕ) (b c : Bool) → x < g → y < g → s *ℤ pos g ≡ with_sign c y -ℤ with_sign b x → ((s ≡ pos 0) × (x ≡ y)) ⊎ (((s ≡ pos 1) ⊎ (s ≡ neg_ℤ (pos 1))) × (x + y ≡ g))
apart (pos zero) g x y b c l m e =
    let z : 0 * g ≡ 0 = omega arith in
    inl (refl, none_apart b c x y (sym e ∙ ap pos z))
apart (pos (suc zero)) g x y b c l m e =
    let z : 1 * g ≡ g = omega arith in
    inr (inl refl, one_apart b c x y g l m (sym e ∙ ap pos z))
apart (pos (suc (suc n))) g x y b c l m e =
    let f : 2 * g ≤ suc (suc n) * g = mul-le-mul_right g (omega arith) in
    absurd (not_apart b c x y g (suc (suc n) * g) l m f (sym e))
apart (negsuc zero) g x y b c l m e =
    let z : 1 * g ≡ g = omega arith in
    let h = one_apart c b y x g m l (exchanged (with_sign b x) (with_sign c y) g (sym e ∙ neg-times 1 g ∙ ap (λ (n : ℕ). neg_ℤ (pos n)) z)) in
    inr (inr refl, omega arith)
apart (negsuc (suc n)) g x y b c l m e =
    let f : 2 * g ≤ suc (suc n) * g = mul-le-mul_right g (omega arith) in
    absurd (not_apart c b y x g (suc (suc n) * g) m l f (exchanged (with_sign b x) (with_sign c y) (suc (suc n) * g) (sym e ∙ neg-times (suc (suc n)) g)))

difference : (d e a : ℤ) (g : ℕ) (v w : ℤ) → a ≡ d *ℤ pos g +ℤ v → a ≡ e *ℤ pos g +ℤ w → (d -ℤ e) *ℤ pos g ≡ w -ℤ v
difference d e a g v w l m =
    let h = plus_times d (neg_ℤ e) g in
    let i = negative_times e g in
    let s : d -ℤ e ≡ d +ℤ neg_ℤ e = omega (arith, ints) in
    ap (λ (z : ℤ). z *ℤ pos g) s ∙ omega (arith, ints)

-- ---- which series a number of quarters takes
record IsAt (series : Fraction → ℕ → Fraction) (q c : ℕ) : Type 0 where
  half : ℕ
  is : q ≡ 2 * half + c
  sums : (y : Fraction) (n : ℕ) → series_at q y n ≡ series y n

which : (q : ℕ) → IsAt sine_series q 0 ⊎ IsAt cosine_series q 1
unfolding series_at
which zero = inl record { half = 0; is = refl; sums = λ y n. refl }
which (suc zero) = inr record { half = 0; is = refl; sums = λ y n. refl }
which (suc (suc q)) = elim (which q) [
  | inl h ↦ let e = h.is in inl record { half = h.half + 1; is = omega arith; sums = h.sums }
  | inr h ↦ let e = h.is in inr record { half = h.half + 1; is = omega arith; sums = h.sums }
]

turned : (x y : Fraction) → IsOnCircle x y → IsOnCircle y x
turned x y h =
    let a = h.below in
    let b = h.above in
    record { first = h.second; second = h.first; below = omega arith; above = omega arith }

-- two series at a / d and b / d
abbrev IsPair : ℕ → ℕ → ℕ → ℕ → ℕ → Type 0
IsPair q r a b d = IsOnCircle (series_at q (record { num = a; den = d }) quotients) (series_at r (record { num = b; den = d }) quotients)

at_series : (q r a b d : ℕ) (x y : Fraction) → series_at q (record { num = a; den = d }) quotients ≡ x → series_at r (record { num = b; den = d }) quotients ≡ y → IsOnCircle x y → IsPair q r a b d
at_series q r a b d x y e f h = rw (e, f) h

one_rest : (q r a d : ℕ) → r ≡ q + 1 → 0 < d → a ≤ d → IsPair q r a a d
one_rest q r a d more o few = elim (which q) [
  | inl h ↦ elim (which r) [
    | inl i ↦ let e = h.is in let f = i.is in absurd (omega arith)
    | inr i ↦ at_series q r a a d _ _ (h.sums _ quotients) (i.sums _ quotients) (same a d o few)
  ]
  | inr h ↦ elim (which r) [
    | inl i ↦ at_series q r a a d _ _ (h.sums _ quotients) (i.sums _ quotients) (turned _ _ (same a d o few))
    | inr i ↦ let e = h.is in let f = i.is in absurd (omega arith)
  ]
]

two_rests : (q r a b d : ℕ) → ((m : ℕ) → q + r ≡ 2 * m + 1 → ⊥) → 0 < d → a ≤ d → b ≤ d → (a + b) * (2 * 10 ^ 39) ≡ pi * d → IsPair q r a b d
two_rests q r a b d even o few less sum = elim (which q) [
  | inl h ↦ elim (which r) [
    | inl i ↦ at_series q r a b d _ _ (h.sums _ quotients) (i.sums _ quotients) (sines a b d o few less sum)
    | inr i ↦ let e = h.is in let f = i.is in absurd (even (h.half + i.half) (omega arith))
  ]
  | inr h ↦ elim (which r) [
    | inl i ↦ let e = h.is in let f = i.is in absurd (even (h.half + i.half) (omega arith))
    | inr i ↦ at_series q r a b d _ _ (h.sums _ quotients) (i.sums _ quotients) (cosines a b d o few less sum)
  ]
]

-- ---- an angle that is reduced to q quarters of g units and x, and to r quarters and y; x units
-- are `num x` units of 1 / d
one_more : (q r : ℕ) (t u : ℤ) → q ≤ 3 → r ≤ 3 → (pos 4 *ℤ t +ℤ pos q) -ℤ (pos 4 *ℤ u +ℤ pos r) ≡ pos 0 → r + 1 ≡ q + 1
one_more q r t u l m e = omega (arith, ints)

not_odd : (q r m : ℕ) (t u : ℤ) → ((pos 4 *ℤ t +ℤ pos q) -ℤ (pos 4 *ℤ u +ℤ pos r) ≡ pos 1) ⊎ ((pos 4 *ℤ t +ℤ pos q) -ℤ (pos 4 *ℤ u +ℤ pos r) ≡ neg_ℤ (pos 1)) → q + (r + 1) ≡ 2 * m + 1 → ⊥
not_odd q r m t u (inl e) is = absurd (omega (arith, ints))
not_odd q r m t u (inr e) is = absurd (omega (arith, ints))

reduced : (a t u : ℤ) (num : ℕ → ℕ) (g q r x y d : ℕ) (b c : Bool) → a ≡ (pos 4 *ℤ t +ℤ pos q) *ℤ pos g +ℤ with_sign b x → a ≡ (pos 4 *ℤ u +ℤ pos r) *ℤ pos g +ℤ with_sign c y → q ≤ 3 → r ≤ 3
    → x < g → y < g → 0 < d → num x ≤ d → num y ≤ d → (x + y ≡ g → (num x + num y) * (2 * 10 ^ 39) ≡ pi * d) → IsPair q (r + 1) (num x) (num y) d
reduced a t u num g q r x y d b c is other few less l m o small same_small quarter =
    elim (apart ((pos 4 *ℤ t +ℤ pos q) -ℤ (pos 4 *ℤ u +ℤ pos r)) g x y b c l m (difference (pos 4 *ℤ t +ℤ pos q) (pos 4 *ℤ u +ℤ pos r) a g (with_sign b x) (with_sign c y) is other)) [
      | inl h ↦ subst (λ (z : ℕ). IsPair q (r + 1) (num x) (num z) d) h.1 (one_rest q (r + 1) (num x) d (one_more q r t u few less h.0) o small)
      | inr h ↦ two_rests q (r + 1) (num x) (num y) d (λ m. not_odd q r m t u h.0) o small same_small (quarter h.1)
    ]

-- ---- in turns
turn_small : (x g : ℕ) → 2 * x ≤ g → pi * x ≤ 2 * 10 ^ 39 * g
turn_small x g h = omega arith

turn_quarter : (x y g : ℕ) → x + y ≡ g → (pi * x + pi * y) * (2 * 10 ^ 39) ≡ pi * (2 * 10 ^ 39 * g)
turn_quarter x y g e = omega arith

pub turn_length : (k f : ℕ) (a s c : ℤ) → 8 ≤ k → k ≤ 76 → IsSine k a f s → IsCosine k a f c → IsOfUnitLength k f s c
turn_length k f a s c least most h i =
    let v = h.angle in
    let w = i.angle in
    let g = 2 ^ f in
    let o = pow_pos f in
    let l = v.small in
    let m = w.small in
    let d = 2 * 10 ^ 39 * g in
    let pair = reduced (pos 4 *ℤ a) v.turns w.turns (λ x. pi * x) g h.q i.q h.rest i.rest d h.below i.below v.is w.is v.quarters w.quarters (omega arith) (omega arith) (omega arith)
    (turn_small h.rest g l) (turn_small i.rest g m) (turn_quarter h.rest i.rest g) in
    of_unit_length k f (series_at h.q (radians pi h.rest f) quotients) (series_at (i.q + 1) (radians pi i.rest f) quotients) s c least most pair
    (near_size k h.q h.below (radians pi h.rest f) f s h.sine.low 6) (near_size k (i.q + 1) i.below (radians pi i.rest f) f c i.sine.low 6)

-- ---- in radians
radian_quarter : (x y g : ℕ) → x + y ≡ pi * g → (x + y) * (2 * 10 ^ 39) ≡ pi * (2 * 10 ^ 39 * g)
radian_quarter x y g e = omega arith

pub radian_length : (k f : ℕ) (a s c : ℤ) → 8 ≤ k → k ≤ 76 → IsRadianSine k a f s → IsRadianCosine k a f c → IsOfUnitLength k f s c
radian_length k f a s c least most h i =
    let s1 = h.low in
    let c1 = i.low in
    let v = s1.angle in
    let w = c1.angle in
    let g = 2 ^ f in
    let o = pow_pos f in
    let l = v.small in
    let m = w.small in
    let none : s1.q + 0 ≡ s1.q = omega arith in
    let pair = reduced (pos (2 * 10 ^ 39) *ℤ a) s1.turns c1.turns (λ x. x) (pi * g) s1.q c1.q s1.rest c1.rest (2 * 10 ^ 39 * g) s1.below c1.below v.is w.is v.quarters w.quarters (omega arith) (omega arith) (omega arith) l m
    (radian_quarter s1.rest c1.rest g) in
    of_unit_length k f (series_at s1.q (parts s1.rest f) quotients) (series_at (c1.q + 1) (parts c1.rest f) quotients) s c least most pair
    (near_size k s1.q s1.below (parts s1.rest f) f s (subst (λ (q : ℕ). IsSineBy k q s1.below (parts s1.rest f) f s) none s1.sine) 6) (near_size k (c1.q + 1) c1.below (parts c1.rest f) f c c1.sine 6)
