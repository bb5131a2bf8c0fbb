-- Polynomials in two numbers a and d, all of whose terms have one degree, as lists of coefficients: what is computed with
-- the lists holds for each a and d.
use lib.Ieee.Fits.{and_l, and_r}
use Rattle.std.proofs.Common.{◌≡◌, ◌+◌, ◌-◌, ◌*◌, ◌≤◌, ℕ, zero, suc, Bool, true, ◌&&◌, T, leb, leb→le, List, [], ◌∷◌, length, refl, subst, sym, ap, ◌∙◌, arith}
use Rattle.std.proofs.Math.Nat.{le_of_mul-le-mul_right, mul-le-mul_left, mul-le-mul_right}

-- ---- lists of coefficients
-- d^n
power : ℕ → ℕ → ℕ
power d zero = 1
power d (suc n) = d * power d n

-- the list c0, c1, .. stands for c0 d^n + c1 a d^(n - 1) + .., up to cn a^n
value : ℕ → ℕ → List ℕ → ℕ → ℕ
value a d [] n = 0
value a d (c ∷ cs) zero = c
value a d (c ∷ cs) (suc n) = c * power d (suc n) + a * value a d cs n

unfoldable pub added : List ℕ → List ℕ → List ℕ
added [] ys = ys
added (x ∷ xs) [] = x ∷ xs
added (x ∷ xs) (y ∷ ys) = (x + y) ∷ added xs ys

unfoldable pub scaled : ℕ → List ℕ → List ℕ
scaled c [] = []
scaled c (x ∷ xs) = (c * x) ∷ scaled c xs

unfoldable pub multiplied : List ℕ → List ℕ → List ℕ
multiplied [] ys = []
multiplied (x ∷ xs) ys = added (scaled x ys) (0 ∷ multiplied xs ys)

-- k times xs and l times ys
unfoldable pub combined : ℕ → List ℕ → ℕ → List ℕ → List ℕ
combined k xs l ys = added (scaled k xs) (scaled l ys)

-- each sum of the first coefficients of xs is at most c and that of ys
unfoldable pub are_below : ℕ → List ℕ → List ℕ → Bool
are_below c [] ys = true
are_below c (x ∷ xs) [] = leb x c && are_below (c - x) xs []
are_below c (x ∷ xs) (y ∷ ys) = leb x (c + y) && are_below (c + y - x) xs ys

-- ---- how long they are
added_fits : (xs ys : List ℕ) (n : ℕ) → length xs ≤ n → length ys ≤ n → length (added xs ys) ≤ n
unfolding added
added_fits [] ys n first second = second
added_fits (x ∷ xs) [] n first second = first
added_fits (x ∷ xs) (y ∷ ys) zero first second = absurd (omega arith)
added_fits (x ∷ xs) (y ∷ ys) (suc n) first second = omega (arith, added_fits xs ys n (omega arith) (omega arith))

scaled_length : (c : ℕ) (xs : List ℕ) → length (scaled c xs) ≡ length xs
unfolding scaled
scaled_length c [] = refl
scaled_length c (x ∷ xs) = omega (arith, scaled_length c xs)

multiplied_fits : (xs ys : List ℕ) (m : ℕ) → length ys ≤ suc m → length (multiplied xs ys) ≤ length xs + m
unfolding multiplied
multiplied_fits [] ys m fits = omega arith
multiplied_fits (x ∷ xs) ys m fits =
    let rest = multiplied_fits xs ys m fits in
    added_fits (scaled x ys) (0 ∷ multiplied xs ys) (length (x ∷ xs) + m) (omega (arith, scaled_length x ys)) (omega arith)

combined_fits : (k l : ℕ) (xs ys : List ℕ) (n : ℕ) → length xs ≤ n → length ys ≤ n → length (combined k xs l ys) ≤ n
unfolding combined
combined_fits k l xs ys n first second = added_fits (scaled k xs) (scaled l ys) n (omega (arith, scaled_length k xs)) (omega (arith, scaled_length l ys))

-- ---- what they stand for
added_value : (a d : ℕ) (xs ys : List ℕ) (n : ℕ) → value a d (added xs ys) n ≡ value a d xs n + value a d ys n
unfolding value added
added_value a d [] ys n = omega arith
added_value a d (x ∷ xs) [] n = omega arith
added_value a d (x ∷ xs) (y ∷ ys) zero = refl
added_value a d (x ∷ xs) (y ∷ ys) (suc n) =
    let rest = ap (λ (j : ℕ). a * j) (added_value a d xs ys n) in
    omega arith

scaled_value : (a d c : ℕ) (xs : List ℕ) (n : ℕ) → value a d (scaled c xs) n ≡ c * value a d xs n
unfolding value scaled
scaled_value a d c [] n = omega arith
scaled_value a d c (x ∷ xs) zero = refl
scaled_value a d c (x ∷ xs) (suc n) =
    let rest = ap (λ (j : ℕ). a * j) (scaled_value a d c xs n) in
    omega arith

combined_value : (a d k l : ℕ) (xs ys : List ℕ) (n : ℕ) → value a d (combined k xs l ys) n ≡ k * value a d xs n + l * value a d ys n
unfolding combined
combined_value a d k l xs ys n =
    let both = added_value a d (scaled k xs) (scaled l ys) n in
    let first = scaled_value a d k xs n in
    let second = scaled_value a d l ys n in
    omega arith

-- at a higher degree
next_value : (a d : ℕ) (xs : List ℕ) (n : ℕ) → length xs ≤ suc n → value a d xs (suc n) ≡ d * value a d xs n
unfolding value power
next_value a d [] n fits = omega arith
next_value a d (x ∷ []) zero fits = omega arith
next_value a d (x ∷ (y ∷ ys)) zero fits = absurd (omega arith)
next_value a d (x ∷ xs) (suc n) fits =
    let rest = ap (λ (j : ℕ). a * j) (next_value a d xs n (omega arith)) in
    omega arith

raised_value : (a d : ℕ) (xs : List ℕ) (n m k : ℕ) → n + m ≡ k → length xs ≤ suc m → value a d xs k ≡ power d n * value a d xs m
unfolding power
raised_value a d xs zero m k is fits =
    let same : m ≡ k = omega arith in
    subst (λ (j : ℕ). value a d xs j ≡ 1 * value a d xs m) same (omega arith)
raised_value a d xs (suc n) m zero is fits = absurd (omega arith)
raised_value a d xs (suc n) m (suc k) is fits =
    let rest = ap (λ (j : ℕ). d * j) (raised_value a d xs n m k (omega arith) fits) in
    next_value a d xs k (omega arith) ∙ omega arith

zero_value : (a d n : ℕ) → value a d (0 ∷ []) n ≡ 0
unfolding value
zero_value a d zero = refl
zero_value a d (suc n) = omega arith

multiplied_value : (a d : ℕ) (xs ys : List ℕ) (n m k : ℕ) → n + m ≡ k → length xs ≤ suc n → length ys ≤ suc m
    → value a d (multiplied xs ys) k ≡ value a d xs n * value a d ys m
unfolding value power multiplied
multiplied_value a d [] ys n m k is first second = omega arith
multiplied_value a d (x ∷ []) ys zero m k is first second =
    let same : m ≡ k = omega arith in
    let both = added_value a d (scaled x ys) (0 ∷ []) k in
    let one = scaled_value a d x ys k in
    let none = zero_value a d k in
    subst (λ (j : ℕ). value a d (added (scaled x ys) (0 ∷ [])) k ≡ x * value a d ys j) (sym same) (omega arith)
multiplied_value a d (x ∷ (z ∷ zs)) ys zero m k is first second = absurd (omega arith)
multiplied_value a d (x ∷ xs) ys (suc n) m zero is first second = absurd (omega arith)
multiplied_value a d (x ∷ xs) ys (suc n) m (suc k) is first second =
    let both = added_value a d (scaled x ys) (0 ∷ multiplied xs ys) (suc k) in
    let one = scaled_value a d x ys (suc k) in
    let raised = ap (λ (j : ℕ). x * j) (raised_value a d ys (suc n) m (suc k) is second) in
    let rest = ap (λ (j : ℕ). a * j) (multiplied_value a d xs ys n m k (omega arith) (omega arith) second) in
    omega arith

-- ---- which is less, where a is at most d: what the first coefficients leave of c, which is r, counts for the others
below_step : (a d p c x y r u v : ℕ) → a ≤ d → x + r ≡ c + y → u ≤ r * p + v → x * (d * p) + a * u ≤ c * (d * p) + (y * (d * p) + a * v)
below_step a d p c x y r u v small together rest =
    let first = ap (λ (j : ℕ). j * (d * p)) together in
    let second = mul-le-mul_left a rest in
    let third = mul-le-mul_right (r * p) small in
    omega arith

both_hold : (x c : ℕ) (q : Bool) → T (leb x c && q) → (x ≤ c) × T q
both_hold x c q t = (leb→le x c (and_l (leb x c) q t), and_r (leb x c) q t)

below_value : (a d c : ℕ) (xs ys : List ℕ) (n : ℕ) → a ≤ d → T (are_below c xs ys) → value a d xs n ≤ c * power d n + value a d ys n
unfolding value power are_below
below_value a d c [] ys n small t = omega arith
below_value a d c (x ∷ xs) [] zero small t = omega (arith, (both_hold x c (are_below (c - x) xs []) t).0)
below_value a d c (x ∷ xs) [] (suc n) small t =
    let both = both_hold x c (are_below (c - x) xs []) t in
    let rest = below_value a d (c - x) xs [] n small both.1 in
    let all = below_step a d (power d n) c x 0 (c - x) (value a d xs n) 0 small (omega (arith, both.0)) rest in
    omega arith
below_value a d c (x ∷ xs) (y ∷ ys) zero small t = omega (arith, (both_hold x (c + y) (are_below (c + y - x) xs ys) t).0)
below_value a d c (x ∷ xs) (y ∷ ys) (suc n) small t =
    let both = both_hold x (c + y) (are_below (c + y - x) xs ys) t in
    let rest = below_value a d (c + y - x) xs ys n small both.1 in
    below_step a d (power d n) c x y (c + y - x) (value a d xs n) (value a d ys n) small (omega (arith, both.0)) rest

-- ---- forms, whose coefficients may lie below 0 and have a denominator: (plus - minus) / factor
pub record Form : Type 0 where
  pub factor : ℕ
  pub plus : List ℕ
  pub minus : List ℕ

-- c, or c d, c d^2 .. at a higher degree
abbrev pub number : ℕ → Form
number c = record { factor = 1; plus = c ∷ []; minus = [] }

abbrev pub form_a : Form
form_a = record { factor = 1; plus = 0 ∷ 1 ∷ []; minus = [] }

-- the number b by which a + b is p d / u
abbrev pub form_b : ℕ → ℕ → Form
form_b p u = record { factor = u; plus = p ∷ []; minus = 0 ∷ u ∷ [] }

unfoldable pub sum_of : Form → Form → Form
sum_of f g = record { factor = f.factor * g.factor; plus = combined g.factor f.plus f.factor g.plus; minus = combined g.factor f.minus f.factor g.minus }

unfoldable pub difference_of : Form → Form → Form
difference_of f g = record { factor = f.factor * g.factor; plus = combined g.factor f.plus f.factor g.minus; minus = combined g.factor f.minus f.factor g.plus }

unfoldable pub product_of : Form → Form → Form
product_of f g =
    record {
      factor = f.factor * g.factor;
      plus = added (multiplied f.plus g.plus) (multiplied f.minus g.minus);
      minus = added (multiplied f.plus g.minus) (multiplied f.minus g.plus);
    }

abbrev pub is_at_most : Form → Form → Bool
is_at_most f g = leb 1 (f.factor * g.factor) && are_below 0 (combined g.factor f.plus f.factor g.minus) (combined g.factor f.minus f.factor g.plus)

-- r is what f stands for, at degree n
pub record IsValue (a d : ℕ) (f : Form) (n r : ℕ) : Type 0 where
  plus_fits : length f.plus ≤ suc n
  minus_fits : length f.minus ≤ suc n
  is : f.factor * r + value a d f.minus n ≡ value a d f.plus n

pub at_degree : (a d : ℕ) (f : Form) (n m r : ℕ) → n ≡ m → IsValue a d f n r → IsValue a d f m r
at_degree a d f n m r is v = subst (λ (j : ℕ). IsValue a d f j r) is v

pub number_value : (a d c : ℕ) → IsValue a d (number c) 0 c
unfolding value
number_value a d c = record { plus_fits = omega arith; minus_fits = omega arith; is = omega arith }

pub d_value : (a d : ℕ) → IsValue a d (number 1) 1 d
unfolding value power
d_value a d = record { plus_fits = omega arith; minus_fits = omega arith; is = omega arith }

pub a_value : (a d : ℕ) → IsValue a d form_a 1 a
unfolding value power
a_value a d = record { plus_fits = omega arith; minus_fits = omega arith; is = omega arith }

pub b_value : (a b d p u : ℕ) → (a + b) * u ≡ p * d → IsValue a d (form_b p u) 1 b
unfolding value power
b_value a b d p u together = record { plus_fits = omega arith; minus_fits = omega arith; is = omega arith }

pub sum_value : (a d : ℕ) (f g : Form) (n r s : ℕ) → IsValue a d f n r → IsValue a d g n s → IsValue a d (sum_of f g) n (r + s)
unfolding sum_of
sum_value a d f g n r s v w =
    let plus = combined_value a d g.factor f.factor f.plus g.plus n in
    let minus = combined_value a d g.factor f.factor f.minus g.minus n in
    let first = ap (λ (j : ℕ). g.factor * j) v.is in
    let second = ap (λ (j : ℕ). f.factor * j) w.is in
    record {
      plus_fits = combined_fits g.factor f.factor f.plus g.plus (suc n) v.plus_fits w.plus_fits;
      minus_fits = combined_fits g.factor f.factor f.minus g.minus (suc n) v.minus_fits w.minus_fits;
      is = omega arith;
    }

pub difference_value : (a d : ℕ) (f g : Form) (n r s : ℕ) → s ≤ r → IsValue a d f n r → IsValue a d g n s → IsValue a d (difference_of f g) n (r - s)
unfolding difference_of
difference_value a d f g n r s less v w =
    let plus = combined_value a d g.factor f.factor f.plus g.minus n in
    let minus = combined_value a d g.factor f.factor f.minus g.plus n in
    let all : r - s + s ≡ r = omega arith in
    let first = ap (λ (j : ℕ). g.factor * j) v.is in
    let second = ap (λ (j : ℕ). f.factor * j) w.is in
    let third = ap (λ (j : ℕ). f.factor * g.factor * j) all in
    record {
      plus_fits = combined_fits g.factor f.factor f.plus g.minus (suc n) v.plus_fits w.minus_fits;
      minus_fits = combined_fits g.factor f.factor f.minus g.plus (suc n) v.minus_fits w.plus_fits;
      is = omega arith;
    }

product_fits : (xs ys zs ws : List ℕ) (n m : ℕ) → length xs ≤ suc n → length ys ≤ suc m → length zs ≤ suc n → length ws ≤ suc m
    → length (added (multiplied xs ys) (multiplied zs ws)) ≤ suc (n + m)
product_fits xs ys zs ws n m x y z w =
    added_fits (multiplied xs ys) (multiplied zs ws) (suc (n + m)) (omega (arith, multiplied_fits xs ys m y)) (omega (arith, multiplied_fits zs ws m w))

product_is : (k l r s p m q o : ℕ) → k * r + m ≡ p → l * s + o ≡ q → k * l * (r * s) + (p * o + m * q) ≡ p * q + m * o
product_is k l r s p m q o first second =
    let e1 = ap (λ (j : ℕ). j * q) first in
    let e2 = ap (λ (j : ℕ). j * o) first in
    let e3 = ap (λ (j : ℕ). k * r * j) second in
    omega arith

pub product_value : (a d : ℕ) (f g : Form) (n m r s : ℕ) → IsValue a d f n r → IsValue a d g m s → IsValue a d (product_of f g) (n + m) (r * s)
unfolding product_of
product_value a d f g n m r s v w =
    let plus = added_value a d (multiplied f.plus g.plus) (multiplied f.minus g.minus) (n + m) in
    let minus = added_value a d (multiplied f.plus g.minus) (multiplied f.minus g.plus) (n + m) in
    let e1 = multiplied_value a d f.plus g.plus n m (n + m) refl v.plus_fits w.plus_fits in
    let e2 = multiplied_value a d f.minus g.minus n m (n + m) refl v.minus_fits w.minus_fits in
    let e3 = multiplied_value a d f.plus g.minus n m (n + m) refl v.plus_fits w.minus_fits in
    let e4 = multiplied_value a d f.minus g.plus n m (n + m) refl v.minus_fits w.plus_fits in
    let all = product_is f.factor g.factor r s (value a d f.plus n) (value a d f.minus n) (value a d g.plus m) (value a d g.minus m) v.is w.is in
    record {
      plus_fits = product_fits f.plus g.plus f.minus g.minus n m v.plus_fits w.plus_fits v.minus_fits w.minus_fits;
      minus_fits = product_fits f.plus g.minus f.minus g.plus n m v.plus_fits w.minus_fits v.minus_fits w.plus_fits;
      is = omega arith;
    }

pub multiple_value : (a d c : ℕ) (f : Form) (n r : ℕ) → IsValue a d f n r → IsValue a d (product_of (number c) f) n (c * r)
multiple_value a d c f n r v = at_degree a d (product_of (number c) f) (0 + n) n (c * r) (omega arith) (product_value a d (number c) f 0 n c r (number_value a d c) v)

pub at_most : (a d : ℕ) (f g : Form) (n r s : ℕ) → a ≤ d → IsValue a d f n r → IsValue a d g n s → T (is_at_most f g) → r ≤ s
at_most a d f g n r s small v w t =
    let less = combined g.factor f.plus f.factor g.minus in
    let more = combined g.factor f.minus f.factor g.plus in
    let both = both_hold 1 (f.factor * g.factor) (are_below 0 less more) t in
    let below = below_value a d 0 less more n small both.1 in
    let less_is = combined_value a d g.factor f.factor f.plus g.minus n in
    let more_is = combined_value a d g.factor f.factor f.minus g.plus n in
    let first = ap (λ (j : ℕ). g.factor * j) v.is in
    let second = ap (λ (j : ℕ). f.factor * j) w.is in
    let all : r * (f.factor * g.factor) ≤ s * (f.factor * g.factor) = omega arith in
    le_of_mul-le-mul_right all both.0
