-- A sine and a cosine, by their series, are the parts of a point on the circle of radius 1, up to 2^-80.
use lib.Ieee.Fits.{and_l, and_r}
use Rattle.std.proofs.Common.{◌≡◌, ◌+◌, ◌-◌, ◌*◌, ◌^◌, ◌<◌, ◌≤◌, ℕ, zero, suc, Bool, ◌&&◌, T, subst, arith}
use Rattle.std.proofs.lemmas.Nat.{mul-le}
use Rattle.std.proofs.Math.Nat.{mul-le-mul_left}
use Rattle.fixed_turns.specs.Series.{Fraction, cosine_series, lessened, nested, over, sine_series, squared}
use Rattle.fixed_turns.specs.Sines.{pi}
use Rattle.fixed_turns.proofs.Polynomials.{Form, IsValue, a_value, added, are_below, at_degree, at_most, b_value, combined, d_value, difference_of, difference_value, form_a, form_b, is_at_most, multiple_value, multiplied, number, number_value, product_of, product_value, scaled, sum_of, sum_value}

-- x and y are a sine and a cosine: x^2 + y^2 is 1, up to 2^-80
pub record IsOnCircle (x y : Fraction) : Type 0 where
  pub first : 0 < x.den
  pub second : 0 < y.den
  pub below : 2 ^ 80 * (x.num * y.den * (x.num * y.den) + y.num * x.den * (y.num * x.den)) ≤ (2 ^ 80 + 1) * (x.den * y.den * (x.den * y.den))
  pub above : 2 ^ 80 * (x.den * y.den * (x.den * y.den)) ≤ 2 ^ 80 * (x.num * y.den * (x.num * y.den) + y.num * x.den * (y.num * x.den)) + x.den * y.den * (x.den * y.den)

-- ---- the series, of forms in place of numbers
record Ratio : Type 0 where
  num : Form
  den : Form

abbrev ratio_one : Ratio
ratio_one = record { num = number 1; den = number 1 }

abbrev ratio_over : Ratio → ℕ → Ratio
ratio_over f m = record { num = f.num; den = product_of f.den (number m) }

abbrev ratio_lessened : Ratio → Ratio → Ratio
ratio_lessened f g = record { num = product_of f.num (difference_of g.den g.num); den = product_of f.den g.den }

abbrev ratio_squared : Ratio → Ratio
ratio_squared f = record { num = product_of f.num f.num; den = product_of f.den f.den }

ratio_nested : Ratio → ℕ → ℕ → Ratio
ratio_nested f m zero = record { num = number 0; den = number 1 }
ratio_nested f m (suc n) = ratio_lessened (ratio_over f (m * (m + 1))) (ratio_nested f (m + 2) n)

ratio_sine : Ratio → ℕ → Ratio
ratio_sine f n = ratio_lessened f (ratio_nested (ratio_squared f) 2 n)

ratio_cosine : Ratio → ℕ → Ratio
ratio_cosine f n = ratio_lessened ratio_one (ratio_nested (ratio_squared f) 1 n)

-- ---- what they stand for: x is a fraction from 0 to 1, by forms of degree n
record IsRatio (a d : ℕ) (f : Ratio) (n : ℕ) (x : Fraction) : Type 0 where
  some : 0 < x.den
  part : x.num ≤ x.den
  num : IsValue a d f.num n x.num
  den : IsValue a d f.den n x.den

one_value : (a d : ℕ) → IsRatio a d ratio_one 0 (record { num = 1; den = 1 })
one_value a d = record { some = omega arith; part = omega arith; num = number_value a d 1; den = number_value a d 1 }

none_value : (a d : ℕ) → IsRatio a d (record { num = number 0; den = number 1 }) 0 (record { num = 0; den = 1 })
none_value a d = record { some = omega arith; part = omega arith; num = number_value a d 0; den = number_value a d 1 }

over_value : (a d : ℕ) (f : Ratio) (n : ℕ) (x : Fraction) (m : ℕ) → 1 ≤ m → IsRatio a d f n x → IsRatio a d (ratio_over f m) n (over x m)
over_value a d f n x m one v =
    let more : x.den * 1 ≤ x.den * m = mul-le-mul_left x.den one in
    let den = product_value a d f.den (number m) n 0 x.den m v.den (number_value a d m) in
    record {
      some = mul-le 1 1 x.den m v.some one;
      part = omega (arith, v.part);
      num = v.num;
      den = at_degree a d (product_of f.den (number m)) (n + 0) n (x.den * m) (omega arith) den;
    }

lessened_value : (a d : ℕ) (f g : Ratio) (n m : ℕ) (x y : Fraction) → IsRatio a d f n x → IsRatio a d g m y → IsRatio a d (ratio_lessened f g) (n + m) (lessened x y)
lessened_value a d f g n m x y v w =
    let rest = difference_value a d g.den g.num m y.den y.num w.part w.den w.num in
    record {
      some = mul-le 1 1 x.den y.den v.some w.some;
      part = mul-le x.num (y.den - y.num) x.den y.den v.part (omega arith);
      num = product_value a d f.num (difference_of g.den g.num) n m x.num (y.den - y.num) v.num rest;
      den = product_value a d f.den g.den n m x.den y.den v.den w.den;
    }

squared_value : (a d : ℕ) (f : Ratio) (n : ℕ) (x : Fraction) → IsRatio a d f n x → IsRatio a d (ratio_squared f) (n + n) (squared x)
squared_value a d f n x v =
    record {
      some = mul-le 1 1 x.den x.den v.some v.some;
      part = mul-le x.num x.num x.den x.den v.part v.part;
      num = product_value a d f.num f.num n n x.num x.num v.num v.num;
      den = product_value a d f.den f.den n n x.den x.den v.den v.den;
    }

nested_value : (a d : ℕ) (f : Ratio) (i : ℕ) (x : Fraction) (m n : ℕ) → 1 ≤ m → IsRatio a d f i x → IsRatio a d (ratio_nested f m n) (i * n) (nested x m n)
unfolding nested ratio_nested
nested_value a d f i x m zero one v =
    let degree : 0 ≡ i * 0 = omega arith in
    subst (λ (j : ℕ). IsRatio a d (ratio_nested f m zero) j (nested x m zero)) degree (none_value a d)
nested_value a d f i x m (suc n) one v =
    let first = over_value a d f i x (m * (m + 1)) (mul-le 1 1 m (m + 1) one (omega arith)) v in
    let rest = nested_value a d f i x (m + 2) n (omega arith) v in
    let all = lessened_value a d (ratio_over f (m * (m + 1))) (ratio_nested f (m + 2) n) i (i * n) (over x (m * (m + 1))) (nested x (m + 2) n) first rest in
    let degree : i + i * n ≡ i * suc n = omega arith in
    subst (λ (j : ℕ). IsRatio a d (ratio_nested f m (suc n)) j (nested x m (suc n))) degree all

sine_value : (a d : ℕ) (f : Ratio) (i : ℕ) (x : Fraction) (n : ℕ) → IsRatio a d f i x → IsRatio a d (ratio_sine f n) (i + (i + i) * n) (sine_series x n)
unfolding ratio_sine
sine_value a d f i x n v =
    let rest = nested_value a d (ratio_squared f) (i + i) (squared x) 2 n (omega arith) (squared_value a d f i x v) in
    lessened_value a d f (ratio_nested (ratio_squared f) 2 n) i ((i + i) * n) x (nested (squared x) 2 n) v rest

cosine_value : (a d : ℕ) (f : Ratio) (i : ℕ) (x : Fraction) (n : ℕ) → IsRatio a d f i x → IsRatio a d (ratio_cosine f n) (0 + (i + i) * n) (cosine_series x n)
unfolding ratio_cosine
cosine_value a d f i x n v =
    let rest = nested_value a d (ratio_squared f) (i + i) (squared x) 1 n (omega arith) (squared_value a d f i x v) in
    lessened_value a d ratio_one (ratio_nested (ratio_squared f) 1 n) 0 ((i + i) * n) (record { num = 1; den = 1 }) (nested (squared x) 1 n) (one_value a d) rest

-- ---- points on the circle
-- f / g is 1, up to 2^-80
abbrev is_below_one : Form → Form → Bool
is_below_one f g = is_at_most (product_of (number (2 ^ 80)) f) (product_of (number (2 ^ 80 + 1)) g)

abbrev is_above_one : Form → Form → Bool
is_above_one f g = is_at_most (product_of (number (2 ^ 80)) g) (sum_of (product_of (number (2 ^ 80)) f) g)

below_one : (a d : ℕ) (f g : Form) (n r s : ℕ) → a ≤ d → IsValue a d f n r → IsValue a d g n s → T (is_below_one f g) → 2 ^ 80 * r ≤ (2 ^ 80 + 1) * s
below_one a d f g n r s small v w t =
    let less = multiple_value a d (2 ^ 80) f n r v in
    let more = multiple_value a d (2 ^ 80 + 1) g n s w in
    at_most a d (product_of (number (2 ^ 80)) f) (product_of (number (2 ^ 80 + 1)) g) n (2 ^ 80 * r) ((2 ^ 80 + 1) * s) small less more t

above_one : (a d : ℕ) (f g : Form) (n r s : ℕ) → a ≤ d → IsValue a d f n r → IsValue a d g n s → T (is_above_one f g) → 2 ^ 80 * s ≤ 2 ^ 80 * r + s
above_one a d f g n r s small v w t =
    let less = multiple_value a d (2 ^ 80) g n s w in
    let more = sum_value a d (product_of (number (2 ^ 80)) f) g n (2 ^ 80 * r) s (multiple_value a d (2 ^ 80) f n r v) w in
    at_most a d (product_of (number (2 ^ 80)) g) (sum_of (product_of (number (2 ^ 80)) f) g) n (2 ^ 80 * s) (2 ^ 80 * r + s) small less more t

-- (f g)^2
abbrev square_of : Form → Form → Form
square_of f g = product_of (product_of f g) (product_of f g)

abbrev squares_of : Ratio → Ratio → Form
squares_of f g = sum_of (square_of f.num g.den) (square_of g.num f.den)

abbrev are_on_circle : Ratio → Ratio → Bool
are_on_circle f g = is_below_one (squares_of f g) (square_of f.den g.den) && is_above_one (squares_of f g) (square_of f.den g.den)

square_value : (a d : ℕ) (f g : Form) (n m k r s : ℕ) → n + m ≡ k → IsValue a d f n r → IsValue a d g m s → IsValue a d (square_of f g) (k + k) (r * s * (r * s))
square_value a d f g n m k r s degree v w =
    let root = at_degree a d (product_of f g) (n + m) k (r * s) degree (product_value a d f g n m r s v w) in
    product_value a d (product_of f g) (product_of f g) k k (r * s) (r * s) root root

on_circle : (a d : ℕ) (f g : Ratio) (n m : ℕ) (x y : Fraction) → a ≤ d → IsRatio a d f n x → IsRatio a d g m y → T (are_on_circle f g) → IsOnCircle x y
on_circle a d f g n m x y small v w t =
    let k = n + m in
    let first = square_value a d f.num g.den n m k x.num y.den (omega arith) v.num w.den in
    let second = square_value a d g.num f.den m n k y.num x.den (omega arith) w.num v.den in
    let all = square_value a d f.den g.den n m k x.den y.den (omega arith) v.den w.den in
    let both = sum_value a d (square_of f.num g.den) (square_of g.num f.den) (k + k) (x.num * y.den * (x.num * y.den)) (y.num * x.den * (y.num * x.den)) first second in
    let r = x.num * y.den * (x.num * y.den) + y.num * x.den * (y.num * x.den) in
    let s = x.den * y.den * (x.den * y.den) in
    let below = is_below_one (squares_of f g) (square_of f.den g.den) in
    let above = is_above_one (squares_of f g) (square_of f.den g.den) in
    record {
      first = v.some;
      second = w.some;
      below = below_one a d (squares_of f g) (square_of f.den g.den) (k + k) r s small both all (and_l below above t);
      above = above_one a d (squares_of f g) (square_of f.den g.den) (k + k) r s small both all (and_r below above t);
    }

-- ---- the first 17 terms, at the angles a / d and b / d
abbrev pub quotients : ℕ
quotients = 16

abbrev ratio_a : Ratio
ratio_a = record { num = form_a; den = number 1 }

a_ratio_value : (a d : ℕ) → 0 < d → a ≤ d → IsRatio a d ratio_a 1 (record { num = a; den = d })
a_ratio_value a d some part = record { some = some; part = part; num = a_value a d; den = d_value a d }

-- where the two angles make pi / 2 together
abbrev ratio_b : Ratio
ratio_b = record { num = form_b pi (2 * 10 ^ 39); den = number 1 }

b_ratio_value : (a b d : ℕ) → 0 < d → b ≤ d → (a + b) * (2 * 10 ^ 39) ≡ pi * d → IsRatio a d ratio_b 1 (record { num = b; den = d })
b_ratio_value a b d some part together = record { some = some; part = part; num = b_value a b d pi (2 * 10 ^ 39) together; den = d_value a d }

-- the sine and the cosine of one angle
same_test : T (are_on_circle (ratio_sine ratio_a quotients) (ratio_cosine ratio_a quotients))
unfolding ratio_sine ratio_cosine ratio_nested product_of sum_of difference_of combined added multiplied scaled are_below
same_test = tt

pub same : (a d : ℕ) → 0 < d → a ≤ d → IsOnCircle (sine_series (record { num = a; den = d }) quotients) (cosine_series (record { num = a; den = d }) quotients)
same a d some part =
    let x : Fraction = record { num = a; den = d } in
    let sine = sine_value a d ratio_a 1 x quotients (a_ratio_value a d some part) in
    let cosine = cosine_value a d ratio_a 1 x quotients (a_ratio_value a d some part) in
    let i = 1 + 2 * quotients in
    let j = 0 + 2 * quotients in
    on_circle a d (ratio_sine ratio_a quotients) (ratio_cosine ratio_a quotients) i j (sine_series x quotients) (cosine_series x quotients) part sine cosine same_test

-- the sines, or the cosines, of two angles that make a quarter turn together
sines_test : T (are_on_circle (ratio_sine ratio_a quotients) (ratio_sine ratio_b quotients))
unfolding ratio_sine ratio_nested product_of sum_of difference_of combined added multiplied scaled are_below
sines_test = tt

pub sines : (a b d : ℕ) → 0 < d → a ≤ d → b ≤ d → (a + b) * (2 * 10 ^ 39) ≡ pi * d
    → IsOnCircle (sine_series (record { num = a; den = d }) quotients) (sine_series (record { num = b; den = d }) quotients)
sines a b d some first second together =
    let x : Fraction = record { num = a; den = d } in
    let y : Fraction = record { num = b; den = d } in
    let sine = sine_value a d ratio_a 1 x quotients (a_ratio_value a d some first) in
    let cosine = sine_value a d ratio_b 1 y quotients (b_ratio_value a b d some second together) in
    let i = 1 + 2 * quotients in
    on_circle a d (ratio_sine ratio_a quotients) (ratio_sine ratio_b quotients) i i (sine_series x quotients) (sine_series y quotients) first sine cosine sines_test

cosines_test : T (are_on_circle (ratio_cosine ratio_a quotients) (ratio_cosine ratio_b quotients))
unfolding ratio_cosine ratio_nested product_of sum_of difference_of combined added multiplied scaled are_below
cosines_test = tt

pub cosines : (a b d : ℕ) → 0 < d → a ≤ d → b ≤ d → (a + b) * (2 * 10 ^ 39) ≡ pi * d
    → IsOnCircle (cosine_series (record { num = a; den = d }) quotients) (cosine_series (record { num = b; den = d }) quotients)
cosines a b d some first second together =
    let x : Fraction = record { num = a; den = d } in
    let y : Fraction = record { num = b; den = d } in
    let cosine = cosine_value a d ratio_a 1 x quotients (a_ratio_value a d some first) in
    let sine = cosine_value a d ratio_b 1 y quotients (b_ratio_value a b d some second together) in
    let i = 0 + 2 * quotients in
    on_circle a d (ratio_cosine ratio_a quotients) (ratio_cosine ratio_b quotients) i i (cosine_series x quotients) (cosine_series y quotients) first cosine sine cosines_test
