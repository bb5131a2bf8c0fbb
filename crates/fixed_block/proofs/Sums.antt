-- Sums of the products at the front.
use Rattle.std.proofs.Common.{◌≡◌, ◌+◌, ◌-◌, ◌<◌, ◌≤◌, ◌^◌, ◌*◌, ◌≤ℤ◌, ℕ, ℤ, zero, suc, Bool, true, false, List, [], ◌∷◌, map, take, drop, length, get_or, pos, refl, ap, sym, ◌∙◌, arith, mul-le-mul, mul-le-mul_right}
use Rattle.std.specs.Prelude.{◌+ℤ◌, ◌*ℤ◌, nat_abs}
use Rattle.std.proofs.lemmas.Int.{ints, unsigned_abs-mul}
use Rattle.std.proofs.Math.Nat.{pow-le-pow_right}
use Rattle.std.proofs.lemmas.List.{length-drop, length-map, length-take, length-take-le}
use Rattle.fixed_word.specs.Format.{InRange}
use Rattle.fixed_block.specs.Dots.{SumsFit, partial_sum, products, total}

last : (z : ℤ) → z +ℤ pos 0 ≡ pos 0 +ℤ z
last z = omega (arith, ints)

grown : (z s t u : ℤ) → s ≡ t +ℤ u → z +ℤ s ≡ (z +ℤ t) +ℤ u
grown z s t u e = omega (arith, ints)

next : {A : Type 0} (value : A → ℤ) (a b : List A) (i : ℕ) (x y : A) → i < length a → length a ≡ length b → x ≡ get_or a i x → y ≡ get_or b i y
    → partial_sum (map value a) (map value b) (suc i) ≡ partial_sum (map value a) (map value b) i +ℤ (value x *ℤ value y)
next value [] b i x y l e p q = absurd (omega arith)
next value (u ∷ a) [] i x y l e p q = absurd (omega arith)
next value (u ∷ a) (v ∷ b) zero x y l e p q = rw (p, q) (last (value u *ℤ value v))
next value (u ∷ a) (v ∷ b) (suc i) x y l e p q = grown (value u *ℤ value v) _ _ _ (next value a b i x y (omega arith) (omega arith) p q)

-- one product more
pub next_sum : {A : Type 0} (value : A → ℤ) (a b : List A) (i : ℕ) (x y : A) → i < length a → length a ≡ length b → x ≡ get_or a i x → y ≡ get_or b i y
    → partial_sum (map value a) (map value b) (i + 1) ≡ partial_sum (map value a) (map value b) i +ℤ (value x *ℤ value y)
next_sum value a b i x y l e p q =
    let more : i + 1 ≡ suc i = omega arith in
    ap (λ k. partial_sum (map value a) (map value b) k) more ∙ next value a b i x y l e p q

-- ---- from any number
pub next_from : (from s p t z more : ℤ) → s ≡ from +ℤ t → more ≡ s +ℤ p → z ≡ t +ℤ p → more ≡ from +ℤ z
next_from from s p t z more is new next = omega (arith, ints)

-- a partial sum that does not fit
pub past_from : {A : Type 0} (value : A → ℤ) (a b : List A) (i : ℕ) (from s p : ℤ) → i < length a → partial_sum (map value a) (map value b) (i + 1) ≡ partial_sum (map value a) (map value b) i +ℤ p → s ≡ from +ℤ partial_sum (map value a) (map value b) i
    → ((k : ℕ) → k ≤ length a → InRange true 128 (from +ℤ partial_sum (map value a) (map value b) k)) → (InRange true 128 (s +ℤ p) → ⊥) → ⊥
past_from value a b i from s p l more is fit never =
    never (rw (next_from from s p _ _ (s +ℤ p) is refl more) (fit (i + 1) (omega arith)))

-- ---- unsigned words
from_zero : (s : Bool) (n : ℕ) (v : ℤ) (m : ℕ) → s ≡ false → InRange s n v → m ≡ nat_abs v → v ≡ pos m
from_zero false n v m e r is = let least = r.0 in omega (arith, ints)
from_zero true n v m e r is = absurd (cc)

counted : (s x y : ℕ) → pos (s + x * y) ≡ pos s +ℤ (pos x *ℤ pos y)
counted s x y = omega (arith, ints)

pub unsigned_next : {A : Type 0} (value : A → ℤ) (s : Bool) (n : ℕ) (a b : List A) (i : ℕ) (x y : A) (sum mx my : ℕ) → s ≡ false → i < length a → length a ≡ length b → x ≡ get_or a i x → y ≡ get_or b i y → InRange s n (value x) → InRange s n (value y) → mx ≡ nat_abs (value x) → my ≡ nat_abs (value y) → pos sum ≡ partial_sum (map value a) (map value b) i
    → pos (sum + mx * my) ≡ partial_sum (map value a) (map value b) (i + 1)
unsigned_next value s n a b i x y sum mx my e l long xs ys rx ry ix iy is =
    let vx = from_zero s n (value x) mx e rx ix in
    let vy = from_zero s n (value y) my e ry iy in
    counted sum mx my ∙ (ap (λ (z : ℤ). z +ℤ (pos mx *ℤ pos my)) is ∙ (rw (vx, vy) at (sym (next_sum value a b i x y l long xs ys))))

below : (m : ℕ) → pos m ≤ℤ pos (2 ^ 128 - 1) → m < 2 ^ 128
below m l = omega (arith, ints)

pub unsigned_past : {A : Type 0} (value : A → ℤ) (a b : List A) (i m : ℕ) → i < length a → pos m ≡ partial_sum (map value a) (map value b) (i + 1) → SumsFit false (map value a) (map value b) → (m < 2 ^ 128 → ⊥) → ⊥
unsigned_past value a b i m l is fit never =
    let long : i + 1 ≤ length (map value a) = omega (arith, length-map a value) in
    let range : InRange false 128 (pos m) = rw is (fit (i + 1) long) in
    never (below m range.1)

-- ---- all products
pub whole_sum : {A : Type 0} (value : A → ℤ) (a b : List A) → length a ≡ length b → partial_sum (map value a) (map value b) (length a) ≡ total (products (map value a) (map value b))
whole_sum value [] b e = refl
whole_sum value (u ∷ a) [] e = absurd (omega arith)
whole_sum value (u ∷ a) (v ∷ b) e = ap (λ (z : ℤ). (value u *ℤ value v) +ℤ z) (whole_sum value a b (omega arith))

-- ---- sums without a test
pub product_size : (x y : ℤ) (m : ℕ) → nat_abs x ≤ m → nat_abs y ≤ m → nat_abs (x *ℤ y) ≤ m * m
product_size x y m p q = let is = unsigned_abs-mul x y in let le = mul-le-mul p q in omega (arith, is, le)

pub sum_size : (s p : ℤ) (i m : ℕ) → nat_abs s ≤ i * m → nat_abs p ≤ m → nat_abs (s +ℤ p) ≤ (i + 1) * m
sum_size s p i m l e = omega (arith, ints)

pub halves_step : (high low more_high more_low s p : ℤ) → (high *ℤ pos 65536) +ℤ low ≡ s → (more_high *ℤ pos 65536) +ℤ more_low ≡ p → ((high +ℤ more_high) *ℤ pos 65536) +ℤ (low +ℤ more_low) ≡ s +ℤ p
halves_step high low more_high more_low s p e f = omega (arith, ints)

width_size : (n : ℕ) (v : ℤ) → n ≤ 32 → InRange true n v → nat_abs v ≤ 2147483648
width_size n v l r = let less : n - 1 ≤ 31 = omega arith in let p : 2 ^ (n - 1) ≤ 2 ^ 31 = pow-le-pow_right (omega arith) less in let low = r.0 in let high = r.1 in omega (arith, ints, p, low, high)

pub word_size : (s : Bool) (n : ℕ) (v : ℤ) → s ≡ true → n ≤ 32 → InRange s n v → nat_abs v ≤ 2147483648
word_size true n v e l r = width_size n v l r
word_size false n v e l r = absurd (cc)

unsigned_width_size : (n : ℕ) (v : ℤ) → n ≤ 32 → InRange false n v → nat_abs v ≤ 4294967296
unsigned_width_size n v l r = let p : 2 ^ n ≤ 2 ^ 32 = pow-le-pow_right (omega arith) l in let low = r.0 in let high = r.1 in omega (arith, ints, p, low, high)

unsigned_word_size : (s : Bool) (n : ℕ) (v : ℤ) (m : ℕ) → s ≡ false → n ≤ 32 → InRange s n v → m ≡ nat_abs v → m ≤ 4294967296
unsigned_word_size false n v m e l r is = let size = unsigned_width_size n v l r in omega arith
unsigned_word_size true n v m e l r is = absurd (cc)

pub unsigned_sum_size : (s : Bool) (n : ℕ) (x y : ℤ) (i sum mx my : ℕ) → s ≡ false → n ≤ 32 → InRange s n x → InRange s n y → mx ≡ nat_abs x → my ≡ nat_abs y → sum ≤ i * 2 ^ 64
    → sum + mx * my ≤ (i + 1) * 2 ^ 64
unsigned_sum_size s n x y i sum mx my e l rx ry ix iy size =
    let product : mx * my ≤ 4294967296 * 4294967296 = mul-le-mul (unsigned_word_size s n x mx e l rx ix) (unsigned_word_size s n y my e l ry iy) in
    omega arith

-- ---- a sum over chunks
front_sum : {A : Type 0} (value : A → ℤ) (a b : List A) (m k : ℕ) → k ≤ m → partial_sum (map value (take m a)) (map value (take m b)) k ≡ partial_sum (map value a) (map value b) k
front_sum value a b m zero l = refl
front_sum value a b zero (suc k) l = absurd (omega arith)
front_sum value [] b (suc m) (suc k) l = refl
front_sum value (u ∷ a) [] (suc m) (suc k) l = refl
front_sum value (u ∷ a) (v ∷ b) (suc m) (suc k) l = ap (λ (z : ℤ). (value u *ℤ value v) +ℤ z) (front_sum value a b m k (omega arith))

rest_next : {A : Type 0} (value : A → ℤ) (a b : List A) (i k : ℕ) → i ≤ length a → length a ≡ length b
    → partial_sum (map value a) (map value b) (i + k) ≡ partial_sum (map value a) (map value b) i +ℤ partial_sum (map value (drop i a)) (map value (drop i b)) k
rest_next value a b zero k l e =
    let none : 0 + k ≡ k = omega arith in
    ap (λ j. partial_sum (map value a) (map value b) j) none ∙ start (partial_sum (map value a) (map value b) k)
  where
    start : (z : ℤ) → z ≡ pos 0 +ℤ z
    start z = omega (arith, ints)
rest_next value [] b (suc i) k l e = absurd (omega arith)
rest_next value (u ∷ a) [] (suc i) k l e = absurd (omega arith)
rest_next value (u ∷ a) (v ∷ b) (suc i) k l e =
    let more : suc i + k ≡ suc (i + k) = omega arith in
    ap (λ j. partial_sum (map value (u ∷ a)) (map value (v ∷ b)) j) more ∙ grown (value u *ℤ value v) _ _ _ (rest_next value a b i k (omega arith) (omega arith))

slice_next : {A : Type 0} (value : A → ℤ) (a b : List A) (i m n k : ℕ) → i ≤ length a → length a ≡ length b → k ≤ m → m ≡ n
    → partial_sum (map value a) (map value b) (i + k) ≡ partial_sum (map value a) (map value b) i +ℤ partial_sum (map value (take m (drop i a))) (map value (take n (drop i b))) k
slice_next value a b i m n k l e le same =
    rw (sym same) (rest_next value a b i k l e ∙ ap (λ (z : ℤ). partial_sum (map value a) (map value b) i +ℤ z) (sym (front_sum value (drop i a) (drop i b) m k le)))

-- a chunk as a loop slices it
pub chunk_step : {A : Type 0} (value : A → ℤ) (a b : List A) (i k : ℕ) (s : ℤ) → i + k ≤ length a → length a ≡ length b
    → s ≡ partial_sum (map value (take (i + k - i) (drop i a))) (map value (take (i + k - i) (drop i b))) (length (take (i + k - i) (drop i a)))
    → partial_sum (map value a) (map value b) (i + k) ≡ partial_sum (map value a) (map value b) i +ℤ s
chunk_step value a b i k s l e is =
    let same : i + k - i ≡ k = omega arith in
    let long : length (take k (drop i a)) ≡ k = length-take-le k (drop i a) (omega (arith, length-drop i a)) in
    let sum : s ≡ partial_sum (map value (take k (drop i a))) (map value (take k (drop i b))) k = rw (same, long) at is in
    slice_next value a b i k k k (omega arith) e (omega arith) refl ∙ ap (λ (z : ℤ). partial_sum (map value a) (map value b) i +ℤ z) (sym sum)

pub chunk_size : (s p : ℤ) (i k m : ℕ) → nat_abs s ≤ i * m → nat_abs p ≤ m → 1 ≤ k → nat_abs (s +ℤ p) ≤ (i + k) * m
chunk_size s p i k m l e one =
    let more : i + 1 ≤ i + k = omega arith in
    let step = sum_size s p i m l e in
    let le : (i + 1) * m ≤ (i + k) * m = mul-le-mul_right m more in
    omega (arith, step, le)

-- the part after the last chunk
pub rest_sum : {A : Type 0} (value : A → ℤ) (a b : List A) (i : ℕ) (s : ℤ) → i ≤ length a → length a ≡ length b → s ≡ partial_sum (map value a) (map value b) i
    → s +ℤ partial_sum (map value (take (length a - i) (drop i a))) (map value (take (length b - i) (drop i b))) (length (take (length a - i) (drop i a))) ≡ partial_sum (map value a) (map value b) (length a)
rest_sum value a b i s l e is =
    let long : length (take (length a - i) (drop i a)) ≡ length a - i = length-take-le (length a - i) (drop i a) (omega (arith, length-drop i a)) in
    let all : i + (length a - i) ≡ length a = omega arith in
    let same : length a - i ≡ length b - i = omega arith in
    rw (long, is) (sym (slice_next value a b i (length a - i) (length b - i) (length a - i) l e (omega arith) same) ∙ ap (λ k. partial_sum (map value a) (map value b) k) all)

-- what fits with a sum from the front fits with one from a slice
pub slice_fits : {A : Type 0} (value : A → ℤ) (a b : List A) (i m n : ℕ) (s : ℤ) → i ≤ length a → length a ≡ length b → m ≡ n → s ≡ partial_sum (map value a) (map value b) i → SumsFit true (map value a) (map value b)
    → (k : ℕ) → k ≤ length (take m (drop i a)) → InRange true 128 (s +ℤ partial_sum (map value (take m (drop i a))) (map value (take n (drop i b))) k)
slice_fits value a b i m n s l e same is fit k le =
    let short = length-take m (drop i a) in
    let within : i + k ≤ length (map value a) = omega (arith, length-map a value, length-drop i a, short) in
    rw (is, sym (slice_next value a b i m n k l e (omega arith) same)) (fit (i + k) within)
