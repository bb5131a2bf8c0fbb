-- Where the coefficients are small, no step of Horner's rule overflows.
use Rattle.std.proofs.Common.{◌≡◌, ◌+◌, ◌*◌, ◌/◌, ◌^◌, ◌<◌, ◌≤◌, ◌≤ℤ◌, ◌+ℤ◌, ◌*ℤ◌, ℕ, zero, suc, ℤ, pos, negsuc, neg_ℤ, nat_abs, Bool, true, false, List, [], ◌∷◌, length, drop, Some, None, refl, sym, ap, ◌∙◌, mul-le-mul_left, arith}
use Rattle.std.specs.Prelude.{int_le, not, if◌then◌else◌}
use Rattle.std.proofs.lemmas.Int.{ints}
use Rattle.std.proofs.lemmas.Nat.{pow_pos}
use Rattle.std.proofs.Math.Nat.{div-le_of_le-mul, div-lt_iff_lt-mul}
use Rattle.fixed_word.specs.Format.{fits, highest, lowest}
use Rattle.fixed_word.specs.Quotient.{floor_quotient}
use Rattle.fixed_poly.specs.declared.reply.PolyReply.TheVariants.{Value}
use Rattle.fixed_poly.specs.Exact.{magnitudes}
use Rattle.fixed_poly.specs.Horner.{horner_value, value_at, greatest_below, misses, overflow_or, horner_reply}

-- ---- a part of a number is no larger than the number
part_of_natural : (a k m : ℕ) → k ≤ m → a * k / m ≤ a
part_of_natural a k m l = let p = mul-le-mul_left a l in div-le_of_le-mul m (omega (arith, p))

part_below : (a b k m : ℕ) → 0 < m → k ≤ m → suc b ≡ suc a * k → b / m ≤ a
part_below a b k m p l e =
    let q = mul-le-mul_left (suc a) l in
    let h : b / m < suc a = (div-lt_iff_lt-mul p).1 (omega arith) in
    omega arith

part_of_negative : (a k m c : ℕ) → 0 < m → k ≤ m → c ≡ suc a * k → nat_abs (floor_quotient (neg_ℤ (pos c)) m) ≤ suc a
part_of_negative a k m zero p l e = let h : 0 / m ≤ 0 = div-le_of_le-mul m (omega arith) in omega (arith, ints)
part_of_negative a k m (suc b) p l e = let h = part_below a b k m p l e in omega (arith, ints)

part_small : (v : ℤ) (k m : ℕ) → 0 < m → k ≤ m → nat_abs (floor_quotient (v *ℤ pos k) m) ≤ nat_abs v
part_small (pos a) k m p l = part_of_natural a k m l
part_small (negsuc a) k m p l = part_of_negative a k m (suc a * k) p l refl

sum_small : (x y : ℤ) (a b : ℕ) → nat_abs x ≤ a → nat_abs y ≤ b → nat_abs (x +ℤ y) ≤ b + a
sum_small x y a b h k = omega (arith, ints)

-- ---- so each value is at most the sum of the magnitudes from its coefficient on
value_small : (k f : ℕ) (coefs : List ℤ) → k ≤ 2 ^ f → nat_abs (horner_value (pos k) f coefs) ≤ magnitudes coefs
value_small k f [] l = omega arith
value_small k f (c ∷ []) l = omega arith
value_small k f (c ∷ (d ∷ rest)) l =
    let v = horner_value (pos k) f (d ∷ rest) in
    let part = part_small v k (2 ^ f) (pow_pos f) l in
    let later = value_small k f (d ∷ rest) l in
    sum_small (floor_quotient (v *ℤ pos k) (2 ^ f)) c (magnitudes (d ∷ rest)) (nat_abs c) (omega arith) (omega arith)

later_small : (i : ℕ) (coefs : List ℤ) → magnitudes (drop i coefs) ≤ magnitudes coefs
later_small zero coefs = omega arith
later_small (suc i) [] = omega arith
later_small (suc i) (c ∷ rest) = omega (arith, later_small i rest)

int_within : (a b : ℤ) → a ≤ℤ b → int_le a b ≡ true
int_within a b h = sym (omega (arith, ints))

fits_small : (n : ℕ) (v : ℤ) (m : ℕ) → nat_abs v ≤ m → pos m ≤ℤ highest true n → fits true n v ≡ true
fits_small n v m h k =
    let low : lowest true n ≤ℤ v = omega (arith, ints) in
    let high : v ≤ℤ highest true n = omega (arith, ints) in
    rw (int_within (lowest true n) v low, int_within v (highest true n) high) refl

none_below : (p : ℕ → Bool) (k : ℕ) → ((i : ℕ) → p i ≡ false) → greatest_below p k ≡ None
none_below p zero h = refl
none_below p (suc k) h = ap (λ b. if b then Some k else greatest_below p k) (h k) ∙ none_below p k h

no_miss : (n f k : ℕ) (coefs : List ℤ) → k ≤ 2 ^ f → pos (magnitudes coefs) ≤ℤ highest true n → (i : ℕ) → misses true n f (pos k) coefs i ≡ false
no_miss n f k coefs l h i =
    let small = value_small k f (drop i coefs) l in
    let less = later_small i coefs in
    ap not (fits_small n (value_at (pos k) f coefs i) (magnitudes coefs) (omega arith) h)

pub always_fits : (n f : ℕ) (x : ℤ) (coefs : List ℤ) → pos 0 ≤ℤ x → x ≤ℤ pos (2 ^ f) → pos (magnitudes coefs) ≤ℤ highest true n → horner_reply true n f x coefs ≡ Value (value_at x f coefs 0)
always_fits n f (pos k) coefs low high h =
    ap (overflow_or (value_at (pos k) f coefs 0)) (none_below (misses true n f (pos k) coefs) (length coefs) (no_miss n f k coefs (omega (arith, ints)) h))
always_fits n f (negsuc k) coefs low high h = absurd (omega (arith, ints))
