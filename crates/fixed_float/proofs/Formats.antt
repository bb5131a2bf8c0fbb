-- The sizes of both formats, and what of `Ieee` the proofs use beside its own lemmas.
use Rattle.std.proofs.Common.{◌≡◌, ◌+◌, ◌-◌, ◌*◌, ◌/◌, ◌%◌, ◌^◌, ◌<◌, ◌≤◌, ℕ, zero, suc, Bool, true, false, pos, T, cond, ltb, not, refl, ap, sym, ◌∙◌, subst, arith, lit<, lit≤, le-ltb}
use Prim.Native.Nat.compare
use Prim.Native.Nat.{compare, Ordering}
use native.Mathlib.Nat.{mul-div_cancel}
use Rattle.std.specs.Float.{Float, Format, binary32, binary64, nan, inf, fin}
use lib.Ieee.{emax, fits, hid, low, nan_bits, neg, nearest, odd, of_bits, ones, prec, round, size, to_bits, top, units, down}
use lib.Ieee.Bits.{nan_bits_above, of_bits-to_bits}
use lib.Ieee.Exact.{HasValue}
use lib.Ieee.Fits.{down_pos, round_is}
use lib.Ieee.Nearest.{closest}
use lib.Ieee.Scale.{round_same}

-- ---- sizes
pub digits_in : (f : Format) → (24 ≤ prec f) × (prec f ≤ 53)
digits_in binary32 = (lit≤ tt, lit≤ tt)
digits_in binary64 = (lit≤ tt, lit≤ tt)

pub least_in : (f : Format) → (149 ≤ low f) × (low f ≤ 1074)
least_in binary32 = (lit≤ tt, lit≤ tt)
least_in binary64 = (lit≤ tt, lit≤ tt)

pub reach_in : (f : Format) → 127 ≤ emax f
reach_in binary32 = lit≤ tt
reach_in binary64 = lit≤ tt

pub twice_hid : (f : Format) → 2 ^ prec f ≡ 2 * hid f
twice_hid binary32 = refl
twice_hid binary64 = refl

pub hid_even : (f : Format) → hid f % 2 ≡ 0
hid_even binary32 = refl
hid_even binary64 = refl

pub pattern_room : (f : Format) → ones f * hid f < 2 ^ 64
pattern_room binary32 = lit< tt
pattern_room binary64 = lit< tt

pub field_room : (f : Format) → low f + (64 - prec f) + 2 < ones f
field_room binary32 = lit< tt
field_room binary64 = lit< tt

-- ---- a value is written in one way
pub bits_of_value : (f : Format) (x : Float) (s : Bool) (a : ℕ) → HasValue x s a (2 ^ low f)
    → to_bits f x ≡ cond s (top f) 0 + (size a - prec f) * hid f + a / 2 ^ (size a - prec f)
unfolding to_bits
bits_of_value f nan s a v = absurd v
bits_of_value f (inf t) s a v = absurd v
bits_of_value f (fin t m e) s a v =
    let n : m * lib.Ieee.up e * 2 ^ low f / down e ≡ a = ap (λ (k : ℕ). k / down e) v.1 ∙ mul-div_cancel a (down_pos e) in
    λ i. cond (v.0 i) (top f) 0 + (size (n i) - prec f) * hid f + n i / 2 ^ (size (n i) - prec f)

pub same_value : (f : Format) (x y : Float) (s : Bool) (a : ℕ) → T (fits f x) → T (fits f y) → HasValue x s a (2 ^ low f) → HasValue y s a (2 ^ low f) → x ≡ y
same_value f x y s a p q v w =
    sym (of_bits-to_bits f x p) ∙ ap (of_bits f) (bits_of_value f x s a v ∙ sym (bits_of_value f y s a w)) ∙ of_bits-to_bits f y q

-- ---- below 0
pub neg-odd : (d q k l : ℕ) → odd d true q k l ≡ neg (odd d false q k l)
unfolding neg odd
neg-odd d zero k l = refl
neg-odd d (suc q) k l = refl

neg-units : (f : Format) (q k : ℕ) → units f true q k ≡ neg (units f false q k)
unfolding units neg
neg-units f q k = go (ltb (q * 2 ^ k) (2 ^ (low f + suc (emax f))))
  where
    go : (b : Bool) → cond b (odd (suc (prec f)) true q k (low f)) (inf true) ≡ neg (cond b (odd (suc (prec f)) false q k (low f)) (inf false))
    go true = neg-odd (suc (prec f)) q k (low f)
    go false = refl

pub neg-round : (f : Format) (a c : ℕ) → round f true a c ≡ neg (round f false a c)
neg-round f a c = round_is f true a c ∙ neg-units f _ _ ∙ ap neg (sym (round_is f false a c))

-- ---- zero
pub round_none : (f : Format) → round f false 0 1 ≡ fin false 0 (pos 0)
unfolding round
round_none binary32 = refl
round_none binary64 = refl

bits_none : (f : Format) → of_bits f 0 ≡ fin false 0 (pos 0)
unfolding of_bits
bits_none binary32 = refl
bits_none binary64 = refl

pub zero_is : (f : Format) (c : ℕ) → 0 < c → of_bits f 0 ≡ round f false 0 c
zero_is f c C = bits_none f ∙ sym (round_same f false 0 c 0 1 C (omega arith) (omega arith) ∙ round_none f)

-- ---- the whole number closest to n / u
compare-lt : (a b : ℕ) → a < b → compare a b ≡ Ordering.lt
compare-lt zero (suc b) h = compare.zero-suc b
compare-lt (suc a) (suc b) h = compare.suc-suc a b ∙ compare-lt a b (omega arith)
compare-lt a zero h = absurd (omega arith)

compare-eq : (a b : ℕ) → a ≡ b → compare a b ≡ Ordering.eq
compare-eq zero zero h = compare.zero-zero
compare-eq (suc a) (suc b) h = compare.suc-suc a b ∙ compare-eq a b (omega arith)
compare-eq zero (suc b) h = absurd (omega arith)
compare-eq (suc a) zero h = absurd (omega arith)

compare-gt : (a b : ℕ) → b < a → compare a b ≡ Ordering.gt
compare-gt (suc a) zero h = compare.suc-zero a
compare-gt (suc a) (suc b) h = compare.suc-suc a b ∙ compare-gt a b (omega arith)
compare-gt zero b h = absurd (omega arith)

-- by twice the remainder and the divisor
pub closest_lt : (n u : ℕ) → 2 * (n % u) < u → closest n u ≡ n / u
closest_lt n u h = ap (nearest (n / u)) (compare-lt (n % u * 2) u (omega arith))

pub closest_eq : (n u : ℕ) → 2 * (n % u) ≡ u → closest n u ≡ n / u + n / u % 2
closest_eq n u h = ap (nearest (n / u)) (compare-eq (n % u * 2) u (omega arith))

pub closest_gt : (n u : ℕ) → u < 2 * (n % u) → closest n u ≡ suc (n / u)
closest_gt n u h = ap (nearest (n / u)) (compare-gt (n % u * 2) u (omega arith))

-- ---- bits that are no NaN's
pub below_nans : (f : Format) (b : ℕ) → b % top f ≤ ones f * hid f → T (not (nan_bits f b))
below_nans f b h = subst (λ (t : Bool). T (not t)) (sym (nan_bits_above f b ∙ le-ltb (ones f * hid f) (b % top f) h)) tt
