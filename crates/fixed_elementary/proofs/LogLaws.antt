-- Laws of logarithms that are rounded down up to a part of a unit.
use Rattle.std.proofs.Common.{◌≡◌, ◌+◌, ◌-◌, ◌*◌, ◌^◌, ◌<◌, ◌≤◌, ◌≤ℤ◌, ◌<ℤ◌, ◌+ℤ◌, ◌-ℤ◌, ℕ, ℤ, pos, suc, true, refl, ap, ◌∙◌, arith, inl, inr}
use Rattle.std.specs.Prelude.{unsigned_abs}
use Rattle.std.proofs.lemmas.Int.{ints}
use Rattle.std.proofs.lemmas.Bool.{cases_lt}
use Rattle.std.proofs.Math.Nat.{pow-le-pow_right, pow-le-pow_left, pow-suc}
use Rattle.std.proofs.lemmas.Nat.{pow_pos}
use Rattle.fixed_word.specs.Format.{InRange}
use Rattle.fixed_elementary.specs.Log2.{IsLog2Of}
use Rattle.fixed_elementary.proofs.Reading.{pow_times}

-- exponents are in the order of the powers of two
pub exponent_less : (i j : ℕ) → 2 ^ i < 2 ^ j → i < j
exponent_less i j h = elim (cases_lt i j) [
  | inl less ↦ less
  | inr fine ↦ let p : 2 ^ j ≤ 2 ^ i = pow-le-pow_right {n = 2} (omega arith) {i = j} {j = i} fine in absurd (omega arith)
]

-- ---- a power of two

pub log2_exact : (room j f : ℕ) (r : ℤ) → IsLog2Of room (pos (2 ^ j)) f r → r ≡ pos (j * 2 ^ f) -ℤ pos (f * 2 ^ f)
log2_exact room j f r h =
    h.value ∙ ap (λ (u : ℕ). pos u -ℤ pos (f * 2 ^ f)) (h.exact j refl)

-- ---- the logarithms of two numbers in order, or of one

near_units : (a b g s t : ℕ) → a ≤ b → 2 ^ s ≤ a ^ 2 ^ g → b ^ (2 ^ g * 2 ^ 0) < 2 ^ ((t + 1) * 2 ^ 0 + 1) → s ≤ t + 1
near_units a b g s t o h l =
    let one : 2 ^ 0 ≡ 1 = refl in
    let e : 2 ^ g * 2 ^ 0 ≡ 2 ^ g = omega arith in
    let f : (t + 1) * 2 ^ 0 + 1 ≡ t + 2 = omega arith in
    let m = pow-le-pow_left o (2 ^ g) in
    let x = ap (λ (k : ℕ). b ^ k) e in
    let y = ap (λ (k : ℕ). 2 ^ k) f in
    let z = exponent_less s (t + 2) (omega arith) in
    omega arith

in_order : (room f : ℕ) (a b r s : ℤ) → f ≤ room → unsigned_abs a ≤ unsigned_abs b → IsLog2Of room a f r → IsLog2Of room b f s → r ≤ℤ (s +ℤ pos 1)
in_order room f a b r s l o g h =
    let v = g.value in
    let w = h.value in
    let zero : f + 0 ≤ room = omega arith in
    let t = near_units (unsigned_abs a) (unsigned_abs b) f g.units h.units o (g.near 0 zero).below (h.near 0 zero).above in
    omega (arith, ints)

pub log2_monotone : (room f : ℕ) (a b r s : ℤ) → f ≤ room → pos 0 <ℤ a → a ≤ℤ b → IsLog2Of room a f r → IsLog2Of room b f s → r ≤ℤ (s +ℤ pos 1)
log2_monotone room f a b r s l z o = in_order room f a b r s l (omega (arith, ints))

pub log2_near : (room f : ℕ) (a r s : ℤ) → f ≤ room → IsLog2Of room a f r → IsLog2Of room a f s → r ≤ℤ (s +ℤ pos 1)
log2_near room f a r s l = in_order room f a a r s l (omega arith)

-- ---- where it fits

units_below : (a n g s : ℕ) → a < 2 ^ n → 2 ^ s ≤ a ^ 2 ^ g → s ≤ n * 2 ^ g
units_below a n g s h l =
    let b : a ≤ 2 ^ n = omega arith in
    let m = pow-le-pow_left b (2 ^ g) in
    let e = pow_times 2 n (2 ^ g) in
    let x : 2 ^ s < 2 ^ suc (n * 2 ^ g) = omega (arith, pow-suc 2 (n * 2 ^ g), pow_pos (n * 2 ^ g)) in
    let z = exponent_less s (suc (n * 2 ^ g)) x in
    omega arith

pub log2_fits : (room n f : ℕ) (a r : ℤ) → f ≤ room → f < n → f * 2 ^ f ≤ 2 ^ (n - 1) → (n - 1 - f) * 2 ^ f < 2 ^ (n - 1) → InRange true n a → pos 0 <ℤ a
    → IsLog2Of room a f r → InRange true n r
log2_fits room n f a r l less low high range above h =
    let v = h.value in
    let top = range.1 in
    let zero : f + 0 ≤ room = omega arith in
    let small : unsigned_abs a < 2 ^ (n - 1) = omega (arith, ints, pow_pos (n - 1)) in
    let t = units_below (unsigned_abs a) (n - 1) f h.units small (h.near 0 zero).below in
    let e : n - 1 ≡ n - 1 - f + f = omega arith in
    let d : (n - 1) * 2 ^ f ≡ (n - 1 - f) * 2 ^ f + f * 2 ^ f = split (n - 1) (n - 1 - f) f (2 ^ f) e in
    (omega (arith, ints), omega (arith, ints))
  where
    split : (x y z p : ℕ) → x ≡ y + z → x * p ≡ y * p + z * p
    split x y z p s = rw s (omega arith)
