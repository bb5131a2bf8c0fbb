-- The cap changes no word.
use Rattle.std.proofs.Common.{◌≡◌, ◌-◌, ◌^◌, ◌<◌, ◌≤◌, ℕ, suc, ℤ, pos, negsuc, neg_ℤ, Bool, true, false, Option, Some, None, nat_abs, refl, sym, ap, ◌∙◌, arith, inl, inr}
use Rattle.std.specs.Prelude.{if◌then◌else◌}
use Rattle.std.proofs.lemmas.Int.{ints}
use Rattle.std.proofs.lemmas.Bool.{cases_lt}
use Rattle.std.proofs.Math.Pow.{pow_mono}
use Rattle.fixed_word.specs.Format.{IsWidth, InRange, fits}
use Rattle.fixed_word.specs.Policies.{checked}
use Rattle.fixed_word.proofs.Nearest.{fits_is}
use Rattle.std.specs.Option.{option_map}
use Rattle.std.specs.Prelude.{nat_le}
use Rattle.fixed_text.specs.declared.decimal.Decimal.{Decimal}
use Rattle.std.proofs.lemmas.Bool.Decides.{nat_tests}
use Rattle.fixed_text.specs.Decimals.{decimal_of, decimal_value}
use Rattle.fixed_digits.specs.Numerals.{cap}
use Rattle.fixed_text.specs.Readings.{Reading, Misfit, Read, fitting_number}

width_small : (n : ℕ) → IsWidth n → n ≤ 64
width_small n w = grind arith

held_small : (x : ℤ) → nat_abs x < 2 ^ 64 → decimal_value (decimal_of x) ≡ x
held_small (pos n) h = let e : cap n ≡ n = omega arith in ap pos e
held_small (negsuc n) h = let e : cap (suc n) ≡ suc n = omega arith in ap (λ (m : ℕ). neg_ℤ (pos m)) e

held_large : (x : ℤ) → 2 ^ 64 ≤ nat_abs x → 2 ^ 64 ≤ nat_abs (decimal_value (decimal_of x))
held_large (pos n) h = omega arith
held_large (negsuc n) h = omega (arith, ints)

in_range_small : (s : Bool) (n : ℕ) (x : ℤ) → n ≤ 64 → InRange s n x → nat_abs x < 2 ^ 64
in_range_small true n x h r =
    let a = r.0 in
    let b = r.1 in
    let less : n - 1 ≤ 63 = omega arith in
    let p : 2 ^ (n - 1) ≤ 2 ^ 63 = pow_mono less in
    omega (arith, ints)
in_range_small false n x h r =
    let a = r.0 in
    let b = r.1 in
    let p : 2 ^ n ≤ 2 ^ 64 = pow_mono h in
    omega (arith, ints)

misses : (s : Bool) (n : ℕ) (x : ℤ) → n ≤ 64 → 2 ^ 64 ≤ nat_abs x → checked s n (Some x) ≡ None
misses s n x h large = by_test (fits s n x) refl
  where
    by_test : (b : Bool) → fits s n x ≡ b → checked s n (Some x) ≡ None
    by_test true e = let small = in_range_small s n x h ((fits_is s n x).0 e) in absurd (omega arith)
    by_test false e = ap (λ (b : Bool). if b then Some x else None) e

pub cap_alike : (s : Bool) (n : ℕ) (x : ℤ) → IsWidth n → checked s n (Some (decimal_value (decimal_of x))) ≡ checked s n (Some x)
cap_alike s n x w = elim (cases_lt (nat_abs x) (2 ^ 64)) [
  | inl small ↦ ap (λ (z : ℤ). checked s n (Some z)) (held_small x small)
  | inr large ↦
      let h = width_small n w in
      misses s n (decimal_value (decimal_of x)) h (held_large x large) ∙ sym (misses s n x h large)
]

-- ---- the same of numbers that have to fit
of_checked : Option ℤ → Reading ℤ
of_checked None = Misfit
of_checked (Some x) = Read x

fitting_is : (s : Bool) (n : ℕ) (x : ℤ) → fitting_number s n (Some x) ≡ of_checked (checked s n (Some x))
unfolding of_checked
fitting_is s n x = by_test (fits s n x)
  where
    by_test : (b : Bool) → (if b then Read x else Misfit) ≡ of_checked (if b then Some x else None)
    by_test true = refl
    by_test false = refl

pub fitting_alike : (s : Bool) (n : ℕ) (x : ℤ) → IsWidth n → fitting_number s n (Some (decimal_value (decimal_of x))) ≡ fitting_number s n (Some x)
fitting_alike s n x w = fitting_is s n (decimal_value (decimal_of x)) ∙ ap of_checked (cap_alike s n x w) ∙ sym (fitting_is s n x)

-- a bound below 2 ^ 64 does not see the cap
pub cap_below : (n most : ℕ) → most < 2 ^ 64 → nat_le (cap n) most ≡ nat_le n most
cap_below n most h = grind (arith, nat_tests)

pub cap_same : (n most : ℕ) → most < 2 ^ 64 → n ≤ most → cap n ≡ n
cap_same n most h le = omega arith

-- a number as it is held is read as the number that it holds
pub held_alike : (s : Bool) (n : ℕ) (o : Option ℤ) (d : Decimal) → IsWidth n → Some d ≡ option_map decimal_of o → fitting_number s n (Some (decimal_value d)) ≡ fitting_number s n o
held_alike s n None d w e = cc
held_alike s n (Some x) d w e =
    let is : d ≡ decimal_of x = cc in
    ap (λ (d : Decimal). fitting_number s n (Some (decimal_value d))) is ∙ fitting_alike s n x w
