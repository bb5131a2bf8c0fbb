-- The number of a constant's text, from what was read.
use Rattle.std.proofs.Common.{◌≡◌, ◌≤◌, ◌^◌, ◌≤ℤ◌, ℕ, ℤ, pos, neg_ℤ, Bool, true, false, List, Some, None, Result, Ok, Err, if◌then◌else◌, nat_le, refl, sym, ap, ◌∙◌, inl, inr, arith}
use Rattle.std.specs.Result.{result_ok}
use Rattle.std.proofs.lemmas.Int.{ints}
use Rattle.std.proofs.lemmas.Bool.Decides.{nat_tests}
use Rattle.fixed_word.specs.Format.{InRange, IsWidth, fits, with_sign}
use Rattle.fixed_word.specs.declared.rounding.Rounding.TheVariants.{Even}
use Rattle.fixed_kernel.specs.inside.Alike.{Alike}
use Rattle.fixed_decimal.specs.declared.error.DecimalError.{DecimalError}
use Rattle.fixed_decimal.specs.declared.error.DecimalError.TheVariants.{Overflow}
use Rattle.fixed_decimal.specs.Decimal.{decimal_row}
use Rattle.fixed_decimal.specs.Rows.{checked_decimal, literal}
use Rattle.fixed_decimal.specs.inside.Reading.{IsReadAs, within}

too_great : (s : Bool) (n : ℕ) (x : ℤ) → IsWidth n → pos (2 ^ 64) ≤ℤ x → fits s n x ≡ false
too_great true n x (inl e) le = rw e (grind (arith, ints))
too_great true n x (inr (inl e)) le = rw e (grind (arith, ints))
too_great true n x (inr (inr (inl e))) le = rw e (grind (arith, ints))
too_great true n x (inr (inr (inr e))) le = rw e (grind (arith, ints))
too_great false n x (inl e) le = rw e (grind (arith, ints))
too_great false n x (inr (inl e)) le = rw e (grind (arith, ints))
too_great false n x (inr (inr (inl e))) le = rw e (grind (arith, ints))
too_great false n x (inr (inr (inr e))) le = rw e (grind (arith, ints))

too_small : (s : Bool) (n : ℕ) (x : ℤ) → IsWidth n → x ≤ℤ neg_ℤ (pos (2 ^ 64)) → fits s n x ≡ false
too_small true n x (inl e) le = rw e (grind (arith, ints))
too_small true n x (inr (inl e)) le = rw e (grind (arith, ints))
too_small true n x (inr (inr (inl e))) le = rw e (grind (arith, ints))
too_small true n x (inr (inr (inr e))) le = rw e (grind (arith, ints))
too_small false n x w le = grind (arith, ints)

within_none : (s : Bool) (n : ℕ) (x : ℤ) → fits s n x ≡ false → within s n x ≡ None
within_none s n x e = ap (λ b. if b then Some x else None) e

within_alike : (s : Bool) (n : ℕ) (x y : ℤ) → IsWidth n → Alike (2 ^ 64) x y → within s n y ≡ within s n x
within_alike s n x y w a = elim a.place [
  | inl e ↦ ap (within s n) (sym e)
  | inr (inl (p, q)) ↦ within_none s n y (too_great s n y w q) ∙ sym (within_none s n x (too_great s n x w p))
  | inr (inr (p, q)) ↦ within_none s n y (too_small s n y w q) ∙ sym (within_none s n x (too_small s n x w p))
]

checked_within : (t : Bool) (x : ℤ) → (if t then Some x else None) ≡ result_ok {E = DecimalError} (if t then Ok x else Err Overflow)
checked_within true x = refl
checked_within false x = refl

row_within : (s : Bool) (n : ℕ) (row : Result ℤ DecimalError) (b : Bool) (m : ℕ) → IsWidth n → IsReadAs row (Ok (b, m)) → within s n (with_sign b m) ≡ result_ok (checked_decimal s n row)
row_within s n (Ok x) b m w alike = within_alike s n x (with_sign b m) w alike ∙ checked_within (fits s n x) x
row_within s n (Err e) b m w alike = absurd alike

pub read_within : (s : Bool) (n f : ℕ) (text : List ℕ) (b : Bool) (m : ℕ) → f ≤ n → IsWidth n → IsReadAs (decimal_row text f Even) (Ok (b, m)) → within s n (with_sign b m) ≡ literal s n f text
read_within s n f text b m le w alike =
    let fit : nat_le f n ≡ true = grind (arith, nat_tests) in
    row_within s n (decimal_row text f Even) b m w alike ∙ sym (ap (λ c. if c then result_ok (checked_decimal s n (decimal_row text f Even)) else None) fit)

some_is : (t : Bool) (y x : ℤ) → result_ok {E = DecimalError} (if t then Ok y else Err Overflow) ≡ Some x → (t ≡ true) × (y ≡ x)
some_is true y x e = (refl, cc)
some_is false y x e = absurd (cc)

row_fits : (t s : Bool) (n : ℕ) (row : Result ℤ DecimalError) (x : ℤ) → (if t then result_ok (checked_decimal s n row) else None) ≡ Some x → fits s n x ≡ true
row_fits true s n (Ok y) x e = let p = some_is (fits s n y) y x e in ap (fits s n) (sym p.1) ∙ p.0
row_fits true s n (Err f) x e = absurd (cc)
row_fits false s n row x e = absurd (cc)

fits_in_range : (s : Bool) (n : ℕ) (x : ℤ) → fits s n x ≡ true → InRange s n x
fits_in_range s n x e = grind (arith, ints, e)

pub literal_fits : (s : Bool) (n f : ℕ) (text : List ℕ) (x : ℤ) → literal s n f text ≡ Some x → InRange s n x
literal_fits s n f text x e = fits_in_range s n x (row_fits (nat_le f n) s n (decimal_row text f Even) x e)
