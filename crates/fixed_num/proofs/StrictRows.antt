-- Numbers of texts that have to fit.
use Rattle.std.proofs.Common.{◌≡◌, ℕ, ℤ, Bool, List, Result, Ok, Err, ap, ◌∙◌, subst}
use Rattle.std.specs.Prelude.{IfOk}
use Rattle.fixed_word.specs.Format.{InRange}
use Rattle.fixed_word.specs.Standing.{StandsFor}
use Rattle.fixed_word.specs.declared.outcome.Outcome.{Outcome}
use Rattle.fixed_word.specs.declared.outcome.Side.TheVariants.{Fits}
use Rattle.fixed_word.specs.declared.rounding.Rounding.{Rounding}
use Rattle.fixed_word.proofs.Sides.{side_fits}
use Rattle.fixed_decimal.specs.declared.error.DecimalError.{DecimalError}
use Rattle.fixed_decimal.specs.Decimal.{decimal_row}
use Rattle.fixed_decimal.specs.Rows.{IsOutcomeOf}

abbrev pub ok : ℤ → Result ℤ DecimalError
ok x = Ok x

row_side : {T : Type 0} (value : T → ℤ) (s : Bool) (n : ℕ) (row : Result ℤ DecimalError) (o : Outcome T) → IsOutcomeOf value s n row (Ok o) → IfOk row (InRange s n) → o.side ≡ Fits
row_side value s n (Ok x) o h fit = h.side ∙ side_fits s n x fit.0 fit.1
row_side value s n (Err e) o h fit = absurd h

row_value : {T : Type 0} (value : T → ℤ) (s : Bool) (n : ℕ) (row : Result ℤ DecimalError) (o : Outcome T) (v : ℤ) → IsOutcomeOf value s n row (Ok o) → ((x : ℤ) → StandsFor value s n x o → v ≡ x) → ok v ≡ row
row_value value s n (Ok x) o v h is = ap ok (is x h)
row_value value s n (Err e) o v h is = absurd h

-- the same of a text, by its bytes
read_as : {T : Type 0} (value : T → ℤ) (s : Bool) (n : ℕ) (text bytes : List ℕ) (f : ℕ) (r : Rounding) (o : Outcome T) → bytes ≡ text → IsOutcomeOf value s n (decimal_row bytes f r) (Ok o) → IsOutcomeOf value s n (decimal_row text f r) (Ok o)
read_as value s n text bytes f r o e = subst (λ (bs : List ℕ). IsOutcomeOf value s n (decimal_row bs f r) (Ok o)) e

pub strict_side : {T : Type 0} (value : T → ℤ) (s : Bool) (n : ℕ) (text bytes : List ℕ) (f : ℕ) (r : Rounding) (o : Outcome T) → bytes ≡ text → IsOutcomeOf value s n (decimal_row bytes f r) (Ok o) → IfOk (decimal_row text f r) (InRange s n) → o.side ≡ Fits
strict_side value s n text bytes f r o e h = row_side value s n (decimal_row text f r) o (read_as value s n text bytes f r o e h)

pub strict_row : {T : Type 0} (value : T → ℤ) (s : Bool) (n : ℕ) (text bytes : List ℕ) (f : ℕ) (r : Rounding) (o : Outcome T) (v : ℤ) → bytes ≡ text → IsOutcomeOf value s n (decimal_row bytes f r) (Ok o) → ((x : ℤ) → StandsFor value s n x o → v ≡ x) → ok v ≡ decimal_row text f r
strict_row value s n text bytes f r o v e h = row_value value s n (decimal_row text f r) o v (read_as value s n text bytes f r o e h)
