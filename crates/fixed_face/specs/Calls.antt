-- What each call gives of its operands, and what stands for it.
use Rattle.std.specs.Prelude.{◌≡◌, ◌+ℤ◌, ◌-ℤ◌, ◌*ℤ◌, ℕ, ℤ, Bool, pos, neg_ℤ, Result, Ok, Err}
use Rattle.fixed_word.specs.Quotient.{euclidean_remainder, truncated_quotient}
use Rattle.fixed_word.specs.Standing.{StandsFor}
use Rattle.fixed_word.specs.declared.outcome.Outcome.{Outcome}
use Rattle.fixed_kernel.specs.Root.{root_of}
use Rattle.fixed_kernel.specs.Rounded.{rounded}
use Rattle.fixed_kernel.specs.RoundedRows.{rounded_add_prod, rounded_div, rounded_mul, rounded_mul_add, rounded_recip}
use Rattle.fixed_kernel.specs.Rows.{by_divisor, by_sign, exact_abs, exact_add_prod, exact_div, exact_div_euclid, exact_mul, exact_mul_add, exact_next_multiple_of, exact_recip, exact_rem, units}
use Rattle.fixed_convert.specs.Convert.{rounded_convert}
use Rattle.fixed_float.specs.Rows.{units_of_float}
use Rattle.fixed_face.specs.declared.answer.Code.{Code}
use Rattle.fixed_face.specs.declared.answer.Code.TheVariants.{ZeroDivisor, NegativeRoot, NotFinite}
use Rattle.fixed_face.specs.declared.calls.Call.{Call}
use Rattle.fixed_face.specs.declared.calls.Call.TheVariants.{Neg, Add, Sub, Dist, Mul, MulInt, MulAdd, AddProd, Div, DivInt, Recip, DivEuclid, DivEuclidInt, Rem, RemInt, RemEuclid, RemEuclidInt, NextMultipleOf, Sqrt, MulRound, MulAddRound, AddProdRound, DivRound, DivIntRound, RecipRound, Convert, ConvertUnsigned, FromDouble}
use Rattle.fixed_face.specs.Answers.{at_fraction, row_or}
use Rattle.fixed_face.specs.Roundings.{at_rounding}

-- the exact number that a call asks for in a word of n bits, or the code of its refusal
abbrev pub given : {T : Type 0} → (T → ℤ) → ℕ → Call T → Result ℤ Code
given value n (Neg a) = Ok (neg_ℤ (value a))
given value n (Add a b) = Ok (value a +ℤ value b)
given value n (Sub a b) = Ok (value a -ℤ value b)
given value n (Dist a b) = Ok (exact_abs (value a -ℤ value b))
given value n (Mul a b frac) = at_fraction n frac (Ok (exact_mul (value a) (value b) frac))
given value n (MulInt a k) = Ok (value a *ℤ value k)
given value n (MulAdd a mul add frac) = at_fraction n frac (Ok (exact_mul_add (value a) (value mul) (value add) frac))
given value n (AddProd c a b f g h) = at_fraction n f (at_fraction n g (at_fraction n h (Ok (exact_add_prod (value c) (value a) (value b) f g h))))
given value n (Div a b frac) = at_fraction n frac (row_or ZeroDivisor (by_divisor (value b) (exact_div (value a) (value b) frac)))
given value n (DivInt a k) = row_or ZeroDivisor (by_divisor (value k) (truncated_quotient (value a) (value k)))
given value n (Recip a frac) = at_fraction n frac (row_or ZeroDivisor (by_divisor (value a) (exact_recip (value a) frac)))
given value n (DivEuclid a b frac) = at_fraction n frac (row_or ZeroDivisor (by_divisor (value b) (exact_div_euclid (value a) (value b) frac)))
given value n (DivEuclidInt a k frac) = at_fraction n frac (row_or ZeroDivisor (by_divisor (value k) (exact_div_euclid (value a) (units (value k) frac) frac)))
given value n (Rem a b) = row_or ZeroDivisor (by_divisor (value b) (exact_rem (value a) (value b)))
given value n (RemInt a k frac) = at_fraction n frac (row_or ZeroDivisor (by_divisor (value k) (exact_rem (value a) (units (value k) frac))))
given value n (RemEuclid a b) = row_or ZeroDivisor (by_divisor (value b) (euclidean_remainder (value a) (value b)))
given value n (RemEuclidInt a k frac) = at_fraction n frac (row_or ZeroDivisor (by_divisor (value k) (euclidean_remainder (value a) (units (value k) frac))))
given value n (NextMultipleOf a b) = row_or ZeroDivisor (by_divisor (value b) (exact_next_multiple_of (value a) (value b)))
given value n (Sqrt a frac) = at_fraction n frac (row_or NegativeRoot (by_sign (value a) (root_of (value a) frac)))
given value n (MulRound a b frac rounding) = at_fraction n frac (at_rounding rounding (λ r. Ok (rounded_mul (value a) (value b) frac r)))
given value n (MulAddRound a mul add frac rounding) = at_fraction n frac (at_rounding rounding (λ r. Ok (rounded_mul_add (value a) (value mul) (value add) frac r)))
given value n (AddProdRound c a b f g h rounding) = at_fraction n f (at_fraction n g (at_fraction n h (at_rounding rounding (λ r. Ok (rounded_add_prod (value c) (value a) (value b) f g h r)))))
given value n (DivRound a b frac rounding) = at_fraction n frac (at_rounding rounding (λ r. row_or ZeroDivisor (by_divisor (value b) (rounded_div (value a) (value b) frac r))))
given value n (DivIntRound a k rounding) = at_rounding rounding (λ r. row_or ZeroDivisor (by_divisor (value k) (rounded (value a) (value k) r)))
given value n (RecipRound a frac rounding) = at_fraction n frac (at_rounding rounding (λ r. row_or ZeroDivisor (by_divisor (value a) (rounded_recip (value a) frac r))))
given value n (Convert signed from to rounding) = at_fraction 64 from (at_fraction n to (at_rounding rounding (λ r. Ok (rounded_convert signed from to r))))
given value n (ConvertUnsigned unsigned from to rounding) = at_fraction 64 from (at_fraction n to (at_rounding rounding (λ r. Ok (rounded_convert (pos unsigned) from to r))))
given value n (FromDouble double frac rounding) = at_fraction n frac (at_rounding rounding (λ r. row_or NotFinite (units_of_float double frac r)))

-- the outcome stands for the number, or the code is that of the refusal
unfoldable pub IsResultOf : {T : Type 0} (value : T → ℤ) (signed : Bool) (n : ℕ) → Result ℤ Code → Result (Outcome T) Code → Type 0
IsResultOf value signed n (Ok x) (Ok outcome) = StandsFor value signed n x outcome
IsResultOf value signed n (Err refusal) (Err code) = code ≡ refusal
IsResultOf value signed n (Ok x) (Err code) = ⊥
IsResultOf value signed n (Err refusal) (Ok outcome) = ⊥
