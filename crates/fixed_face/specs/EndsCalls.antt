-- What each call over intervals gives of its operands: a from its low end to its high one, and b from c to d.
use Rattle.std.specs.Prelude.{ℕ, ℤ, Bool, Result}
use Rattle.fixed_interval.specs.Ends.{Ends}
use Rattle.fixed_face.specs.declared.answer.Code.{Code}
use Rattle.fixed_face.specs.declared.ends_calls.EndsCall.{EndsCall}
use Rattle.fixed_face.specs.declared.ends_calls.EndsCall.TheVariants.{Add, Sub, Mul, Div, Sqrt}
use Rattle.fixed_face.specs.Intervals.{difference_in, from_to, product_in, quotient_in, root_in, sum_in}

-- the ends in a word of n bits, or the code of the refusal
abbrev pub ends_in : {T : Type 0} → (T → ℤ) → Bool → ℕ → EndsCall T → Result Ends Code
ends_in value signed n (Add a b c d) = sum_in signed n (from_to (value a) (value b)) (from_to (value c) (value d))
ends_in value signed n (Sub a b c d) = difference_in signed n (from_to (value a) (value b)) (from_to (value c) (value d))
ends_in value signed n (Mul a b c d frac) = product_in signed n (from_to (value a) (value b)) (from_to (value c) (value d)) frac
ends_in value signed n (Div a b c d frac) = quotient_in signed n (from_to (value a) (value b)) (from_to (value c) (value d)) frac
ends_in value signed n (Sqrt a b frac) = root_in signed n (from_to (value a) (value b)) frac
