-- What the calls of filters answer, and the past samples after one.
use Rattle.std.specs.Prelude.{ℕ, ℤ, Bool, List, Result, Ok, Err}
use Rattle.fixed_filter.specs.declared.reply.Reply.{Reply}
use Rattle.fixed_filter.specs.declared.reply.Reply.TheVariants.{Value, Overflow}
use Rattle.fixed_filter.specs.declared.shape.Shape.{Shape}
use Rattle.fixed_filter.specs.Banks.{Filter, reply_of, with_sample}
use Rattle.fixed_face.specs.declared.answer.Code.{Code}
use Rattle.fixed_face.specs.Answers.{at_fraction}
use Rattle.fixed_face.specs.Places.{Found, with_as_many, with_some}

-- the output, or the tap whose partial sum does not fit
unfoldable pub output_or_tap : Reply ℤ → Found
output_or_tap (Value v) = Ok v
output_or_tap (Overflow t) = Err t

-- the fractions of an output, of taps and of samples
abbrev pub fractions : ℕ → ℕ → ℕ → Shape
fractions out coef sample = record { out_frac = out; coef_frac = coef; sample_frac = sample }

-- the taps and past samples of a caller
abbrev pub filter_of : {T : Type 0} → List T → List T → Filter T
filter_of taps past = record { taps = taps; past = past }

-- the answer, or the code of the first cause for which a filter takes no sample
unfoldable pub taking : {T X : Type 0} → ℕ → Shape → Filter T → Result X Code → Result X Code
taking n shape filter answer =
    at_fraction n shape.out_frac (at_fraction n shape.coef_frac (at_fraction n shape.sample_frac
    (with_some filter.taps (with_as_many filter.taps filter.past answer))))

-- what it answers once the sample stands in front
unfoldable pub output_in : {T : Type 0} (value : T → ℤ) → Bool → ℕ → Shape → T → Filter T → Result Found Code
output_in value signed n shape sample filter =
    taking n shape filter (Ok (output_or_tap (reply_of value signed n shape (with_sample sample filter))))

-- the past samples after it: those before, where it takes none
abbrev pub kept_or : {X : Type 0} → X → Result X Code → X
kept_or old (Ok new) = new
kept_or old (Err refusal) = old

unfoldable pub past_after : {T : Type 0} → ℕ → Shape → T → Filter T → List T
past_after n shape sample filter = kept_or filter.past (taking n shape filter (Ok (with_sample sample filter).past))
