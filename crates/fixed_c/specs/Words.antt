-- What each word's calls answer.
use Rattle.std.specs.Prelude.{ℤ, true, false, pos, Result}
use Rattle.fixed_face.specs.declared.answer.Code.{Code}
use Rattle.fixed_c.specs.declared.signed_8.AnswerI8.{AnswerI8}
use Rattle.fixed_c.specs.declared.signed_16.AnswerI16.{AnswerI16}
use Rattle.fixed_c.specs.declared.signed_32.AnswerI32.{AnswerI32}
use Rattle.fixed_c.specs.declared.signed_64.AnswerI64.{AnswerI64}
use Rattle.fixed_c.specs.declared.unsigned_8.AnswerU8.{AnswerU8}
use Rattle.fixed_c.specs.declared.unsigned_16.AnswerU16.{AnswerU16}
use Rattle.fixed_c.specs.declared.unsigned_32.AnswerU32.{AnswerU32}
use Rattle.fixed_c.specs.declared.unsigned_64.AnswerU64.{AnswerU64}
use Rattle.fixed_c.specs.declared.signed_8.EndsI8.{EndsI8}
use Rattle.fixed_c.specs.declared.signed_16.EndsI16.{EndsI16}
use Rattle.fixed_c.specs.declared.signed_32.EndsI32.{EndsI32}
use Rattle.fixed_c.specs.declared.signed_64.EndsI64.{EndsI64}
use Rattle.fixed_c.specs.declared.unsigned_8.EndsU8.{EndsU8}
use Rattle.fixed_c.specs.declared.unsigned_16.EndsU16.{EndsU16}
use Rattle.fixed_c.specs.declared.unsigned_32.EndsU32.{EndsU32}
use Rattle.fixed_c.specs.declared.unsigned_64.EndsU64.{EndsU64}
use Rattle.fixed_interval.specs.Ends.{Ends}
use Rattle.fixed_face.specs.Answers.{CallAnswers}
use Rattle.fixed_face.specs.Intervals.{EndsAnswers}

abbrev pub AnswersI8 : Result ℤ Code → AnswerI8 → AnswerI8 → ℤ → Type 0
AnswersI8 given old new code = CallAnswers (λ x. x) true 8 given (old.bits, old.side) (new.bits, new.side) code

abbrev pub AnswersI16 : Result ℤ Code → AnswerI16 → AnswerI16 → ℤ → Type 0
AnswersI16 given old new code = CallAnswers (λ x. x) true 16 given (old.bits, old.side) (new.bits, new.side) code

abbrev pub AnswersI32 : Result ℤ Code → AnswerI32 → AnswerI32 → ℤ → Type 0
AnswersI32 given old new code = CallAnswers (λ x. x) true 32 given (old.bits, old.side) (new.bits, new.side) code

abbrev pub AnswersI64 : Result ℤ Code → AnswerI64 → AnswerI64 → ℤ → Type 0
AnswersI64 given old new code = CallAnswers (λ x. x) true 64 given (old.bits, old.side) (new.bits, new.side) code

abbrev pub AnswersU8 : Result ℤ Code → AnswerU8 → AnswerU8 → ℤ → Type 0
AnswersU8 given old new code = CallAnswers pos false 8 given (old.bits, old.side) (new.bits, new.side) code

abbrev pub AnswersU16 : Result ℤ Code → AnswerU16 → AnswerU16 → ℤ → Type 0
AnswersU16 given old new code = CallAnswers pos false 16 given (old.bits, old.side) (new.bits, new.side) code

abbrev pub AnswersU32 : Result ℤ Code → AnswerU32 → AnswerU32 → ℤ → Type 0
AnswersU32 given old new code = CallAnswers pos false 32 given (old.bits, old.side) (new.bits, new.side) code

abbrev pub AnswersU64 : Result ℤ Code → AnswerU64 → AnswerU64 → ℤ → Type 0
AnswersU64 given old new code = CallAnswers pos false 64 given (old.bits, old.side) (new.bits, new.side) code

-- ---- intervals
abbrev pub EndsI8Answers : Result Ends Code → EndsI8 → EndsI8 → ℤ → Type 0
EndsI8Answers given old new code = EndsAnswers (λ x. x) given (record { lo = old.low; hi = old.high }) (record { lo = new.low; hi = new.high }) code

abbrev pub EndsI16Answers : Result Ends Code → EndsI16 → EndsI16 → ℤ → Type 0
EndsI16Answers given old new code = EndsAnswers (λ x. x) given (record { lo = old.low; hi = old.high }) (record { lo = new.low; hi = new.high }) code

abbrev pub EndsI32Answers : Result Ends Code → EndsI32 → EndsI32 → ℤ → Type 0
EndsI32Answers given old new code = EndsAnswers (λ x. x) given (record { lo = old.low; hi = old.high }) (record { lo = new.low; hi = new.high }) code

abbrev pub EndsI64Answers : Result Ends Code → EndsI64 → EndsI64 → ℤ → Type 0
EndsI64Answers given old new code = EndsAnswers (λ x. x) given (record { lo = old.low; hi = old.high }) (record { lo = new.low; hi = new.high }) code

abbrev pub EndsU8Answers : Result Ends Code → EndsU8 → EndsU8 → ℤ → Type 0
EndsU8Answers given old new code = EndsAnswers pos given (record { lo = old.low; hi = old.high }) (record { lo = new.low; hi = new.high }) code

abbrev pub EndsU16Answers : Result Ends Code → EndsU16 → EndsU16 → ℤ → Type 0
EndsU16Answers given old new code = EndsAnswers pos given (record { lo = old.low; hi = old.high }) (record { lo = new.low; hi = new.high }) code

abbrev pub EndsU32Answers : Result Ends Code → EndsU32 → EndsU32 → ℤ → Type 0
EndsU32Answers given old new code = EndsAnswers pos given (record { lo = old.low; hi = old.high }) (record { lo = new.low; hi = new.high }) code

abbrev pub EndsU64Answers : Result Ends Code → EndsU64 → EndsU64 → ℤ → Type 0
EndsU64Answers given old new code = EndsAnswers pos given (record { lo = old.low; hi = old.high }) (record { lo = new.low; hi = new.high }) code
