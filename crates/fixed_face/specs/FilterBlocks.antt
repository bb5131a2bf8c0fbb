-- What a call that filters a block of samples answers.
use Rattle.std.specs.Prelude.{◌≡◌, ℕ, ℤ, pos, Bool, List, length, take, drop, IfErr, Result, Ok, Err}
use Rattle.fixed_filter.specs.declared.overflow.BlockOverflow.{BlockOverflow}
use Rattle.fixed_filter.specs.declared.reply.Reply.{Reply}
use Rattle.fixed_filter.specs.declared.shape.Shape.{Shape}
use Rattle.fixed_filter.specs.Banks.{places_of}
use Rattle.fixed_filter.specs.Blocks.{AreReplies, StopsAt, outputs_of, past_after, reply_to, taken_of}
use Rattle.fixed_face.specs.declared.answer.Code.TheVariants.{OutOfRange}
use Rattle.fixed_face.specs.Answers.{code_number}
use Rattle.fixed_face.specs.Filters.{filter_of, taking}
use Rattle.fixed_face.specs.Near.{Allowed, allowed}
use Rattle.fixed_face.specs.Places.{with_as_many}

-- what a call leaves: the past samples and the outputs of a caller, and a sample and a tap
pub record FilterLeft (T : Type 0) : Type 0 where
  pub past : List T
  pub output : List T
  pub sample : ℕ
  pub tap : ℕ

abbrev pub left_of : {T : Type 0} → List T → List T → ℕ → ℕ → FilterLeft T
left_of past output sample tap = record { past = past; output = output; sample = sample; tap = tap }

-- a filter takes samples, and there are as many outputs; or the code of the first cause for which it takes none
unfoldable pub taking_block : {T : Type 0} → ℕ → Shape → List T → List T → FilterLeft T → Allowed
taking_block n shape taps samples old = taking n shape (filter_of taps old.past) (with_as_many samples old.output allowed)

-- the call returns 0; or it returns the code of a number that does not fit, and leaves its sample and its tap
unfoldable pub EndAnswers : {T : Type 0} → Result (Unit {0}) BlockOverflow → FilterLeft T → FilterLeft T → ℤ → Type 0
EndAnswers (Ok _) old new code = (code ≡ pos 0) × (new.sample ≡ old.sample) × (new.tap ≡ old.tap)
EndAnswers (Err stop) old new code = (code ≡ code_number OutOfRange) × (new.sample ≡ stop.sample) × (new.tap ≡ stop.tap)

-- the samples go in front of the past one after another, and the outputs are the replies to it, up to the first that does not
-- fit; the outputs from there on are as they were
pub record IsFiltered {T : Type 0} (value : T → ℤ) (reply : List T → Reply ℤ) (samples : List T) (end : Result (Unit {0}) BlockOverflow) (old new : FilterLeft T) : Type 0 where
  pub replies : AreReplies reply value old.past samples new.output (outputs_of (length samples) end)
  pub unchanged : drop (outputs_of (length samples) end) new.output ≡ drop (outputs_of (length samples) end) old.output
  pub newest : new.past ≡ past_after old.past (take (taken_of (length samples) end) samples)
  pub stop : IfErr end (StopsAt reply old.past samples)

-- a block that is taken is filtered, or the code of the refusal is returned and all is as it was
unfoldable pub TakenAnswers : {T : Type 0} (value : T → ℤ) → (List T → Reply ℤ) → List T → Allowed → FilterLeft T → FilterLeft T → ℤ → Type 0
TakenAnswers value reply samples (Ok _) old new code = (end : Result (Unit {0}) BlockOverflow) × IsFiltered value reply samples end old new × EndAnswers end old new code
TakenAnswers value reply samples (Err refusal) old new code = (code ≡ code_number refusal) × (new ≡ old)

abbrev pub FilterBlockAnswers : {T : Type 0} (value : T → ℤ) → Bool → ℕ → Shape → List T → List T → FilterLeft T → FilterLeft T → ℤ → Type 0
FilterBlockAnswers value signed n shape taps samples old new code =
    TakenAnswers value (reply_to value value signed n (places_of shape) taps) samples (taking_block n shape taps samples old) old new code
