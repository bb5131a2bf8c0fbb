-- How the results of four policies on the same operands agree.
use Rattle.std.specs.Prelude.{◌≡◌, ◌≤◌, ◌↔◌, ℕ, ℤ, Bool, IsTrue, Option, Some, if◌then◌else◌}
use Rattle.fixed_machine.specs.declared.answer.Answer.TheVariants.{Absent, Bits, Flagged}
use Rattle.fixed_agree.specs.declared.forms.Forms.{Forms}
use Rattle.fixed_agree.specs.declared.forms.Shifts.{Shifts}
use Rattle.fixed_word.specs.Format.{clamp}

-- for a row that is a number: checked has a value exactly if the verdict of overflowing is false, and then that of
-- overflowing; wrapping has the value of overflowing, and saturating the nearest number that fits
pub record FormsAgree (signed : Bool) (n : ℕ) (row : Option ℤ) (forms : Forms) : Type 0 where
  pub number : ℤ
  pub defined : row ≡ Some number
  pub value : ℤ
  pub verdict : Bool
  pub by_overflowing : forms.overflowing ≡ Flagged value verdict
  pub by_checked : forms.checked ≡ (if verdict then Absent else Bits value)
  pub by_wrapping : forms.wrapping ≡ Bits value
  pub by_saturating : forms.saturating ≡ Bits (clamp signed n number)

-- for a number that a shift by some places moved, on a word of n bits: the verdict of overflowing is whether the places
-- are n or more; checked has a value exactly if it is false; every value is the moved number
pub record ShiftsAgree (n places : ℕ) (moved : ℤ) (shifts : Shifts) : Type 0 where
  pub verdict : Bool
  pub past : IsTrue verdict ↔ (n ≤ places)
  pub by_overflowing : shifts.overflowing ≡ Flagged moved verdict
  pub by_checked : shifts.checked ≡ (if verdict then Absent else Bits moved)
  pub by_wrapping : shifts.wrapping ≡ Bits moved
