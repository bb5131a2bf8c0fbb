-- The result of a policy for a row.
use Rattle.std.specs.Prelude.{ℕ, ℤ, Bool, Option}
use Rattle.std.specs.Option.{option_map_or}
use Rattle.fixed_word.specs.Policies.{checked, saturating, wrapping, overflowing}
use Rattle.fixed_script.specs.declared.names.Policy.{Policy}
use Rattle.fixed_script.specs.declared.names.Policy.TheVariants.{Checked, Saturating, Wrapping, Overflowing, Strict}
use Rattle.fixed_machine.specs.declared.answer.Answer.{Answer}
use Rattle.fixed_machine.specs.declared.answer.Answer.TheVariants.{Absent, Bits, Flagged}

-- a number, or a number and a verdict; Absent if there is none
abbrev pub project : Policy → Bool → ℕ → Option ℤ → Answer
project Checked signed n row = option_map_or Bits (checked signed n row) Absent
project Saturating signed n row = option_map_or Bits (saturating signed n row) Absent
project Wrapping signed n row = option_map_or Bits (wrapping signed n row) Absent
project Overflowing signed n row = option_map_or (λ p. Flagged p.0 p.1) (overflowing signed n row) Absent
project Strict signed n row = option_map_or Bits row Absent
