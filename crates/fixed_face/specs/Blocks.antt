-- What a call over a block answers.
use Rattle.std.specs.Prelude.{◌≡◌, ◌==◌, ℕ, ℤ, Bool, pos, List, map, Option, Some, None, Result, Ok, Err, if◌then◌else◌}
use Rattle.fixed_block.specs.Blocks.{checked_block, misfit, saturating_block, wrapping_block}
use Rattle.fixed_face.specs.declared.answer.Code.{Code}
use Rattle.fixed_face.specs.declared.answer.Code.TheVariants.{NoPolicy, OutOfRange}
use Rattle.fixed_face.specs.declared.blocks.BlockPolicy.{BlockPolicy}
use Rattle.fixed_face.specs.declared.blocks.BlockPolicy.TheVariants.{Saturating, Wrapping, Checked}
use Rattle.fixed_face.specs.Answers.{code_number}

-- the policy that has the number
abbrev pub policy_of : ℕ → Option BlockPolicy
policy_of k = if k == 0 then Some Saturating else (if k == 1 then Some Wrapping else (if k == 2 then Some Checked else None))

-- the exact results of a block, and the policy that they are written by
abbrev pub Asked : Type 0
Asked = BlockPolicy × List ℤ

-- for the policy that has a number, or the code where there is none
unfoldable pub for_policy : Option BlockPolicy → List ℤ → Result Asked Code
for_policy (Some policy) rows = Ok (policy, rows)
for_policy None rows = Err NoPolicy

abbrev pub at_policy : ℕ → List ℤ → Result Asked Code
at_policy k rows = for_policy (policy_of k) rows

-- the block has these numbers, and the place of the first result that does not fit is left, if there is one
abbrev pub IsLeft : Option ℕ → List ℤ → ℕ → List ℤ → ℕ → ℤ → Type 0
IsLeft None numbers old now place code = (code ≡ pos 0) × (now ≡ numbers) × (place ≡ old)
IsLeft (Some at) numbers old now place code = (code ≡ code_number OutOfRange) × (now ≡ numbers) × (place ≡ at)

-- what each policy leaves of a block `xs`
abbrev pub IsWritten : Bool → ℕ → BlockPolicy → List ℤ → List ℤ → ℕ → List ℤ → ℕ → ℤ → Type 0
IsWritten signed n Saturating rows xs old now place code = IsLeft None (saturating_block signed n rows) old now place code
IsWritten signed n Wrapping rows xs old now place code = IsLeft None (wrapping_block signed n rows) old now place code
IsWritten signed n Checked rows xs old now place code = IsLeft (misfit signed n rows) (checked_block signed n rows xs) old now place code

-- the block is written by the policy, or the code of the refusal is returned and all is as it was
unfoldable pub BlockAnswers : {T : Type 0} (value : T → ℤ) → Bool → ℕ → Result Asked Code → List T × ℕ → List T × ℕ → ℤ → Type 0
BlockAnswers value signed n (Ok asked) old new code = IsWritten signed n asked.0 asked.1 (map value old.0) old.1 (map value new.0) new.1 code
BlockAnswers value signed n (Err refusal) old new code = (code ≡ code_number refusal) × (new.0 ≡ old.0) × (new.1 ≡ old.1)
