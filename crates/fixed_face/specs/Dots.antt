-- What a dot product gives.
use Rattle.std.specs.Prelude.{◌≡◌, ◌⊎◌, ℕ, ℤ, Bool, List, Result, Ok, Err}
use Rattle.fixed_block.specs.Dots.{SumsFit, exact_dot}
use Rattle.fixed_face.specs.declared.answer.Code.{Code}
use Rattle.fixed_face.specs.declared.answer.Code.TheVariants.{OutOfRange}
use Rattle.fixed_face.specs.Near.{Allowed}

-- for operands that are allowed, the sum of the products over 2^f, rounded down once; or a code, if a partial sum does not
-- fit in 128 bits
unfoldable pub IsDot : Bool → Allowed → List ℤ → List ℤ → ℕ → Result ℤ Code → Type 0
IsDot signed (Ok _) xs ys f found = (found ≡ Ok (exact_dot xs ys f)) ⊎ ((found ≡ Err OutOfRange) × (SumsFit signed xs ys → ⊥))
IsDot signed (Err refusal) xs ys f found = found ≡ Err refusal
