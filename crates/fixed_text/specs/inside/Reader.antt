-- What the reader of decimals returns, as a function of the bytes.
use Rattle.std.specs.Prelude.{ℕ, ◌==◌, ◌&&◌, Bool, if◌then◌else◌, List, Option, Some, None}
use Rattle.fixed_text.specs.declared.decimal.Decimal.{Decimal}
use Rattle.fixed_digits.specs.Numerals.{has_minus, without_minus, natural_at}

-- no minus precedes 0
abbrev pub with_minus : Bool → Option ℕ → Option Decimal
with_minus minus None = None
with_minus minus (Some m) = if minus && m == 0 then None else Some (record { below_zero = minus; magnitude = m })

abbrev pub whole_at : List ℕ → Option Decimal
whole_at token = with_minus (has_minus token) (natural_at (without_minus token))
