-- Where a number lies that is known to be past its range, or not, and where one lies between two numbers.
use Rattle.std.specs.Prelude.{ℤ, Bool, int_lt, if◌then◌else◌}
use Rattle.fixed_word.specs.declared.outcome.Side.{Side}
use Rattle.fixed_word.specs.declared.outcome.Side.TheVariants.{Fits, Above, Below}

-- the side of a number, by whether it is past the range, and then whether it lies below
abbrev pub past_side : Bool → Bool → Side
past_side past below = if past then (if below then Below else Above) else Fits

-- the side of x beside the range from a least to a greatest number
abbrev pub side_in : ℤ → ℤ → ℤ → Side
side_in least greatest x = if int_lt greatest x then Above else (if int_lt x least then Below else Fits)
