-- What a number prints.
use Rattle.std.specs.Prelude.{ℕ, ℤ, pos, nat_abs, int_lt, nat_le, Bool, List, [], Option, Some, None, if◌then◌else◌}
use Rattle.std.specs.Option.{unwrap_or}
use Rattle.fixed_word.specs.declared.rounding.Rounding.TheVariants.{Even}
use Rattle.fixed_decimal.specs.Text.{magnitude_text, shortest, text_of, to_places}

-- `{}`: the shortest text
abbrev pub plain_text : ℤ → ℕ → ℕ → Option (List ℕ)
plain_text a f n = if nat_le f n then Some (text_of a f (shortest a f) Even) else None

-- `{:8.3}` and its kin, with as many digits after the point as the precision says: laid out as an integer is, with its
-- sign, its prefix and its digits
abbrev pub styled_text : (Bool → List ℕ → List ℕ → List ℕ) → Option ℕ → ℤ → ℕ → ℕ → Option (List ℕ)
styled_text layout precision a f n = let p = unwrap_or precision (shortest a f) in
    if nat_le f n then Some (layout (int_lt a (pos 0)) [] (magnitude_text (nat_abs (to_places a f p Even)) p)) else None
