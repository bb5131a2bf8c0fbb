-- A polynomial close to the sine of a part x of a quarter turn, for x from 0 to 1, in units of 2^-29.
use Rattle.std.specs.Prelude.{ℤ, pos, neg_ℤ, List, [], ◌∷◌}

-- those of 1, x, x^2, .. x^7
abbrev pub sine_coefficients : List ℤ
sine_coefficients = pos 0 ∷ pos 843312475 ∷ pos 0 ∷ neg_ℤ (pos 346764231) ∷ pos 0 ∷ pos 42651708 ∷ pos 0 ∷ neg_ℤ (pos 2329391) ∷ []
