-- The whole numbers beside a / 2 ^ f, in units of 2 ^ -f.
use Rattle.std.specs.Prelude.{ℕ, ℤ}
use Rattle.fixed_cast.specs.declared.beside.Beside.{Beside}
use Rattle.fixed_cast.specs.declared.beside.Beside.TheVariants.{Floor, Ceil, Round, RoundTiesEven}
use Rattle.fixed_convert.specs.WholeNumber.{exact_ceil, exact_floor, exact_round, exact_round_ties_even}

abbrev pub whole_beside : Beside → ℤ → ℕ → ℤ
whole_beside Floor a f = exact_floor a f
whole_beside Ceil a f = exact_ceil a f
whole_beside Round a f = exact_round a f
whole_beside RoundTiesEven a f = exact_round_ties_even a f
