-- Intervals that can be divisors.
use Rattle.std.specs.Prelude.{◌⊎◌, ◌<ℤ◌, pos}
use Rattle.fixed_interval.specs.Ends.{Ends}

-- 0 is outside e
abbrev pub ExcludesZero : Ends → Type 0
ExcludesZero e = (pos 0 <ℤ e.low) ⊎ (e.high <ℤ pos 0)
