-- The parts of a float.
use Rattle.std.specs.Prelude.{◌≡◌, ◌*◌, ◌<◌, ◌^◌, false, Option, Some, None}
use Rattle.std.specs.Float.{Float, float_is_finite}
use Rattle.std.specs.Float.Ieee.Exact.{HasValue}
use Rattle.fixed_float.specs.declared.parts.Parts.{Parts}

-- x is digits * 2 ^ scale times 2 ^ -1074, the least float above 0, or minus that
pub record AreParts (x : Float) (p : Parts) : Type 0 where
  pub value : HasValue x p.below_zero (p.digits * 2 ^ p.scale) (2 ^ 1074)
  pub digits : p.digits < 2 ^ 53
  pub scale : p.scale < 2 ^ 11

abbrev pub IsApart : Float → Option Parts → Type 0
IsApart x None = float_is_finite x ≡ false
IsApart x (Some p) = AreParts x p
