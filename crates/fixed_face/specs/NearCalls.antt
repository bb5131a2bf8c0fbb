-- What each call of an elementary function asks of its operands, and of the number.
use Rattle.std.specs.Prelude.{◌≡◌, ℕ, ℤ}
use Rattle.fixed_elementary.specs.ElementaryRows.{exact_hypot, exact_recip_sqrt}
use Rattle.fixed_elementary.specs.Exp2.{IsExp2Of, exp2_room}
use Rattle.fixed_elementary.specs.Log2.{IsLog2Of, log2_room}
use Rattle.fixed_natural.specs.Exps.{IsExp}
use Rattle.fixed_natural.specs.Logs.{IsLn, IsLog10, log_room}
use Rattle.fixed_natural.specs.Pows.{IsPow}
use Rattle.fixed_turns.specs.Angles.{IsAngleOf, turn_room}
use Rattle.fixed_turns.specs.RadianAngles.{IsRadianAngle}
use Rattle.fixed_turns.specs.Radians.{IsRadianCosine, IsRadianSine}
use Rattle.fixed_turns.specs.Sines.{IsCosine, IsSine, sine_room}
use Rattle.fixed_face.specs.declared.near_calls.NearCall.{NearCall}
use Rattle.fixed_face.specs.declared.near_calls.NearCall.TheVariants.{Hypot, RecipSqrt, Log2, Ln, Log10, Exp2, Exp, Pow, Sin, Cos, SinTurns, CosTurns, Atan2, Atan2Turns}
use Rattle.fixed_face.specs.Answers.{at_fraction}
use Rattle.fixed_face.specs.Near.{Allowed, allowed, off_origin, positive}

-- whether the operands are allowed in a word of n bits, or the code of the refusal
abbrev pub operands : {T : Type 0} → (T → ℤ) → ℕ → NearCall T → Allowed
operands value n (Hypot a b) = allowed
operands value n (RecipSqrt a frac) = at_fraction n frac (positive (value a))
operands value n (Log2 a frac) = at_fraction n frac (positive (value a))
operands value n (Ln a frac) = at_fraction n frac (positive (value a))
operands value n (Log10 a frac) = at_fraction n frac (positive (value a))
operands value n (Exp2 a frac) = at_fraction n frac allowed
operands value n (Exp a frac) = at_fraction n frac allowed
operands value n (Pow a b frac) = at_fraction n frac (positive (value a))
operands value n (Sin a frac) = at_fraction n frac allowed
operands value n (Cos a frac) = at_fraction n frac allowed
operands value n (SinTurns a frac) = at_fraction n frac allowed
operands value n (CosTurns a frac) = at_fraction n frac allowed
operands value n (Atan2 y x frac) = at_fraction n frac (off_origin (value y) (value x))
operands value n (Atan2Turns y x frac) = at_fraction n frac (off_origin (value y) (value x))

-- the number is within the bound of the function
abbrev pub IsNear : {T : Type 0} → (T → ℤ) → ℕ → NearCall T → ℤ → Type 0
IsNear value n (Hypot a b) = λ r. r ≡ exact_hypot (value a) (value b)
IsNear value n (RecipSqrt a frac) = λ r. r ≡ exact_recip_sqrt (value a) frac
IsNear value n (Log2 a frac) = IsLog2Of (log2_room n) (value a) frac
IsNear value n (Ln a frac) = IsLn (log_room n) (value a) frac
IsNear value n (Log10 a frac) = IsLog10 (log_room n) (value a) frac
IsNear value n (Exp2 a frac) = IsExp2Of (exp2_room n) (value a) frac
IsNear value n (Exp a frac) = IsExp (value a) frac
IsNear value n (Pow a b frac) = IsPow (value a) (value b) frac
IsNear value n (Sin a frac) = IsRadianSine (sine_room n) (value a) frac
IsNear value n (Cos a frac) = IsRadianCosine (sine_room n) (value a) frac
IsNear value n (SinTurns a frac) = IsSine (sine_room n) (value a) frac
IsNear value n (CosTurns a frac) = IsCosine (sine_room n) (value a) frac
IsNear value n (Atan2 y x frac) = IsRadianAngle (sine_room n) (value x) (value y) frac
IsNear value n (Atan2Turns y x frac) = IsAngleOf (turn_room n) (value x) (value y) frac
