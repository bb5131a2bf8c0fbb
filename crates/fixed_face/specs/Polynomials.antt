-- What the calls of polynomials answer.
use Rattle.std.specs.Prelude.{ℕ, ℤ, Bool, List, map, Result, Ok, Err}
use Rattle.fixed_poly.specs.declared.reply.PolyReply.{PolyReply}
use Rattle.fixed_poly.specs.declared.reply.PolyReply.TheVariants.{Value, Overflow}
use Rattle.fixed_poly.specs.Horner.{horner_reply}
use Rattle.fixed_face.specs.declared.answer.Code.{Code}
use Rattle.fixed_face.specs.Answers.{at_fraction}
use Rattle.fixed_face.specs.Places.{Found, with_some}

-- the value, or the step whose value does not fit
unfoldable pub value_or_step : PolyReply ℤ → Found
value_or_step (Value v) = Ok v
value_or_step (Overflow i) = Err i

unfoldable pub horner_in : {T : Type 0} (value : T → ℤ) → Bool → ℕ → ℕ → T → List T → Result Found Code
horner_in value signed n f x coefs =
    at_fraction n f (with_some coefs (Ok (value_or_step (horner_reply signed n f (value x) (map value coefs)))))
