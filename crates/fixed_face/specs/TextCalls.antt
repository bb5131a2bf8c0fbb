-- What each call that writes a text gives of its operands.
use Rattle.std.specs.Prelude.{ℕ, ℤ, List, Result, Ok}
use Rattle.fixed_word.specs.declared.rounding.Rounding.TheVariants.{Even}
use Rattle.fixed_decimal.specs.Text.{shortest, text_of}
use Rattle.fixed_face.specs.declared.answer.Code.{Code}
use Rattle.fixed_face.specs.declared.texts.TextCall.{TextCall}
use Rattle.fixed_face.specs.declared.texts.TextCall.TheVariants.{Print, Shortest}
use Rattle.fixed_face.specs.Answers.{at_fraction}
use Rattle.fixed_face.specs.Roundings.{at_rounding}
use Rattle.fixed_face.specs.Texts.{at_places}

-- the text of a number in a word of n bits, or the code of the refusal
abbrev pub text_in : {T : Type 0} → (T → ℤ) → ℕ → TextCall T → Result (List ℕ) Code
text_in value n (Print a frac places rounding) = at_fraction n frac (at_places places (at_rounding rounding (λ r. Ok (text_of (value a) frac places r))))
text_in value n (Shortest a frac) = at_fraction n frac (Ok (text_of (value a) frac (shortest (value a) frac) Even))
