-- A decimal is read as its number, and only a decimal is.
use Rattle.std.proofs.Common.{◌≡◌, ℕ, List, Bool, true, false, Some, None, cond, refl, sym, ap, ◌∙◌}
use Rattle.std.specs.Option.{option_map}
use Rattle.std.specs.Str.Parse.{digits_value}
use Rattle.std.proofs.lemmas.Option.{cond_some}
use Rattle.fixed_word.specs.Decimal.{natural_text}
use Rattle.fixed_digits.specs.Numerals.{cap, is_decimal, natural_at}
use Rattle.fixed_text.specs.Numbers.{natural_in}
use Rattle.fixed_digits.proofs.Decimals.{decimal_of_text, text_of_value}

pub in_only : (t : List ℕ) (n : ℕ) → natural_in t ≡ Some n → natural_text n ≡ t
unfolding natural_in
in_only t n e =
    let parts = cond_some (is_decimal t) (digits_value 10 t) n e in
    ap natural_text (sym parts.1) ∙ text_of_value t parts.0

pub in_again : (n : ℕ) → natural_in (natural_text n) ≡ Some n
unfolding natural_in
in_again n =
    let parts = decimal_of_text n in
    ap (λ b. cond b (Some (digits_value 10 (natural_text n))) None) parts.0 ∙ ap Some parts.1

-- what is held is the number, capped
pub held_natural : (t : List ℕ) → natural_at t ≡ option_map cap (natural_in t)
unfolding natural_at natural_in
held_natural t = by_test (is_decimal t)
  where
    by_test : (b : Bool) → cond b (Some (cap (digits_value 10 t))) None ≡ option_map cap (cond b (Some (digits_value 10 t)) None)
    by_test true = refl
    by_test false = refl
