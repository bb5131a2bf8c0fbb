-- Lemmas on capped numbers and decimals.
use Rattle.std.proofs.Common.{◌≡◌, ℕ, ◌+◌, ◌*◌, ◌-◌, ◌<◌, ◌≤◌, ◌^◌, List, [], ◌∷◌, take, length, get_or, min, arith, IsTrue, true, false, ◌∙◌, ap, refl}
use Rattle.std.specs.Char.{is_ascii_digit, digit_value}
use Rattle.std.specs.Str.Parse.{digits_value}
use Rattle.std.proofs.lemmas.Int.Digits.{digits_value_more}
use Rattle.std.proofs.lemmas.List.Sums.{AllPass-from_list_all}
use Rattle.std.proofs.lemmas.Grind.{common_steps}
use Rattle.fixed_digits.specs.Numerals.{cap, is_decimal, has_minus}

-- capping on the way changes nothing
pub cap_step : (v d : ℕ) → cap (cap v * 10 + d) ≡ cap (v * 10 + d)
cap_step v d = grind arith

pub digit_value_is : (c : ℕ) → is_ascii_digit c ≡ true → (digit_value c ≡ c - 48) × (48 ≤ c) × (c ≤ 57)
digit_value_is c h = grind (arith, common_steps)

pub decimal_digit_at : (ds : List ℕ) (i : ℕ) → IsTrue (is_decimal ds) → i < length ds → is_ascii_digit (get_or ds i 0) ≡ true
decimal_digit_at [] i h lt = grind (arith, common_steps)
decimal_digit_at (d ∷ ds) i h lt = grind (arith, common_steps, AllPass-from_list_all is_ascii_digit (d ∷ ds))

pub value_more : (ds : List ℕ) (i v r : ℕ) → IsTrue (is_decimal ds) → i < length ds → v ≡ cap (digits_value 10 (take i ds)) → r ≡ min (v * 10 + (get_or ds i 0 - 48)) (2 ^ 64) → r ≡ cap (digits_value 10 (take (i + 1) ds))
value_more ds i v r h lt e f =
    let d = digit_value_is (get_or ds i 0) (decimal_digit_at ds i h lt) in
    let more : digits_value 10 (take (i + 1) ds) ≡ digits_value 10 (take i ds) * 10 + (get_or ds i 0 - 48) =
    digits_value_more 10 ds i lt ∙ ap (λ x. digits_value 10 (take i ds) * 10 + x) d.0 in
    rw (f, e, more) (cap_step (digits_value 10 (take i ds)) (get_or ds i 0 - 48))

pub no_minus : (t : List ℕ) → is_decimal t ≡ true → has_minus t ≡ false
no_minus [] e = refl
no_minus (c ∷ cs) e = grind (arith, common_steps)
