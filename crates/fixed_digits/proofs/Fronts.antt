-- Naturals that are read digit by digit.
use Rattle.std.proofs.Common.{◌≡◌, ℕ, ◌+◌, ◌*◌, ◌-◌, ◌<◌, ◌^◌, List, [], ◌∷◌, take, length, get_or, arith, true, false, eqb, not, cond, ◌||◌, ◌∙◌, ap, Some, None}
use Rattle.std.specs.Cmp.Derive.{both_true}
use Rattle.std.specs.Char.{is_ascii_digit}
use Rattle.std.specs.List.{list_all}
use Rattle.std.specs.Str.Parse.{digits_value}
use Rattle.std.proofs.lemmas.Int.Digits.{digits_value_more}
use Rattle.std.proofs.lemmas.List.Folds.{list_all_more}
use Rattle.fixed_digits.specs.Numerals.{cap, is_decimal, natural_at}
use Rattle.fixed_digits.proofs.Capping.{digit_value_is}

-- one more digit
pub digits_more : (bytes : List ℕ) (at : ℕ) → at < length bytes → list_all is_ascii_digit (take at bytes) ≡ true → is_ascii_digit (get_or bytes at 0) ≡ true → list_all is_ascii_digit (take (at + 1) bytes) ≡ true
digits_more bytes at lt digits here = list_all_more is_ascii_digit bytes at 0 lt ∙ both_true digits here

pub value_grows : (bytes : List ℕ) (at v : ℕ) → at < length bytes → v ≡ digits_value 10 (take at bytes) → is_ascii_digit (get_or bytes at 0) ≡ true → v * 10 + (get_or bytes at 0 - 48) ≡ digits_value 10 (take (at + 1) bytes)
value_grows bytes at v lt is here =
    let d = digit_value_is (get_or bytes at 0) here in
    let more = digits_value_more 10 bytes at lt in
    grind (arith, more, is, d.0)

pub no_space : (c : ℕ) → is_ascii_digit c ≡ true → c ≡ 32 → ⊥
no_space c h e = let d = digit_value_is c h in omega (arith, d.1)

decimal_is : (t : List ℕ) → 0 < length t → (1 < length t → get_or t 0 0 ≡ 48 → ⊥) → list_all is_ascii_digit t ≡ true → is_decimal t ≡ true
decimal_is [] some first digits = absurd (omega arith)
decimal_is (c ∷ []) some first digits = grind (arith, digits)
decimal_is (c ∷ d ∷ ds) some first digits = both_true (let e : eqb c 48 ≡ false = grind (arith, first) in ap (λ b. not b || eqb (length (d ∷ ds)) 0) e) digits

-- digits alone that make a number of 64 bits
pub natural_is : (t : List ℕ) (v : ℕ) → 0 < length t → (1 < length t → get_or t 0 0 ≡ 48 → ⊥) → list_all is_ascii_digit t ≡ true → v ≡ digits_value 10 t → v < 2 ^ 64 → natural_at t ≡ Some v
unfolding natural_at
natural_is t v some first digits is small =
    let capped : cap (digits_value 10 t) ≡ v = omega (arith, is) in
    ap (λ b. cond b (Some (cap (digits_value 10 t))) None) (decimal_is t some first digits) ∙ ap (λ k. Some k) capped
