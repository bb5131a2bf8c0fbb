-- The decimal of a number, digit by digit.
use Rattle.std.proofs.Common.{◌≡◌, ℕ, zero, suc, ◌+◌, ◌*◌, ◌/◌, ◌%◌, ◌<◌, ◌≤◌, [], ◌∷◌, ◌++◌, length, length-append, append_assoc, sym, ap, ◌∙◌, arith}
use Rattle.fixed_word.specs.Decimal.{natural_text}
use Rattle.fixed_digits.specs.inside.Digits.{pair_digits, four_digits, eight_digits}
use Rattle.fixed_digits.proofs.Decimals.{natural_text_zero, natural_text_digit, natural_text_step}

pub one_digit : (n : ℕ) → n < 10 → natural_text n ≡ (48 + n) ∷ []
one_digit zero lt = natural_text_zero
one_digit (suc n) lt = natural_text_digit (suc n) (omega arith) lt

pub more_digits : (n : ℕ) → 10 ≤ n → natural_text n ≡ natural_text (n / 10) ++ ((48 + n % 10) ∷ [])
more_digits n le =
    let e : n / 10 * 10 + n % 10 ≡ n = omega arith in
    ap natural_text (sym e) ∙ natural_text_step (n / 10) (n % 10) (omega arith) (omega arith)

-- two digits, and two more
pub two_digits : (n : ℕ) → 10 ≤ n → n < 100 → natural_text n ≡ (48 + n / 10) ∷ (48 + n % 10) ∷ []
two_digits n le lt = more_digits n le ∙ ap (λ t. t ++ ((48 + n % 10) ∷ [])) (one_digit (n / 10) (omega arith))

pub more_pairs : (n : ℕ) → 100 ≤ n → natural_text n ≡ natural_text (n / 100) ++ pair_digits (n % 100)
more_pairs n le =
    let hundreds : n / 10 / 10 ≡ n / 100 = omega arith in
    let tens : n / 10 % 10 ≡ n % 100 / 10 = omega arith in
    let ones : n % 10 ≡ n % 100 % 10 = omega arith in
    more_digits n (omega arith)
    ∙ ap (λ t. t ++ ((48 + n % 10) ∷ [])) (more_digits (n / 10) (omega arith))
    ∙ append_assoc (natural_text (n / 10 / 10)) ((48 + n / 10 % 10) ∷ []) ((48 + n % 10) ∷ [])
    ∙ ap (λ k. natural_text k ++ ((48 + n / 10 % 10) ∷ (48 + n % 10) ∷ [])) hundreds
    ∙ ap (λ k. natural_text (n / 100) ++ ((48 + k) ∷ (48 + n % 10) ∷ [])) tens
    ∙ ap (λ k. natural_text (n / 100) ++ ((48 + n % 100 / 10) ∷ (48 + k) ∷ [])) ones

pub length_pairs : (n : ℕ) → 100 ≤ n → length (natural_text n) ≡ length (natural_text (n / 100)) + 2
length_pairs n le = ap length (more_pairs n le) ∙ length-append (natural_text (n / 100)) (pair_digits (n % 100))

-- four digits more, and eight more
pub more_fours : (n : ℕ) → 10000 ≤ n → natural_text n ≡ natural_text (n / 10000) ++ four_digits (n % 10000)
more_fours n le =
    let front : n / 100 / 100 ≡ n / 10000 = omega arith in
    let first : n / 100 % 100 ≡ n % 10000 / 100 = omega arith in
    let second : n % 100 ≡ n % 10000 % 100 = omega arith in
    more_pairs n (omega arith)
    ∙ ap (λ t. t ++ pair_digits (n % 100)) (more_pairs (n / 100) (omega arith))
    ∙ append_assoc (natural_text (n / 100 / 100)) (pair_digits (n / 100 % 100)) (pair_digits (n % 100))
    ∙ ap (λ k. natural_text k ++ (pair_digits (n / 100 % 100) ++ pair_digits (n % 100))) front
    ∙ ap (λ k. natural_text (n / 10000) ++ (pair_digits k ++ pair_digits (n % 100))) first
    ∙ ap (λ k. natural_text (n / 10000) ++ (pair_digits (n % 10000 / 100) ++ pair_digits k)) second

pub length_fours : (n : ℕ) → 10000 ≤ n → length (natural_text n) ≡ length (natural_text (n / 10000)) + 4
length_fours n le = ap length (more_fours n le) ∙ length-append (natural_text (n / 10000)) (four_digits (n % 10000))

pub more_eights : (n : ℕ) → 100000000 ≤ n → natural_text n ≡ natural_text (n / 100000000) ++ eight_digits (n % 100000000)
more_eights n le =
    let front : n / 10000 / 10000 ≡ n / 100000000 = omega arith in
    let first : n / 10000 % 10000 ≡ n % 100000000 / 10000 = omega arith in
    let second : n % 10000 ≡ n % 100000000 % 10000 = omega arith in
    more_fours n (omega arith)
    ∙ ap (λ t. t ++ four_digits (n % 10000)) (more_fours (n / 10000) (omega arith))
    ∙ append_assoc (natural_text (n / 10000 / 10000)) (four_digits (n / 10000 % 10000)) (four_digits (n % 10000))
    ∙ ap (λ k. natural_text k ++ (four_digits (n / 10000 % 10000) ++ four_digits (n % 10000))) front
    ∙ ap (λ k. natural_text (n / 100000000) ++ (four_digits k ++ four_digits (n % 10000))) first
    ∙ ap (λ k. natural_text (n / 100000000) ++ (four_digits (n % 100000000 / 10000) ++ four_digits k)) second

pub length_eights : (n : ℕ) → 100000000 ≤ n → length (natural_text n) ≡ length (natural_text (n / 100000000)) + 8
length_eights n le = ap length (more_eights n le) ∙ length-append (natural_text (n / 100000000)) (eight_digits (n % 100000000))
