-- A decimal is read as its number, and only a decimal is.
use Rattle.std.proofs.Common.{◌≡◌, ℕ, zero, suc, ◌+◌, ◌*◌, ◌/◌, ◌%◌, ◌<◌, List, [], ◌∷◌, ◌++◌, map, length, get_or, arith, true, false, Bool, eqb, not, ◌||◌, ◌&&◌, sym, ◌∙◌, ap, refl, append_assoc, append-nil, zero-add, Some, None, cond}
use Rattle.std.specs.Cmp.Derive.{both_true}
use Rattle.std.proofs.lemmas.Bool.{eqb-true}
use Rattle.std.specs.Char.{is_ascii_digit, digit_value}
use Rattle.std.specs.List.{list_all}
use Rattle.std.specs.Str.Parse.{digits_value, digits_value_after}
use Rattle.std.specs.Int.Digits.{digits_of, number_from_digits_after, AllBelowBase}
use Rattle.std.proofs.lemmas.Int.Digits.{digits_of_step, all_below_base_digits_of, first_digits_of, number_digits_of}
use Rattle.std.proofs.lemmas.List.{map-append}
use Rattle.std.proofs.lemmas.Grind.{common_steps}
use Rattle.std.proofs.lemmas.Option.{cond_some}
use Rattle.fixed_word.specs.Decimal.{natural_text}
use Rattle.fixed_digits.specs.Numerals.{cap, is_decimal, natural_at}
use Rattle.fixed_digits.proofs.Capping.{digit_value_is}

pub both : (a b : Bool) → (a && b) ≡ true → (a ≡ true) × (b ≡ true)
both true b e = (refl, e)
both false b e = (e, cc)

pub text_above : (n : ℕ) → 0 < n → natural_text n ≡ map (λ d. 48 + d) (digits_of 10 n)
unfolding natural_text
text_above n above =
    let e : eqb n 0 ≡ false = grind arith in
    ap (λ b. cond b (48 ∷ []) (map (λ d. 48 + d) (digits_of 10 n))) e

-- a number above 0 has the digits of its tenth, and one more
step_above : (n : ℕ) → 0 < n → natural_text n ≡ map (λ d. 48 + d) (digits_of 10 (n / 10)) ++ ((48 + n % 10) ∷ [])
step_above n above =
    text_above n above ∙ ap (map (λ d. 48 + d)) (digits_of_step 10 n (omega arith) above) ∙ map-append (λ d. 48 + d) (digits_of 10 (n / 10)) ((n % 10) ∷ [])

pub natural_text_zero : natural_text 0 ≡ 48 ∷ []
unfolding natural_text
natural_text_zero = refl

pub natural_text_digit : (d : ℕ) → 0 < d → d < 10 → natural_text d ≡ (48 + d) ∷ []
natural_text_digit d above below =
    let q : d / 10 ≡ 0 = omega arith in
    let r : d % 10 ≡ d = omega arith in
    step_above d above ∙ ap (λ k. map (λ d. 48 + d) (digits_of 10 k) ++ ((48 + d % 10) ∷ [])) q ∙ ap (λ k. (48 + k) ∷ []) r

pub natural_text_step : (v d : ℕ) → 0 < v → d < 10 → natural_text (v * 10 + d) ≡ natural_text v ++ ((48 + d) ∷ [])
natural_text_step v d above below =
    let q : (v * 10 + d) / 10 ≡ v = omega arith in
    let r : (v * 10 + d) % 10 ≡ d = omega arith in
    step_above (v * 10 + d) (omega arith)
    ∙ ap (λ k. map (λ d. 48 + d) (digits_of 10 k) ++ ((48 + (v * 10 + d) % 10) ∷ [])) q
    ∙ ap (λ k. map (λ d. 48 + d) (digits_of 10 v) ++ ((48 + k) ∷ [])) r
    ∙ ap (λ t. t ++ ((48 + d) ∷ [])) (sym (text_above v above))

-- reading digits after a number writes them after it
text_after : (cs : List ℕ) (v : ℕ) → 0 < v → list_all is_ascii_digit cs ≡ true → natural_text (digits_value_after 10 v cs) ≡ natural_text v ++ cs
text_after [] v above digits = sym (append-nil (natural_text v))
text_after (c ∷ cs) v above digits =
    let parts = both (is_ascii_digit c) (list_all is_ascii_digit cs) digits in
    let d = digit_value_is c parts.0 in
    let small : digit_value c < 10 = omega (arith, d.0) in
    let same : 48 + digit_value c ≡ c = omega (arith, d.0) in
    text_after cs (v * 10 + digit_value c) (omega arith) parts.1
    ∙ ap (λ t. t ++ cs) (natural_text_step v (digit_value c) above small ∙ ap (λ k. natural_text v ++ (k ∷ [])) same)
    ∙ append_assoc (natural_text v) (c ∷ []) cs

text_from : (c : ℕ) (cs : List ℕ) (z : Bool) → eqb c 48 ≡ z → (not z || eqb (length cs) 0) ≡ true → is_ascii_digit c ≡ true → list_all is_ascii_digit cs ≡ true → natural_text (digits_value_after 10 (digit_value c) cs) ≡ c ∷ cs
text_from c cs false e first digit digits =
    let d = digit_value_is c digit in
    let above : 0 < digit_value c = grind (arith, d.0, d.1) in
    let small : digit_value c < 10 = omega (arith, d.0) in
    let same : 48 + digit_value c ≡ c = omega (arith, d.0) in
    text_after cs (digit_value c) above digits ∙ ap (λ t. t ++ cs) (natural_text_digit (digit_value c) above small ∙ ap (λ k. k ∷ []) same)
text_from c [] true e first digit digits =
    let d = digit_value_is c digit in
    let is : c ≡ 48 = eqb-true c 48 e in
    let zero_value : digit_value c ≡ 0 = omega (arith, d.0, is) in
    ap natural_text zero_value ∙ natural_text_zero ∙ ap (λ k. k ∷ []) (sym is)
text_from c (x ∷ xs) true e first digit digits = absurd (grind (arith, first))

-- a decimal is the text of the number that it is read as
pub text_of_value : (t : List ℕ) → is_decimal t ≡ true → natural_text (digits_value 10 t) ≡ t
text_of_value [] e = cc
text_of_value (c ∷ cs) e =
    let parts = both (not (eqb c 48) || eqb (length cs) 0) (list_all is_ascii_digit (c ∷ cs)) e in
    let digits = both (is_ascii_digit c) (list_all is_ascii_digit cs) parts.1 in
    ap (λ v. natural_text (digits_value_after 10 v cs)) (zero-add (digit_value c)) ∙ text_from c cs (eqb c 48) refl parts.0 digits.0 digits.1

digit_shown : (d : ℕ) → d < 10 → is_ascii_digit (48 + d) ≡ true
digit_shown d below = grind (arith, common_steps)

-- the digits of a number are digits
digits_all : (ds : List ℕ) → AllBelowBase 10 ds → list_all is_ascii_digit (map (λ d. 48 + d) ds) ≡ true
digits_all [] below = refl
digits_all (d ∷ ds) below = both_true (digit_shown d below.0) (digits_all ds below.1)

value_same : (ds : List ℕ) (n : ℕ) → AllBelowBase 10 ds → digits_value_after 10 n (map (λ d. 48 + d) ds) ≡ number_from_digits_after 10 n ds
value_same [] n below = refl
value_same (d ∷ ds) n below =
    let is : digit_value (48 + d) ≡ d = (digit_value_is (48 + d) (digit_shown d below.0)).0 ∙ omega arith in
    ap (λ k. digits_value_after 10 (n * 10 + k) (map (λ d. 48 + d) ds)) is ∙ value_same ds (n * 10 + d) below.1

decimal_map : (ds : List ℕ) → AllBelowBase 10 ds → 0 < get_or ds 0 0 → is_decimal (map (λ d. 48 + d) ds) ≡ true
decimal_map [] below above = absurd (omega arith)
decimal_map (d ∷ ds) below above =
    let first : eqb (48 + d) 48 ≡ false = grind arith in
    both_true (ap (λ b. not b || eqb (length (map (λ d. 48 + d) ds)) 0) first) (digits_all (d ∷ ds) below)

-- the text of a number is a decimal, and is read as that number
pub decimal_of_text : (n : ℕ) → (is_decimal (natural_text n) ≡ true) × (digits_value 10 (natural_text n) ≡ n)
decimal_of_text zero = (ap is_decimal natural_text_zero, ap (digits_value 10) natural_text_zero)
decimal_of_text (suc m) =
    let n : ℕ = suc m in
    let above : 0 < n = omega arith in
    let text = text_above n above in
    let below = all_below_base_digits_of 10 n (omega arith) in
    (ap is_decimal text ∙ decimal_map (digits_of 10 n) below (first_digits_of 10 n (omega arith) above), ap (digits_value 10) text ∙ value_same (digits_of 10 n) 0 below ∙ number_digits_of 10 n (omega arith))

pub natural_takes : (t : List ℕ) (m : ℕ) → natural_at t ≡ Some m → (n : ℕ) × (natural_text n ≡ t) × (m ≡ cap n)
unfolding natural_at
natural_takes t m e =
    let parts = cond_some (is_decimal t) (cap (digits_value 10 t)) m e in
    (digits_value 10 t, text_of_value t parts.0, sym parts.1)

pub natural_again : (n : ℕ) → natural_at (natural_text n) ≡ Some (cap n)
unfolding natural_at
natural_again n =
    let parts = decimal_of_text n in
    ap (λ b. cond b (Some (cap (digits_value 10 (natural_text n)))) None) parts.0 ∙ ap (λ k. Some (cap k)) parts.1

-- two numbers with one text are equal
pub natural_text_injective : (m n : ℕ) → natural_text m ≡ natural_text n → m ≡ n
natural_text_injective m n e = sym (decimal_of_text m).1 ∙ ap (digits_value 10) e ∙ (decimal_of_text n).1
