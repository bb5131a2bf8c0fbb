-- Texts that are written are read.
use Rattle.std.proofs.Common.{◌≡◌, ◌||◌, ◌+◌, ◌*◌, ◌/◌, ◌%◌, ◌^◌, ◌<◌, ◌*ℤ◌, ◌++◌, ℕ, ℤ, zero, suc, pos, negsuc, nat_abs, Bool, true, false, not, eqb, List, [], ◌∷◌, length, take, drop, get_or, None, Result, Ok, refl, sym, ap, ◌∙◌, append-nil, length-append, drop-drop, zero-add, pow-suc, arith}
use Rattle.std.specs.Prelude.{find}
use Rattle.std.specs.Char.{is_ascii_digit, digit_value}
use Rattle.std.specs.Cmp.Derive.{both_true}
use Rattle.std.specs.List.{list_all, position_or_len}
use Rattle.std.specs.Str.Parse.{digits_value, starts_with_minus, without_leading_sign}
use Rattle.std.proofs.Math.Nat.{one-le-pow}
use Rattle.std.proofs.lemmas.Grind.{common_steps}
use Rattle.std.proofs.lemmas.List.{drop_all, drop_at, take_all, take_at}
use Rattle.std.proofs.lemmas.List.Folds.{list_all-append}
use Rattle.std.proofs.lemmas.List.Sums.{position_or_len_is}
use Rattle.std.proofs.lemmas.Nat.{div-add-mod'}
use Rattle.fixed_word.specs.Decimal.{natural_text}
use Rattle.fixed_word.specs.Format.{with_sign}
use Rattle.fixed_word.specs.declared.rounding.Rounding.{Rounding}
use Rattle.fixed_kernel.specs.Rounded.{rounded}
use Rattle.fixed_kernel.proofs.Alikes.{abs_signed, signed_times}
use Rattle.fixed_digits.proofs.Capping.{digit_value_is}
use Rattle.fixed_digits.proofs.Decimals.{both, decimal_of_text}
use Rattle.fixed_digits.specs.Numerals.{is_decimal}
use Rattle.fixed_decimal.specs.declared.error.DecimalError.{DecimalError}
use Rattle.fixed_decimal.specs.Decimal.{decimal_row, digits_in, fault_of, is_point, place_in, places_in, unless}
use Rattle.fixed_decimal.specs.Text.{magnitude_text, places_text, text_of}
use Rattle.fixed_decimal.specs.inside.Stepped.{stepped}
use Rattle.fixed_decimal.proofs.Decided.{rounded_by_step}
use Rattle.fixed_decimal.proofs.Parts.{joined_quotient}
use Rattle.fixed_decimal.proofs.Points.{digit_no_point, fault_free, other}
use Rattle.fixed_decimal.proofs.Runs.{digit_here, value_join}
use Rattle.fixed_decimal.proofs.Shown.{length_places}

-- ---- digits
digit_shown : (d : ℕ) → d < 10 → (is_ascii_digit (48 + d) ≡ true) × (digit_value (48 + d) ≡ d)
digit_shown d lt =
    let e : is_ascii_digit (48 + d) ≡ true = grind (arith, common_steps) in
    (e, (digit_value_is (48 + d) e).0 ∙ omega arith)

places_digits : (n p : ℕ) → list_all is_ascii_digit (places_text n p) ≡ true
unfolding places_text
places_digits n zero = refl
places_digits n (suc p) = list_all-append is_ascii_digit (places_text (n / 10) p) ((48 + n % 10) ∷ []) ∙ both_true (places_digits (n / 10) p) (both_true (digit_shown (n % 10) (omega arith)).0 refl)

places_value : (n p : ℕ) → digits_value 10 (places_text n p) ≡ n % 10 ^ p
unfolding places_text
places_value n zero = omega arith
places_value n (suc p) =
    let d = (digit_shown (n % 10) (omega arith)).1 in
    let j = joined_quotient 0 n (10 ^ p) 10 (one-le-pow p 10 (omega arith)) (omega arith) in
    let t = pow-suc 10 p in
    let whole : n % 10 ^ suc p ≡ n / 10 % 10 ^ p * 10 + n % 10 = ap (λ k. n % k) t ∙ ap (λ k. k % (10 ^ p * 10)) (omega arith) ∙ j.1 ∙ ap (λ k. k % 10 ^ p * 10 + n % 10) (zero-add (n / 10)) in
    value_join (places_text (n / 10) p) ((48 + n % 10) ∷ [])
    ∙ ap (λ k. digits_value 10 (places_text (n / 10) p) * 10 ^ 1 + k) (zero-add (digit_value (48 + n % 10)) ∙ d)
    ∙ ap (λ k. k * 10 ^ 1 + n % 10) (places_value (n / 10) p) ∙ sym whole

some_digits : (t : List ℕ) → is_decimal t ≡ true → (list_all is_ascii_digit t ≡ true) × (0 < length t)
some_digits [] e = cc
some_digits (c ∷ cs) e = ((both (not (eqb c 48) || eqb (length cs) 0) (list_all is_ascii_digit (c ∷ cs)) e).1, omega arith)

natural_digits : (n : ℕ) → (list_all is_ascii_digit (natural_text n) ≡ true) × (0 < length (natural_text n)) × (digits_value 10 (natural_text n) ≡ n)
natural_digits n = let d = decimal_of_text n in let s = some_digits (natural_text n) d.0 in (s.0, s.1, d.1)

-- ---- the parts of a text that is written
pub record HasParts (text digits : List ℕ) (p : ℕ) : Type 0 where
  pub all : digits_in text ≡ digits
  pub places : places_in text ≡ p

no_points : (xs ys : List ℕ) → list_all is_ascii_digit xs ≡ true → (k : ℕ) → k < length xs → is_point (get_or (xs ++ ys) k 0) ≡ false
no_points xs ys h k lt =
    let e : get_or (xs ++ ys) k 0 ≡ get_or xs k 0 = grind (arith, common_steps) in
    ap is_point e ∙ digit_no_point (get_or xs k 0) (digit_here xs k h lt)

parts_whole : (xs : List ℕ) → list_all is_ascii_digit xs ≡ true → HasParts xs xs 0
parts_whole xs h =
    let at : position_or_len is_point xs ≡ length xs = position_or_len_is is_point xs (length xs) 0 (omega arith) (λ k lt. digit_no_point (get_or xs k 0) (digit_here xs k h lt)) (λ lt. absurd (omega arith)) in
    let gone : drop (length xs + 1) xs ≡ [] = drop_all (length xs + 1) xs (omega arith) in
    record {
      all = ap (λ k. take k xs ++ drop (k + 1) xs) at ∙ ap (λ ys. take (length xs) xs ++ ys) gone ∙ append-nil (take (length xs) xs) ∙ take_all (length xs) xs (omega arith);
      places = ap (λ k. length (drop (k + 1) xs)) at ∙ ap length gone;
    }

parts_both : (xs ys : List ℕ) → list_all is_ascii_digit xs ≡ true → HasParts (xs ++ 46 ∷ ys) (xs ++ ys) (length ys)
parts_both xs ys h =
    let t = xs ++ 46 ∷ ys in
    let long = length-append xs (46 ∷ ys) in
    let here : get_or t (length xs) 0 ≡ 46 = grind (arith, common_steps) in
    let at : position_or_len is_point t ≡ length xs = position_or_len_is is_point t (length xs) 0 (omega arith) (no_points xs (46 ∷ ys) h) (λ _. ap is_point here) in
    let front : take (length xs) t ≡ xs = take_at xs (46 ∷ ys) (length xs) refl in
    let back : drop (length xs + 1) t ≡ ys = sym (drop-drop 1 (length xs) t) ∙ ap (drop 1) (drop_at xs (46 ∷ ys) (length xs) refl) in
    record {
      all = ap (λ k. take k t ++ drop (k + 1) t) at ∙ ap (λ zs. zs ++ drop (length xs + 1) t) front ∙ ap (λ zs. xs ++ zs) back;
      places = ap (λ k. length (drop (k + 1) t)) at ∙ ap length back;
    }

-- what is read of the text of n / 10 ^ p
pub record IsRead (text : List ℕ) (n p : ℕ) : Type 0 where
  pub free : (place : ℕ) → fault_of place (digits_in text) ≡ None
  pub value : digits_value 10 (digits_in text) ≡ n
  pub places : places_in text ≡ p

from_parts : (text digits : List ℕ) (n p : ℕ) → HasParts text digits p → list_all is_ascii_digit digits ≡ true → 0 < length digits → digits_value 10 digits ≡ n → IsRead text n p
from_parts text digits n p h all some is = record {
  free = λ k. ap (fault_of k) h.all ∙ fault_free k digits (none digits all) some;
  value = ap (digits_value 10) h.all ∙ is;
  places = h.places;
}
  where
    none : (ds : List ℕ) → list_all is_ascii_digit ds ≡ true → find other ds ≡ None
    none [] e = refl
    none (d ∷ ds) e = let b = both (is_ascii_digit d) (list_all is_ascii_digit ds) e in rw b.0 (none ds b.1)

pub magnitude_read : (n p : ℕ) → IsRead (magnitude_text n p) n p
magnitude_read n zero = let d = natural_digits n in from_parts (natural_text n) (natural_text n) n 0 (parts_whole (natural_text n) d.0) d.0 d.1 d.2
magnitude_read n (suc p) =
    let q = n / 10 ^ suc p in
    let xs = natural_text q in
    let ys = places_text n (suc p) in
    let d = natural_digits q in
    let long = length_places n (suc p) in
    let parts = parts_both xs ys d.0 in
    let value : digits_value 10 (xs ++ ys) ≡ n =
    value_join xs ys ∙ ap (λ k. digits_value 10 xs * 10 ^ k + digits_value 10 ys) long ∙ ap (λ k. k * 10 ^ suc p + digits_value 10 ys) d.2 ∙ ap (λ k. q * 10 ^ suc p + k) (places_value n (suc p)) ∙ div-add-mod' n (10 ^ suc p) in
    from_parts (xs ++ 46 ∷ ys) (xs ++ ys) n (suc p) (record { all = parts.all; places = parts.places ∙ long }) (list_all-append is_ascii_digit xs ys ∙ both_true d.0 (places_digits n (suc p))) (omega (arith, length-append xs ys, d.1)) value

-- ---- signs
no_sign : (t : List ℕ) → 0 < length t → is_ascii_digit (get_or t 0 0) ≡ true → (starts_with_minus t ≡ false) × (without_leading_sign t ≡ t)
no_sign [] h e = absurd (omega arith)
no_sign (c ∷ cs) h e =
    let d = digit_value_is c e in
    let m : eqb c 45 ≡ false = grind (arith, d.1) in
    let p : eqb c 43 ≡ false = grind (arith, d.1) in
    (m, rw (m, p) refl)

magnitude_first : (n p : ℕ) → (0 < length (magnitude_text n p)) × (is_ascii_digit (get_or (magnitude_text n p) 0 0) ≡ true)
magnitude_first n zero = let d = natural_digits n in (d.1, digit_here (natural_text n) 0 d.0 d.1)
magnitude_first n (suc p) =
    let xs = natural_text (n / 10 ^ suc p) in
    let ys = 46 ∷ places_text n (suc p) in
    let d = natural_digits (n / 10 ^ suc p) in
    let some = d.1 in
    let e : get_or (xs ++ ys) 0 0 ≡ get_or xs 0 0 = grind (arith, common_steps) in
    (omega (arith, length-append xs ys), ap is_ascii_digit e ∙ digit_here xs 0 d.0 d.1)

abbrev signed_text : Bool → List ℕ → List ℕ
signed_text false t = t
signed_text true t = 45 ∷ t

signs_read : (b : Bool) (n p : ℕ) → (starts_with_minus (signed_text b (magnitude_text n p)) ≡ b) × (without_leading_sign (signed_text b (magnitude_text n p)) ≡ magnitude_text n p)
signs_read true n p = (refl, refl)
signs_read false n p = let f = magnitude_first n p in no_sign (magnitude_text n p) f.0 f.1

abbrev pub row_at : Bool → ℕ → ℕ → ℕ → Rounding → ℤ
row_at b n p f s = rounded (with_sign b n *ℤ pos (2 ^ f)) (pos (10 ^ p)) s

abbrev pub ok : ℤ → Result ℤ DecimalError
ok x = Ok x

abbrev row_by : ℕ → Bool → List ℕ → ℕ → Rounding → Result ℤ DecimalError
row_by k b bytes f s = unless (fault_of k (digits_in bytes)) (row_at b (digits_value 10 (digits_in bytes)) (places_in bytes) f s)

row_written : (b : Bool) (n p f : ℕ) (s : Rounding) → decimal_row (signed_text b (magnitude_text n p)) f s ≡ ok (row_at b n p f s)
row_written b n p f s =
    let t = magnitude_text n p in
    let g = signs_read b n p in
    let i = magnitude_read n p in
    let w = place_in (signed_text b t) in
    ap (λ c. row_by w c (without_leading_sign (signed_text b t)) f s) g.0
    ∙ ap (λ bs. row_by w b bs f s) g.1
    ∙ ap (λ o. unless o (row_at b (digits_value 10 (digits_in t)) (places_in t) f s)) (i.free w)
    ∙ ap (λ m. ok (row_at b m (places_in t) f s)) i.value
    ∙ ap (λ k. ok (row_at b n k f s)) i.places

-- the text of a number, by its sign and magnitude
text_by_sign : (b : Bool) (m f p : ℕ) (r : Rounding) → (b ≡ true → 0 < m) → text_of (with_sign b m) f p r ≡ signed_text b (magnitude_text (stepped r b (m * 10 ^ p) (2 ^ f)) p)
text_by_sign false m f p r h =
    ap (λ (z : ℤ). magnitude_text (nat_abs z) p) (rounded_by_step r false (m * 10 ^ p) (2 ^ f) (one-le-pow f 2 (omega arith)))
text_by_sign true zero f p r h = absurd (omega (arith, h refl))
text_by_sign true (suc m) f p r h =
    ap (λ (z : ℤ). 45 ∷ magnitude_text (nat_abs (rounded z (pos (2 ^ f)) r)) p) (signed_times true (suc m) (10 ^ p))
    ∙ ap (λ (z : ℤ). 45 ∷ magnitude_text (nat_abs z) p) (rounded_by_step r true (suc m * 10 ^ p) (2 ^ f) (one-le-pow f 2 (omega arith)))
    ∙ ap (λ k. 45 ∷ magnitude_text k p) (abs_signed true (stepped r true (suc m * 10 ^ p) (2 ^ f)))

sign_and_size : (a : ℤ) → (b : Bool) × (m : ℕ) × (a ≡ with_sign b m) × (b ≡ true → 0 < m)
sign_and_size (pos n) = (false, n, refl, λ e. cc)
sign_and_size (negsuc n) = (true, suc n, refl, λ _. omega arith)

-- the row of a number's text
pub row_of_text : (a : ℤ) (f p : ℕ) (r s : Rounding) → (b : Bool) × (m : ℕ) × (a ≡ with_sign b m) × (decimal_row (text_of a f p r) f s ≡ ok (row_at b (stepped r b (m * 10 ^ p) (2 ^ f)) p f s))
row_of_text a f p r s =
    let g = sign_and_size a in
    (g.0, g.1, g.2, ap (λ (x : ℤ). decimal_row (text_of x f p r) f s) g.2 ∙ ap (λ t. decimal_row t f s) (text_by_sign g.0 g.1 f p r g.3) ∙ row_written g.0 (stepped r g.0 (g.1 * 10 ^ p) (2 ^ f)) p f s)
