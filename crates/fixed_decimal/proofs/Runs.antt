-- Runs of digits, and the numbers that they write.
use Rattle.std.proofs.Common.{◌≡◌, ℕ, ◌+◌, ◌*◌, ◌-◌, ◌<◌, ◌≤◌, ◌^◌, true, List, [], ◌∷◌, ◌++◌, length, take, drop, get_or, refl, sym, ap, ◌∙◌, take-append-drop, take-add, drop-drop, length-take, length-drop, pow-suc, arith}
use Rattle.std.proofs.Math.Nat.{pow-le-pow_right}
use Rattle.std.specs.Char.{is_ascii_digit, digit_value}
use Rattle.std.specs.List.{list_all}
use Rattle.std.specs.Str.Parse.{digits_value, digits_value_after, AllDigits}
use Rattle.std.proofs.lemmas.Int.Digits.{digits_value-lt}
use Rattle.std.proofs.lemmas.List.{get_or-drop, length-take-le, take_more}
use Rattle.std.proofs.lemmas.List.Folds.{list_all-append}
use Rattle.std.proofs.lemmas.List.Sums.{AllPass-from_list_all}
use Rattle.std.proofs.lemmas.Grind.{common_steps}
use Rattle.fixed_digits.proofs.Capping.{digit_value_is}
use Rattle.fixed_digits.proofs.Decimals.{both}

pub all_digits : (ds : List ℕ) → list_all is_ascii_digit ds ≡ true → AllDigits 10 ds
all_digits [] h = tt
all_digits (d ∷ ds) h =
    let parts = both (is_ascii_digit d) (list_all is_ascii_digit ds) h in
    let is = digit_value_is d parts.0 in
    (omega (arith, is.0, is.1, is.2), all_digits ds parts.1)

pub value_below : (ds : List ℕ) → list_all is_ascii_digit ds ≡ true → digits_value 10 ds < 10 ^ length ds
value_below ds h = digits_value-lt 10 ds (all_digits ds h)

pub front_digits : (ds : List ℕ) (i : ℕ) → list_all is_ascii_digit ds ≡ true → list_all is_ascii_digit (take i ds) ≡ true
front_digits ds i h = (both (list_all is_ascii_digit (take i ds)) (list_all is_ascii_digit (drop i ds)) (sym (list_all-append is_ascii_digit (take i ds) (drop i ds)) ∙ ap (list_all is_ascii_digit) (take-append-drop i ds) ∙ h)).0

pub back_digits : (ds : List ℕ) (i : ℕ) → list_all is_ascii_digit ds ≡ true → list_all is_ascii_digit (drop i ds) ≡ true
back_digits ds i h = (both (list_all is_ascii_digit (take i ds)) (list_all is_ascii_digit (drop i ds)) (sym (list_all-append is_ascii_digit (take i ds) (drop i ds)) ∙ ap (list_all is_ascii_digit) (take-append-drop i ds) ∙ h)).1

pub digit_here : (ds : List ℕ) (i : ℕ) → list_all is_ascii_digit ds ≡ true → i < length ds → is_ascii_digit (get_or ds i 0) ≡ true
digit_here ds i h lt = grind (arith, common_steps, AllPass-from_list_all is_ascii_digit ds)

-- room for one digit more
pub value_room : (ds : List ℕ) (i : ℕ) → list_all is_ascii_digit ds ≡ true → i < length ds → length ds ≤ 18 → digits_value 10 (take i ds) < 10 ^ 17
value_room ds i h lt short =
    let b = value_below (take i ds) (front_digits ds i h) in
    let p = pow-le-pow_right {n = 10} (omega arith) {i = length (take i ds)} {j = 17} (omega (arith, length-take-le i ds (omega arith))) in
    omega arith

pub cut_digits : (ds : List ℕ) (i n : ℕ) → list_all is_ascii_digit ds ≡ true → list_all is_ascii_digit (take n (drop i ds)) ≡ true
cut_digits ds i n h = front_digits (drop i ds) n (back_digits ds i h)

-- ---- digits before digits
value_after : (n : ℕ) (ds : List ℕ) → digits_value_after 10 n ds ≡ n * 10 ^ length ds + digits_value 10 ds
value_after n [] = omega arith
value_after n (c ∷ cs) =
    let a = value_after (n * 10 + digit_value c) cs in
    let b = value_after (0 * 10 + digit_value c) cs in
    omega (arith, ap (λ x. n * x) (pow-suc 10 (length cs)))

pub after_join : (n : ℕ) (xs ys : List ℕ) → digits_value_after 10 n (xs ++ ys) ≡ digits_value_after 10 (digits_value_after 10 n xs) ys
after_join n [] ys = refl
after_join n (x ∷ xs) ys = after_join (n * 10 + digit_value x) xs ys

pub value_join : (xs ys : List ℕ) → digits_value 10 (xs ++ ys) ≡ digits_value 10 xs * 10 ^ length ys + digits_value 10 ys
value_join xs ys = after_join 0 xs ys ∙ value_after (digits_value 10 xs) ys

-- at most 18 digits in the middle
pub cut_small : (ds : List ℕ) (i n : ℕ) → list_all is_ascii_digit ds ≡ true → n ≤ 18 → digits_value 10 (take n (drop i ds)) < 2 ^ 60
cut_small ds i n h short =
    let b = value_below (take n (drop i ds)) (cut_digits ds i n h) in
    let p = pow-le-pow_right {n = 10} (omega arith) {i = length (take n (drop i ds))} {j = 18} (omega (arith, length-take n (drop i ds))) in
    omega arith

-- a run that is cut at two places
pub back_split : (ds : List ℕ) (s e : ℕ) → s ≤ e → drop s ds ≡ take (e - s) (drop s ds) ++ drop e ds
back_split ds s e le =
    let back : s + (e - s) ≡ e = omega arith in
    sym (take-append-drop (e - s) (drop s ds)) ∙ ap (λ ys. take (e - s) (drop s ds) ++ ys) (drop-drop (e - s) s ds ∙ ap (λ k. drop k ds) back)

pub front_split : (ds : List ℕ) (s e : ℕ) → s ≤ e → take e ds ≡ take s ds ++ take (e - s) (drop s ds)
front_split ds s e le =
    let back : s + (e - s) ≡ e = omega arith in
    ap (λ k. take k ds) (sym back) ∙ take-add s (e - s) ds

-- one digit more, after those of a number
pub after_more : (b : ℕ) (ds : List ℕ) (from at : ℕ) → from ≤ at → at < length ds → digits_value_after 10 b (take (at + 1 - from) (drop from ds)) ≡ digits_value_after 10 b (take (at - from) (drop from ds)) * 10 + digit_value (get_or ds at 0)
after_more b ds from at le lt =
    let n = at - from in
    let e : at + 1 - from ≡ n + 1 = omega arith in
    let long = length-drop from ds in
    let place : from + n ≡ at = omega arith in
    ap (λ k. digits_value_after 10 b (take k (drop from ds))) e
    ∙ ap (digits_value_after 10 b) (take_more (drop from ds) n 0 (omega arith))
    ∙ after_join b (take n (drop from ds)) (get_or (drop from ds) n 0 ∷ [])
    ∙ ap (λ d. digits_value_after 10 b (take n (drop from ds)) * 10 + digit_value d) (get_or-drop from ds n 0 ∙ ap (λ k. get_or ds k 0) place)

pub small_more : (v d at : ℕ) → v < 10 ^ at → d < 10 → v * 10 + d < 10 ^ (at + 1)
small_more v d at h lt = let e : 10 ^ (at + 1) ≡ 10 ^ at * 10 = ap (λ k. 10 ^ k) (omega arith) ∙ pow-suc 10 at in omega arith

pub room_more : (v at : ℕ) → v < 10 ^ at → at ≤ 17 → v < 10 ^ 17
room_more v at h le = omega (arith, pow-le-pow_right {n = 10} (omega arith) {i = at} {j = 17} le)
