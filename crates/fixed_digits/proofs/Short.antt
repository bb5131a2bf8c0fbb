-- The numbers that at most 19 digits write.
use Rattle.std.proofs.Common.{◌≡◌, ◌+◌, ◌*◌, ◌%◌, ◌^◌, ◌<◌, ◌≤◌, ◌&&◌, ℕ, suc, Bool, true, false, List, Some, None, if◌then◌else◌, take, length, get_or, refl, sym, ap, ◌∙◌, pow-suc, arith}
use Rattle.std.specs.List.{list_all}
use Rattle.std.specs.Char.{is_ascii_digit}
use Rattle.std.specs.Str.Parse.{digits_value}
use Rattle.std.proofs.Math.Nat.{pow-le-pow_right}
use Rattle.std.proofs.lemmas.Grind.{common_steps}
use Rattle.std.proofs.lemmas.Int.Digits.{digits_value_more}
use Rattle.std.proofs.lemmas.List.{take_all}
use Rattle.std.proofs.lemmas.List.Folds.{list_all_at, list_all_more}
use Rattle.std.proofs.lemmas.Option.{same_Some}
use Rattle.fixed_digits.specs.Numerals.{cap, is_decimal, natural_at}
use Rattle.fixed_digits.proofs.Capping.{digit_value_is}

-- the first i bytes are digits, which write v
pub record IsRead (bytes : List ℕ) (i v : ℕ) : Type 0 where
  pub digits : list_all is_ascii_digit (take i bytes) ≡ true
  pub value : v ≡ digits_value 10 (take i bytes)
  pub below : v < 10 ^ i

pub none_read : (bytes : List ℕ) → IsRead bytes 0 0
none_read bytes = record { digits = refl; value = refl; below = omega arith }

-- a byte less 48 that is at most 9 is a digit's
digit_of : (b d : ℕ) → b < 256 → d ≡ (b + 208) % 256 → d ≤ 9 → b ≡ d + 48
digit_of b d s e l = omega arith

is_digit : (d : ℕ) → d ≤ 9 → is_ascii_digit (d + 48) ≡ true
is_digit d l = grind (arith, common_steps)

pub one_read : (bytes : List ℕ) (i v d : ℕ) → get_or bytes i 0 < 256 → i < length bytes → IsRead bytes i v → d ≡ (get_or bytes i 0 + 208) % 256 → d ≤ 9 → IsRead bytes (i + 1) (v * 10 + d)
one_read bytes i v d s lt r e l =
    let b = digit_of (get_or bytes i 0) d s e l in
    let digit : is_ascii_digit (get_or bytes i 0) ≡ true = ap is_ascii_digit b ∙ is_digit d l in
    let is = (digit_value_is (get_or bytes i 0) digit).0 in
    let more = digits_value_more 10 bytes i lt in
    let value = r.value in
    let below = r.below in
    let next : i + 1 ≡ suc i = omega arith in
    let up : 10 ^ (i + 1) ≡ 10 ^ i * 10 = ap (λ (k : ℕ). 10 ^ k) next ∙ pow-suc 10 i in
    record {
      digits = list_all_more is_ascii_digit bytes i 0 lt ∙ ap (λ (x : Bool). x && is_ascii_digit (get_or bytes i 0)) r.digits ∙ digit;
      value = omega arith;
      below = omega arith;
    }

pub room_for_one : (i n v d : ℕ) → v < 10 ^ i → i < n → n ≤ 19 → d ≤ 9 → v * 10 + d < 2 ^ 64
room_for_one i n v d below lt most l =
    let e : i ≤ 18 = omega arith in
    let p = pow-le-pow_right {n = 10} (omega arith) {i = i} {j = 18} e in
    omega arith

other : (b d : ℕ) → b < 256 → d ≡ (b + 208) % 256 → 9 < d → is_ascii_digit b ≡ false
other b d s e l = grind (arith, common_steps)

pub not_read : (bytes : List ℕ) (i d : ℕ) → get_or bytes i 0 < 256 → i < length bytes → d ≡ (get_or bytes i 0 + 208) % 256 → 9 < d
    → None ≡ (if list_all is_ascii_digit bytes then Some (digits_value 10 bytes) else None)
not_read bytes i d s lt e l = rw (list_all_at is_ascii_digit bytes i 0 lt (other (get_or bytes i 0) d s e l)) refl

pub all_read : (bytes : List ℕ) (i v : ℕ) → length bytes ≤ i → IsRead bytes i v
    → Some v ≡ (if list_all is_ascii_digit bytes then Some (digits_value 10 bytes) else None)
all_read bytes i v most r =
    let all = take_all i bytes most in
    let digits : list_all is_ascii_digit bytes ≡ true = ap (list_all is_ascii_digit) (sym all) ∙ r.digits in
    rw digits (ap Some (r.value ∙ ap (digits_value 10) all))

-- ---- whether there is a number
some_none : (k : ℕ) → Some k ≡ None → ⊥
some_none k e = cc

-- a token that begins as a decimal has the number of its digits
pub has_number : (token : List ℕ) (lead : Bool) (n : ℕ) → is_decimal token ≡ (lead && list_all is_ascii_digit token) → lead ≡ true → n < 2 ^ 64
    → Some n ≡ (if list_all is_ascii_digit token then Some (digits_value 10 token) else None) → Some n ≡ natural_at token
unfolding natural_at
has_number token lead n is l small found = by_digits (list_all is_ascii_digit token) refl
  where
    by_digits : (b : Bool) → list_all is_ascii_digit token ≡ b → Some n ≡ (if is_decimal token then Some (cap (digits_value 10 token)) else None)
    by_digits true e =
        let value : n ≡ digits_value 10 token = same_Some n (digits_value 10 token) (found ∙ ap (λ (x : Bool). if x then Some (digits_value 10 token) else None) e) in
        let held : n ≡ cap (digits_value 10 token) = omega arith in
        rw (is, l, e) (ap Some held)
    by_digits false e = absurd (some_none n (found ∙ ap (λ (x : Bool). if x then Some (digits_value 10 token) else None) e))

none_either : (lead : Bool) (n : ℕ) → None ≡ (if lead && false then Some n else None)
none_either true n = refl
none_either false n = refl

-- and without a number of its digits it has none
pub has_no_number : (token : List ℕ) (lead : Bool) → is_decimal token ≡ (lead && list_all is_ascii_digit token)
    → None ≡ (if list_all is_ascii_digit token then Some (digits_value 10 token) else None) → None ≡ natural_at token
unfolding natural_at
has_no_number token lead is found = by_digits (list_all is_ascii_digit token) refl
  where
    by_digits : (b : Bool) → list_all is_ascii_digit token ≡ b → None ≡ (if is_decimal token then Some (cap (digits_value 10 token)) else None)
    by_digits true e = absurd (some_none (digits_value 10 token) (sym (found ∙ ap (λ (x : Bool). if x then Some (digits_value 10 token) else None) e)))
    by_digits false e = rw (is, e) (none_either lead (cap (digits_value 10 token)))

-- one that begins otherwise has none
pub begins_otherwise : (token : List ℕ) (lead : Bool) → is_decimal token ≡ (lead && list_all is_ascii_digit token) → lead ≡ false → None ≡ natural_at token
unfolding natural_at
begins_otherwise token lead is l = rw (is, l) refl
