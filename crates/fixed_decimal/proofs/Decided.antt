-- The row of a decimal, from the numbers of its two parts.
use Rattle.std.proofs.Common.{◌≡◌, ◌==◌, ◌+◌, ◌*◌, ◌/◌, ◌%◌, ◌^◌, ◌<◌, ◌*ℤ◌, ◌++◌, ℕ, ℤ, pos, Bool, true, false, not, List, length, take, drop, min, Result, Ok, Err, refl, sym, ap, ◌∙◌, subst, add-mul, mul_assoc, mul_right_comm, arith}
use mathlib.Core.Bool.{beq}
use Rattle.std.specs.Str.Parse.{digits_value, starts_with_minus, without_leading_sign}
use Rattle.std.proofs.Math.Nat.{one-le-pow}
use Rattle.std.proofs.lemmas.List.{drop_min}
use Rattle.std.proofs.lemmas.Nat.{div-add-mod', div-mul-add, mod-mul-add, mod_below}
use Rattle.fixed_word.specs.Format.{IsWidth, with_sign}
use Rattle.fixed_word.specs.Standing.{StandsFor}
use Rattle.fixed_word.specs.declared.outcome.Outcome.{Outcome}
use Rattle.fixed_word.specs.declared.rounding.Rounding.{Rounding}
use Rattle.fixed_kernel.specs.Rounded.{rounded}
use Rattle.fixed_kernel.specs.inside.Alike.{Alike}
use Rattle.fixed_kernel.proofs.Alikes.{signed_times, stands_alike}
use Rattle.fixed_kernel.proofs.Stepped.{rounded_signed}
use Rattle.fixed_decimal.specs.declared.error.DecimalError.{DecimalError}
use Rattle.fixed_decimal.specs.Decimal.{decimal_row, digits_in, fault_of, place_in, places_in, unless}
use Rattle.fixed_decimal.specs.Rows.{IsOutcomeOf}
use Rattle.fixed_decimal.specs.inside.Reading.{IsPointAt, IsReadAs, held}
use Rattle.fixed_decimal.specs.inside.Stepped.{stepped}
use Rattle.fixed_decimal.proofs.Halved.{moved}
use Rattle.fixed_decimal.proofs.Heldness.{alike_held, held_parity}
use Rattle.fixed_decimal.proofs.Runs.{value_join}

sign_alone : (b : Bool) → not (beq b false) ≡ b
sign_alone true = refl
sign_alone false = refl

pub rounded_by_step : (r : Rounding) (b : Bool) (m d : ℕ) → 0 < d → rounded (with_sign b m) (pos d) r ≡ with_sign b (stepped r b m d)
rounded_by_step r b m d h = rounded_signed r b false m d h ∙ ap (λ c. with_sign c (stepped r c m d)) (sign_alone b)

abbrev ok : ℤ → Result ℤ DecimalError
ok x = Ok x

abbrev row_by : ℕ → Bool → ℕ → Rounding → List ℕ → Result ℤ DecimalError
row_by k b f r bytes = unless (fault_of k (digits_in bytes)) (rounded (with_sign b (digits_value 10 (digits_in bytes)) *ℤ pos (2 ^ f)) (pos (10 ^ places_in bytes)) r)

row_of_parts : (k : ℕ) (b : Bool) (bytes : List ℕ) (at f : ℕ) (r : Rounding) → IsPointAt bytes at
    → row_by k b f r bytes ≡ Ok (with_sign b (stepped r b (digits_value 10 (take at bytes) * 2 ^ f * 10 ^ length (drop (at + 1) bytes) + digits_value 10 (drop (at + 1) bytes) * 2 ^ f) (10 ^ length (drop (at + 1) bytes))))
row_of_parts w b bytes at f r i =
    let whole = take at bytes in
    let part = drop (at + 1) bytes in
    let k = length part in
    let digits : digits_in bytes ≡ whole ++ part = ap (λ n. take n bytes ++ drop (n + 1) bytes) i.place in
    let places : places_in bytes ≡ k = ap (λ n. length (drop (n + 1) bytes)) i.place in
    let value : digits_value 10 (digits_in bytes) ≡ digits_value 10 whole * 10 ^ k + digits_value 10 part = ap (digits_value 10) digits ∙ value_join whole part in
    let units : digits_value 10 (digits_in bytes) * 2 ^ f ≡ digits_value 10 whole * 2 ^ f * 10 ^ k + digits_value 10 part * 2 ^ f =
    ap (λ n. n * 2 ^ f) value ∙ add-mul (digits_value 10 whole * 10 ^ k) (digits_value 10 part) (2 ^ f) ∙ ap (λ n. n + digits_value 10 part * 2 ^ f) (mul_right_comm (digits_value 10 whole) (10 ^ k) (2 ^ f)) in
    ap (λ o. unless o (rounded (with_sign b (digits_value 10 (digits_in bytes)) *ℤ pos (2 ^ f)) (pos (10 ^ places_in bytes)) r)) (i.free w)
    ∙ ap (λ (x : ℤ). ok (rounded x (pos (10 ^ places_in bytes)) r)) (signed_times b (digits_value 10 (digits_in bytes)) (2 ^ f) ∙ ap (with_sign b) units)
    ∙ ap (λ n. ok (rounded (with_sign b (digits_value 10 whole * 2 ^ f * 10 ^ k + digits_value 10 part * 2 ^ f)) (pos (10 ^ n)) r)) places
    ∙ ap ok (rounded_by_step r b (digits_value 10 whole * 2 ^ f * 10 ^ k + digits_value 10 part * 2 ^ f) (10 ^ k) (one-le-pow k 10 (omega arith)))

pub tail_is : (bytes : List ℕ) (at k : ℕ) → k ≡ min (at + 1) (length bytes) → drop k bytes ≡ drop (at + 1) bytes
tail_is bytes at k e = ap (λ n. drop n bytes) e ∙ drop_min (at + 1) bytes

-- halves of a whole number and a part
halves_joined : (u q d : ℕ) → 0 < d → (2 * u + 2 * q / d ≡ 2 * (u * d + q) / d) × (2 * q % d ≡ 2 * (u * d + q) % d)
halves_joined u q d h =
    let s = div-add-mod' (2 * q) d in
    let b = mod_below (2 * q) d h in
    let m = mul_assoc 2 u d in
    let a = add-mul (2 * u) (2 * q / d) d in
    let e : 2 * (u * d + q) ≡ (2 * u + 2 * q / d) * d + 2 * q % d = omega arith in
    (sym (ap (λ n. n / d) e ∙ div-mul-add (2 * u + 2 * q / d) d (2 * q % d) b), sym (ap (λ n. n % d) e ∙ mod-mul-add (2 * u + 2 * q / d) d (2 * q % d) b))

pub decided : (b : Bool) (text bytes whole part : List ℕ) (at f units halves magnitude : ℕ) (rest : Bool) (r : Rounding)
    → b ≡ starts_with_minus text → bytes ≡ without_leading_sign text → IsPointAt bytes at → whole ≡ take at bytes → part ≡ drop (at + 1) bytes
    → units ≡ held (digits_value 10 whole * 2 ^ f)
    → halves ≡ 2 * (digits_value 10 part * 2 ^ f) / 10 ^ length part
    → rest ≡ not (2 * (digits_value 10 part * 2 ^ f) % 10 ^ length part == 0)
    → ((m d : ℕ) → 0 < d → 2 * units + halves ≡ 2 * m / d → rest ≡ not (2 * m % d == 0) → magnitude ≡ stepped r b m d)
    → IsReadAs (decimal_row text f r) (Ok (b, magnitude))
decided b text bytes whole part at f units halves magnitude rest r eb ebytes i ewhole epart eunits ehalves erest step =
    let k = length part in
    let d = 10 ^ k in
    let hd = one-le-pow k 10 (omega arith) in
    let u = digits_value 10 whole * 2 ^ f in
    let q = digits_value 10 part * 2 ^ f in
    let mv = moved r b u (held u) q d hd (held_parity u) in
    let j = halves_joined (held u) q d hd in
    let size : magnitude ≡ held u + mv.0 = step (held u * d + q) d hd (ap (λ x. 2 * x + halves) eunits ∙ ap (λ x. 2 * held u + x) ehalves ∙ j.0) (erest ∙ ap (λ x. not (x == 0)) j.1) ∙ mv.2 in
    let row : decimal_row text f r ≡ Ok (with_sign b (u + mv.0)) =
    ap (λ c. row_by (place_in text) c f r (without_leading_sign text)) (sym eb) ∙ ap (row_by (place_in text) b f r) (sym ebytes) ∙ row_of_parts (place_in text) b bytes at f r i
    ∙ ap (λ xs. ok (with_sign b (stepped r b (digits_value 10 xs * 2 ^ f * 10 ^ length (drop (at + 1) bytes) + digits_value 10 (drop (at + 1) bytes) * 2 ^ f) (10 ^ length (drop (at + 1) bytes))))) (sym ewhole)
    ∙ ap (λ xs. ok (with_sign b (stepped r b (digits_value 10 whole * 2 ^ f * 10 ^ length xs + digits_value 10 xs * 2 ^ f) (10 ^ length xs)))) (sym epart)
    ∙ ap (λ m. ok (with_sign b m)) mv.1 in
    subst (λ (x : Result ℤ DecimalError). IsReadAs x (Ok (b, magnitude))) (sym row) (subst (λ (m : ℕ). Alike (2 ^ 64) (with_sign b (u + mv.0)) (with_sign b m)) (sym size) (alike_held b u mv.0))

-- each word keeps the outcome of the row's number
pub stood : {T : Type 0} (value : T → ℤ) (s : Bool) (n : ℕ) (row : Result ℤ DecimalError) (b : Bool) (m : ℕ) (o : Outcome T) → IsWidth n → IsReadAs row (Ok (b, m)) → StandsFor value s n (with_sign b m) o → IsOutcomeOf value s n row (Ok o)
stood value s n (Ok x) b m o w alike stands = stands_alike value s n x (with_sign b m) o w alike stands
stood value s n (Err e) b m o w alike stands = absurd alike

pub fault_stood : {T : Type 0} (value : T → ℤ) (s : Bool) (n : ℕ) (row : Result ℤ DecimalError) (e : DecimalError) → IsReadAs row (Err e) → IsOutcomeOf {T = T} value s n row (Err e)
fault_stood value s n (Ok x) e is = absurd is
fault_stood value s n (Err f) e is = is
