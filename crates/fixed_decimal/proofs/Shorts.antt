-- Decimals of at most 18 bytes.
use Rattle.std.proofs.Common.{◌≡◌, ◌==◌, ◌+◌, ◌-◌, ◌*◌, ◌^◌, ◌<◌, ◌≤◌, ◌*ℤ◌, ◌++◌, ℕ, ℤ, pos, Bool, List, [], length, take, drop, get_or, Result, Ok, if◌then◌else◌, sym, ap, ◌∙◌, subst, append-nil, length-drop, arith}
use lib.ListN.{get_or-eq_default}
use Rattle.std.specs.Str.Parse.{digits_value, digits_value_after, starts_with_minus, without_leading_sign}
use Rattle.std.proofs.Math.Nat.{one-le-pow, pow-le-pow_right}
use Rattle.std.proofs.lemmas.List.{drop_all, take_all}
use Rattle.fixed_word.specs.Format.{with_sign}
use Rattle.fixed_word.specs.declared.rounding.Rounding.{Rounding}
use Rattle.fixed_kernel.specs.Rounded.{rounded}
use Rattle.fixed_kernel.proofs.Alikes.{alike_refl, signed_times}
use Rattle.fixed_kernel.specs.inside.Alike.{Alike}
use Rattle.fixed_decimal.specs.declared.error.DecimalError.{DecimalError}
use Rattle.fixed_decimal.specs.Decimal.{decimal_row, digits_in, fault_of, place_in, places_in, unless}
use Rattle.fixed_decimal.specs.inside.Reading.{IsPointAt, IsReadAs, IsShort, part_end}
use Rattle.fixed_decimal.specs.inside.Stepped.{stepped}
use Rattle.fixed_decimal.proofs.Decided.{rounded_by_step}
use Rattle.fixed_decimal.proofs.Points.{point_clear, run}
use Rattle.fixed_decimal.proofs.Runs.{after_join}

small_number : (v n : ℕ) → v < 10 ^ n → n ≤ 18 → v < 2 ^ 60
small_number v n h le = omega (arith, pow-le-pow_right {n = 10} (omega arith) {i = n} {j = 18} le)

digits_at : (bytes : List ℕ) (at : ℕ) → IsPointAt bytes at → (digits_in bytes ≡ take at bytes ++ drop (at + 1) bytes) × (places_in bytes ≡ length (drop (at + 1) bytes))
digits_at bytes at i = (ap (λ k. take k bytes ++ drop (k + 1) bytes) i.place, ap (λ k. length (drop (k + 1) bytes)) i.place)

end_by : (bytes : List ℕ) (at b : ℕ) → get_or bytes at 0 ≡ b → part_end bytes at ≡ (if b == 46 then at + 1 + run (drop (at + 1) bytes) else at)
end_by bytes at b e = ap (λ x. if x == 46 then at + 1 + run (drop (at + 1) bytes) else at) e

pub whole_short : (bytes : List ℕ) (at v : ℕ) → at ≡ 0 + run (drop 0 bytes) → at ≡ length bytes → 0 < at → length bytes ≤ 18 → v < 10 ^ at → v ≡ digits_value_after 10 0 (take (at - 0) (drop 0 bytes)) → IsShort bytes v 0
whole_short bytes at v a full some few small is =
    let past : get_or bytes at 0 ≡ 0 = get_or-eq_default bytes 0 (omega arith) in
    let i = point_clear bytes at at a (sym (end_by bytes at 0 past)) (omega arith) (λ z. absurd (omega arith)) in
    let d = digits_at bytes at i in
    let gone : drop (at + 1) bytes ≡ [] = drop_all (at + 1) bytes (omega arith) in
    let all : digits_in bytes ≡ take at bytes = d.0 ∙ ap (λ ys. take at bytes ++ ys) gone ∙ append-nil (take at bytes) in
    record {
      free = i.free;
      number = is ∙ ap (λ k. digits_value_after 10 0 (take k bytes)) (omega arith) ∙ ap (digits_value 10) (sym all);
      behind = sym (d.1 ∙ ap length gone);
      small = small_number v at small (omega arith);
      few = omega arith;
    }

pub point_short : (bytes : List ℕ) (at w end v : ℕ) → at ≡ 0 + run (drop 0 bytes) → get_or bytes at 0 ≡ 46 → end ≡ at + 1 + run (drop (at + 1) bytes) → length bytes ≤ end → end ≤ length bytes → 2 ≤ end → length bytes ≤ 18
    → w ≡ digits_value_after 10 0 (take (at - 0) (drop 0 bytes)) → v ≡ digits_value_after 10 w (take (end - (at + 1)) (drop (at + 1) bytes)) → v < 10 ^ end → IsShort bytes v (end - at - 1)
point_short bytes at w end v a here e le within two few front is small =
    let i = point_clear bytes at end a (e ∙ sym (end_by bytes at 46 here)) le (λ z. absurd (omega arith)) in
    let d = digits_at bytes at i in
    let long = length-drop (at + 1) bytes in
    let back : take (end - (at + 1)) (drop (at + 1) bytes) ≡ drop (at + 1) bytes = take_all (end - (at + 1)) (drop (at + 1) bytes) (omega arith) in
    record {
      free = i.free;
      number = is ∙ ap (digits_value_after 10 w) back ∙ ap (λ k. digits_value_after 10 k (drop (at + 1) bytes)) (front ∙ ap (λ k. digits_value_after 10 0 (take k bytes)) (omega arith)) ∙ sym (after_join 0 (take at bytes) (drop (at + 1) bytes)) ∙ ap (digits_value 10) (sym d.0);
      behind = sym (d.1 ∙ long ∙ omega arith);
      small = small_number v end small (omega arith);
      few = omega arith;
    }

abbrev ok : ℤ → Result ℤ DecimalError
ok x = Ok x

abbrev row_by : ℕ → Bool → ℕ → Rounding → List ℕ → Result ℤ DecimalError
row_by k b f r bytes = unless (fault_of k (digits_in bytes)) (rounded (with_sign b (digits_value 10 (digits_in bytes)) *ℤ pos (2 ^ f)) (pos (10 ^ places_in bytes)) r)

row_of_short : (k : ℕ) (b : Bool) (bytes : List ℕ) (v p f : ℕ) (r : Rounding) → IsShort bytes v p → row_by k b f r bytes ≡ ok (with_sign b (stepped r b (v * 2 ^ f) (10 ^ p)))
row_of_short k b bytes v p f r i =
    ap (λ o. unless o (rounded (with_sign b (digits_value 10 (digits_in bytes)) *ℤ pos (2 ^ f)) (pos (10 ^ places_in bytes)) r)) (i.free k)
    ∙ ap (λ n. ok (rounded (with_sign b n *ℤ pos (2 ^ f)) (pos (10 ^ places_in bytes)) r)) (sym i.number)
    ∙ ap (λ k. ok (rounded (with_sign b v *ℤ pos (2 ^ f)) (pos (10 ^ k)) r)) (sym i.behind)
    ∙ ap (λ (x : ℤ). ok (rounded x (pos (10 ^ p)) r)) (signed_times b v (2 ^ f))
    ∙ ap ok (rounded_by_step r b (v * 2 ^ f) (10 ^ p) (one-le-pow p 10 (omega arith)))

pub short_decided : (b : Bool) (text bytes : List ℕ) (v p f t magnitude : ℕ) (r : Rounding)
    → b ≡ starts_with_minus text → bytes ≡ without_leading_sign text → IsShort bytes v p → t ≡ 10 ^ p
    → magnitude ≡ stepped r b (v * 2 ^ f) t → IsReadAs (decimal_row text f r) (Ok (b, magnitude))
short_decided b text bytes v p f t magnitude r eb ebytes i et step =
    let size : magnitude ≡ stepped r b (v * 2 ^ f) (10 ^ p) = step ∙ ap (stepped r b (v * 2 ^ f)) et in
    let row : decimal_row text f r ≡ ok (with_sign b (stepped r b (v * 2 ^ f) (10 ^ p))) =
    ap (λ c. row_by (place_in text) c f r (without_leading_sign text)) (sym eb) ∙ ap (row_by (place_in text) b f r) (sym ebytes) ∙ row_of_short (place_in text) b bytes v p f r i in
    subst (λ (y : Result ℤ DecimalError). IsReadAs y (Ok (b, magnitude))) (sym row) (subst (λ (m : ℕ). Alike (2 ^ 64) (with_sign b (stepped r b (v * 2 ^ f) (10 ^ p))) (with_sign b m)) (sym size) (alike_refl (2 ^ 64) _))
