-- The laws of texts.
use Rattle.std.proofs.Common.{◌≡◌, ◌+◌, ◌-◌, ◌*◌, ◌/◌, ◌%◌, ◌^◌, ◌<◌, ◌≤◌, ◌*ℤ◌, ℕ, ℤ, zero, suc, pos, nat_abs, Bool, true, false, List, Option, Some, None, Result, Ok, refl, sym, ap, ◌∙◌, add-zero, inl, inr, arith, ◌-ℤ◌, ◌+ℤ◌}
use Rattle.std.specs.Result.{result_unwrap_or}
use Rattle.std.specs.Str.Parse.{digits_value, starts_with_minus, without_leading_sign}
use Rattle.std.proofs.Math.Nat.{one-le-pow}
use Rattle.std.proofs.lemmas.Bool.{cases_lt}
use Rattle.std.proofs.lemmas.Bool.Decides.{nat_tests}
use Rattle.std.proofs.lemmas.Nat.{div-add-mod', div-mul-add, mod-mul-add, mod_below, mul-le}
use Rattle.fixed_word.specs.Format.{with_sign}
use Rattle.fixed_word.specs.declared.rounding.Rounding.{Rounding}
use Rattle.fixed_word.specs.declared.rounding.Rounding.TheVariants.{Down, Zero, Even}
use Rattle.fixed_kernel.specs.Rounded.{nearest, rounded}
use Rattle.fixed_kernel.specs.inside.Steps.{rounding_step}
use Rattle.fixed_kernel.proofs.Alikes.{abs_signed, signed_times}
use Rattle.std.proofs.lemmas.Int.{ints}
use Rattle.fixed_word.proofs.Nearest.{cases_int}
use Rattle.fixed_word.proofs.QuotientLaws.{times_le}
use Rattle.fixed_word.proofs.Wraps.{suc_times}
use Rattle.fixed_kernel.specs.Rounded.{IsNearestEven}
use Rattle.fixed_kernel.proofs.RoundedLaws.{rounded_is}
use Rattle.fixed_kernel.proofs.ToNearest.{IsNear, nearest_is}
use Rattle.fixed_decimal.specs.declared.error.DecimalError.{DecimalError}
use Rattle.fixed_decimal.specs.Decimal.{decimal_row, digits_in, fault_in, places_in, unless}
use Rattle.fixed_decimal.specs.Text.{IsExactAt, ReadsBack, text_of, to_places}
use Rattle.fixed_decimal.specs.inside.Close.{IsClose, off}
use Rattle.fixed_decimal.specs.inside.Stepped.{stepped}
use Rattle.fixed_decimal.proofs.Backs.{close_cases}
use Rattle.fixed_decimal.proofs.Decided.{rounded_by_step}
use Rattle.fixed_decimal.proofs.Texts.{ok, row_at, row_of_text}
use Rattle.fixed_decimal.proofs.Trips.{nearest_signed, reads_from_close}

-- ---- quotients without a remainder
no_step : (k : Rounding) (b : Bool) (q r d : ℕ) → 0 < d → r ≡ 0 → rounding_step k b q r d ≡ 0
no_step Down true q zero d h e = refl
no_step Down true q (suc r) d h e = absurd (omega arith)
no_step Down false q r d h e = refl
no_step Zero b q r d h e = refl
no_step Even b q r d h e = grind (arith, nat_tests)

pub stepped_exact : (k : Rounding) (b : Bool) (n d : ℕ) → 0 < d → n % d ≡ 0 → stepped k b n d ≡ n / d
stepped_exact k b n d h e = omega (arith, no_step k b (n / d) (n % d) d h e)

stepped_multiple : (k : Rounding) (b : Bool) (m d : ℕ) → 0 < d → stepped k b (m * d) d ≡ m
stepped_multiple k b m d h =
    let z = add-zero (m * d) in
    stepped_exact k b (m * d) d h (ap (λ n. n % d) (sym z) ∙ mod-mul-add m d 0 h) ∙ ap (λ n. n / d) (sym z) ∙ div-mul-add m d 0 h

pub exact_law : (a : ℤ) (f p : ℕ) (r s : Rounding) → IsExactAt a f p → decimal_row (text_of a f p r) f s ≡ Ok a
exact_law a f p r s exact =
    let g = row_of_text a f p r s in
    let b = g.0 in
    let m = g.1 in
    let t = one-le-pow p 10 (omega arith) in
    let d = one-le-pow f 2 (omega arith) in
    let size : nat_abs a ≡ m = ap nat_abs g.2 ∙ abs_signed b m in
    let left : (m * 10 ^ p) % 2 ^ f ≡ 0 = ap (λ n. (n * 10 ^ p) % 2 ^ f) (sym size) ∙ exact in
    let whole : m * 10 ^ p / 2 ^ f * 2 ^ f ≡ m * 10 ^ p = omega (arith, div-add-mod' (m * 10 ^ p) (2 ^ f), left) in
    g.3
    ∙ ap (λ n. ok (row_at b n p f s)) (stepped_exact r b (m * 10 ^ p) (2 ^ f) d left)
    ∙ ap (λ (x : ℤ). ok (rounded x (pos (10 ^ p)) s)) (signed_times b (m * 10 ^ p / 2 ^ f) (2 ^ f) ∙ ap (with_sign b) whole)
    ∙ ap ok (rounded_by_step s b (m * 10 ^ p) (10 ^ p) t ∙ ap (with_sign b) (stepped_multiple s b m (10 ^ p) t) ∙ sym g.2)

pub shortest_law : (a : ℤ) (f p : ℕ) → ReadsBack a f p → decimal_row (text_of a f p Even) f Even ≡ Ok a
shortest_law a f p back =
    let g = row_of_text a f p Even Even in
    let b = g.0 in
    let m = g.1 in
    let d = one-le-pow f 2 (omega arith) in
    g.3
    ∙ ap (λ (x : ℤ). ok (rounded (x *ℤ pos (2 ^ f)) (pos (10 ^ p)) Even)) (sym (rounded_by_step Even b (m * 10 ^ p) (2 ^ f) d) ∙ ap (λ (x : ℤ). rounded x (pos (2 ^ f)) Even) (sym (signed_times b m (10 ^ p)) ∙ ap (λ (x : ℤ). x *ℤ pos (10 ^ p)) (sym g.2)))
    ∙ ap ok back

-- ---- whatever text is read
off_below : (m t d n : ℕ) → 0 < d → n * d ≤ m * t → off m t d ≤ m * t - n * d
off_below m t d n h le =
    let s = div-add-mod' (m * t) d in
    let b = mod_below (m * t) d h in
    let q = m * t / d in
    elim (cases_lt q n) [
      | inl more ↦
          let u = mul-le (q + 1) d n d (omega arith) (omega arith) in
          let v : (q + 1) * d ≡ q * d + d = omega arith in
          absurd (omega arith)
      | inr fine ↦ let u = mul-le n d q d fine (omega arith) in omega arith
    ]

off_above : (m t d n : ℕ) → 0 < d → m * t ≤ n * d → off m t d ≤ n * d - m * t
off_above m t d n h le =
    let s = div-add-mod' (m * t) d in
    let b = mod_below (m * t) d h in
    let q = m * t / d in
    elim (cases_lt q n) [
      | inl more ↦
          let u = mul-le (q + 1) d n d (omega arith) (omega arith) in
          let v : (q + 1) * d ≡ q * d + d = omega arith in
          omega arith
      | inr fine ↦ let u = mul-le n d q d fine (omega arith) in omega arith
    ]

close_to_read : (n m t d : ℕ) → 0 < t → 0 < d → nearest (n * d) t ≡ m → IsClose m t d
close_to_read n m t d ht hd e =
    let near : IsNear (n * d) t m = rw e at (nearest_is (n * d) t ht) in
    let b = near.below in
    let c = near.above in
    elim (cases_lt (n * d) (m * t)) [
      | inl less ↦
          let o = off_below m t d n hd (omega arith) in
          close_cases (off m t d) t m (omega arith) (λ h. near.tie_above (omega arith))
      | inr more ↦
          let o = off_above m t d n hd more in
          close_cases (off m t d) t m (omega arith) (λ h. near.tie_below (omega arith))
    ]

pub unless_ok : (o : Option DecimalError) (x a : ℤ) → unless o x ≡ ok a → x ≡ a
unless_ok None x a e = ap (λ (r : Result ℤ DecimalError). result_unwrap_or r x) e
unless_ok (Some f) x a e = cc

pub read_law : (a : ℤ) (f : ℕ) (text : List ℕ) → decimal_row text f Even ≡ Ok a → ReadsBack a f (places_in (without_leading_sign text))
read_law a f text e =
    let bytes = without_leading_sign text in
    let c = starts_with_minus text in
    let n = digits_value 10 (digits_in bytes) in
    let p = places_in bytes in
    let t = one-le-pow p 10 (omega arith) in
    let d = one-le-pow f 2 (omega arith) in
    let is : rounded (with_sign c n *ℤ pos (2 ^ f)) (pos (10 ^ p)) Even ≡ a = unless_ok (fault_in text) (rounded (with_sign c n *ℤ pos (2 ^ f)) (pos (10 ^ p)) Even) a e in
    let signed : with_sign c (nearest (n * 2 ^ f) (10 ^ p)) ≡ a = sym (ap (λ (x : ℤ). rounded x (pos (10 ^ p)) Even) (signed_times c n (2 ^ f)) ∙ nearest_signed c (n * 2 ^ f) (10 ^ p) t) ∙ is in
    let size : nearest (n * 2 ^ f) (10 ^ p) ≡ nat_abs a = sym (abs_signed c (nearest (n * 2 ^ f) (10 ^ p))) ∙ ap nat_abs signed in
    reads_from_close a (nat_abs a) f p refl (close_to_read n (nat_abs a) (10 ^ p) (2 ^ f) t d size)

-- ---- nothing is nearer
nearer : (x q n : ℤ) (d : ℕ) → IsNearestEven x (pos d) q → nat_abs (x -ℤ q *ℤ pos d) ≤ nat_abs (x -ℤ n *ℤ pos d)
nearer x q n d i =
    let near = i.near in
    elim (cases_int n q) [
      | inl less ↦ let s = suc_times n d in let t = times_le (n +ℤ pos 1) q d (omega (arith, ints)) in omega (arith, ints)
      | inr more ↦ elim (cases_int q n) [
        | inl less ↦ let s = suc_times q d in let t = times_le (q +ℤ pos 1) n d (omega (arith, ints)) in omega (arith, ints)
        | inr same ↦ let e : n ≡ q = omega (arith, ints) in rw e (omega arith)
      ]
    ]

pub nearest_law : (a n : ℤ) (f p : ℕ) → nat_abs (a *ℤ pos (10 ^ p) -ℤ to_places a f p Even *ℤ pos (2 ^ f)) ≤ nat_abs (a *ℤ pos (10 ^ p) -ℤ n *ℤ pos (2 ^ f))
nearest_law a n f p =
    let d = one-le-pow f 2 (omega arith) in
    nearer (a *ℤ pos (10 ^ p)) (to_places a f p Even) n (2 ^ f) (rounded_is (a *ℤ pos (10 ^ p)) (pos (2 ^ f)) Even (λ e. omega (arith, ints)))
