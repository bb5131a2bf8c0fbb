-- Quotients of 2 ^ 128, which 128 bits do not hold.
use Rattle.std.proofs.Common.{◌≡◌, ◌+◌, ◌-◌, ◌/◌, ◌%◌, ◌^◌, ◌<◌, ◌≤◌, ℕ, Bool, true, false, pos, neg_ℤ, ap, sym, ◌∙◌, arith, inl, inr}
use Rattle.std.proofs.lemmas.Int.{ints}
use Rattle.std.proofs.lemmas.Bool.{cases_lt}
use Rattle.std.proofs.Math.Nat.{add-div_right, add-mod_right}
use Rattle.fixed_word.specs.Format.{with_sign}
use Rattle.fixed_kernel.specs.inside.Alike.{Alike}
use Rattle.fixed_kernel.proofs.Alikes.{alike_same}
use Rattle.fixed_word.specs.declared.rounding.Rounding.{Rounding}
use Rattle.fixed_word.specs.declared.rounding.Rounding.TheVariants.{Down, Zero, Even}
use Rattle.fixed_kernel.specs.Rounded.{rounded}
use Rattle.fixed_kernel.specs.inside.Steps.{rounding_step}
use Rattle.fixed_kernel.proofs.Stepped.{rounded_signed, stepped}

-- the divisor is taken off, and the quotient raised by one
pub one_more : (m d : ℕ) → 0 < d → d ≤ m → ((m - 1 - (d - 1)) / d + 1 ≡ m / d) × ((m - 1 - (d - 1)) % d ≡ m % d)
one_more m d h l =
    let e : m - 1 - (d - 1) + d ≡ m = omega arith in
    let q = sym (add-div_right (m - 1 - (d - 1)) {k = d} h) in
    let r = sym (add-mod_right (m - 1 - (d - 1)) d) in
    (q ∙ ap (λ (x : ℕ). x / d) e, r ∙ ap (λ (x : ℕ). x % d) e)

far_alike : (b : Bool) → Alike (2 ^ 64) (with_sign b (2 ^ 128)) (with_sign b (2 ^ 127))
far_alike false = record { bits = (pos (2 ^ 63), omega (arith, ints)); place = inr (inl (omega (arith, ints), omega (arith, ints))) }
far_alike true = record { bits = (neg_ℤ (pos (2 ^ 63)), omega (arith, ints)); place = inr (inr (omega (arith, ints), omega (arith, ints))) }

whole_signed : (k : Rounding) (b : Bool) (m : ℕ) → 0 < m → rounded (pos (2 ^ 128)) (with_sign b m) k ≡ with_sign b (stepped k b (2 ^ 128) m)
whole_signed k false m h = rounded_signed k false false (2 ^ 128) m h
whole_signed k true m h = rounded_signed k false true (2 ^ 128) m h

by_one : (k : Rounding) (b : Bool) → Alike (2 ^ 64) (with_sign b (stepped k b (2 ^ 128) 1)) (with_sign b (2 ^ 127 + rounding_step k b (2 ^ 127) 0 1))
by_one Down false = far_alike false
by_one Down true = far_alike true
by_one Zero b = far_alike b
by_one Even b = far_alike b

-- 2 ^ 128 over m, where q and r say it but for m = 1
pub rounded_alike : (k : Rounding) (b : Bool) (m q r : ℕ) → 0 < m → (m ≡ 1 → (q ≡ 2 ^ 127) × (r ≡ 0)) → (1 < m → (q ≡ 2 ^ 128 / m) × (r ≡ 2 ^ 128 % m)) → Alike (2 ^ 64) (rounded (pos (2 ^ 128)) (with_sign b m) k) (with_sign b (q + rounding_step k b q r m))
rounded_alike k b m q r h one more = elim (cases_lt 1 m) [
  | inl large ↦
      let p = more large in
      let eq = p.0 in
      let er = p.1 in
      rw (eq, er) (alike_same (2 ^ 64) (rounded (pos (2 ^ 128)) (with_sign b m) k) (with_sign b (stepped k b (2 ^ 128) m)) (sym (whole_signed k b m h)))
  | inr small ↦
      let e : m ≡ 1 = omega arith in
      let p = one e in
      let eq = p.0 in
      let er = p.1 in
      rw (e, eq, er) (rw (whole_signed k b 1 (omega arith)) (by_one k b))
]
