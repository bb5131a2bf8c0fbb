-- What is held of a number, and what words keep of it.
use Rattle.std.proofs.Common.{◌≡◌, ◌+◌, ◌-◌, ◌*◌, ◌/◌, ◌%◌, ◌^◌, ◌<◌, ◌≤◌, ℕ, zero, suc, Bool, true, false, pos, neg_ℤ, mul-zero, refl, sym, ap, ◌∙◌, inl, inr, arith}
use Rattle.std.proofs.lemmas.Int.{ints}
use Rattle.std.proofs.lemmas.Bool.{cases_lt}
use Rattle.std.proofs.lemmas.Bool.Decides.{nat_tests}
use Rattle.std.proofs.lemmas.Nat.{div-add-mod', mul-le, mul-mod_first}
use Rattle.fixed_word.specs.Format.{with_sign}
use Rattle.fixed_kernel.specs.inside.Alike.{Alike}
use Rattle.fixed_decimal.specs.inside.Reading.{held}

pub held_small : (n : ℕ) → n < 2 ^ 64 → held n ≡ n
held_small n h = grind (arith, nat_tests)

pub held_large : (n : ℕ) → 2 ^ 64 ≤ n → held n ≡ 2 ^ 64 + n % 2 ^ 64
held_large n h = grind (arith, nat_tests)

pub held_below : (n : ℕ) → held n < 2 ^ 65
held_below n = elim (cases_lt n (2 ^ 64)) [
  | inl low ↦ omega (arith, held_small n low)
  | inr high ↦ omega (arith, held_large n high)
]

pub held_parity : (n : ℕ) → n % 2 ≡ held n % 2
held_parity n = elim (cases_lt n (2 ^ 64)) [
  | inl low ↦ omega (arith, held_small n low)
  | inr high ↦ omega (arith, held_large n high)
]

same_rest : (x t m : ℕ) → ((2 ^ 64 + x % 2 ^ 64) * t + m) % 2 ^ 64 ≡ (x * t + m) % 2 ^ 64
same_rest x t m =
    let e = mul-mod_first x t (2 ^ 64) in
    let f = add-mul' (x % 2 ^ 64) t in
    omega arith
  where
    add-mul' : (y t : ℕ) → (2 ^ 64 + y) * t ≡ 2 ^ 64 * t + y * t
    add-mul' y t = omega arith

-- to hold on the way changes nothing
pub held_step : (n t m : ℕ) → held (held n * t + m) ≡ held (n * t + m)
held_step n zero m = ap (λ x. held (x + m)) (mul-zero (held n) ∙ sym (mul-zero n))
held_step n (suc t) m = elim (cases_lt n (2 ^ 64)) [
  | inl low ↦ ap (λ x. held (x * suc t + m)) (held_small n low)
  | inr high ↦
      let e = held_large n high in
      let a = mul-le n 1 n (suc t) (omega arith) (omega arith) in
      let b = mul-le (held n) 1 (held n) (suc t) (omega arith) (omega arith) in
      held_large (held n * suc t + m) (omega arith)
      ∙ ap (λ x. 2 ^ 64 + (x * suc t + m) % 2 ^ 64) e
      ∙ ap (λ x. 2 ^ 64 + x) (same_rest n (suc t) m)
      ∙ sym (held_large (n * suc t + m) (omega arith))
]

pub alike_held : (b : Bool) (n m : ℕ) → Alike (2 ^ 64) (with_sign b (n + m)) (with_sign b (held n + m))
alike_held b n m = elim (cases_lt n (2 ^ 64)) [
  | inl low ↦ rw (held_small n low) (record { bits = (pos 0, omega (arith, ints)); place = inl refl })
  | inr high ↦ past b n m high
]
  where
    past : (b : Bool) (n m : ℕ) → 2 ^ 64 ≤ n → Alike (2 ^ 64) (with_sign b (n + m)) (with_sign b (held n + m))
    past false n m h =
        let e = div-add-mod' n (2 ^ 64) in
        rw (held_large n h) (record { bits = (pos (n / 2 ^ 64 - 1), omega (arith, ints)); place = inr (inl (omega (arith, ints), omega (arith, ints))) })
    past true n m h =
        let e = div-add-mod' n (2 ^ 64) in
        rw (held_large n h) (record { bits = (neg_ℤ (pos (n / 2 ^ 64 - 1)), omega (arith, ints)); place = inr (inr (omega (arith, ints), omega (arith, ints))) })
