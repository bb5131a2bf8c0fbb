-- A number with its low bits dropped toward zero.
use Rattle.std.proofs.Common.{◌≡◌, ◌*◌, ◌/◌, ◌%◌, ◌^◌, ◌<◌, ◌≤◌, ◌*ℤ◌, ◌<ℤ◌, ℕ, ℤ, zero, suc, Bool, true, false, pos, negsuc, neg_ℤ, nat_abs, refl, ap, sym, ◌∙◌, arith}
use Rattle.std.specs.Prelude.{◌↔◌, IsTrue}
use Rattle.std.proofs.lemmas.Int.{ints}
use Rattle.std.proofs.lemmas.Nat.{pow_pos, div-add-mod'}
use Rattle.std.proofs.Math.IntN.{*ℤ_comm}
use Rattle.std.proofs.Math.Nat.{mul_comm, mod-eq_of_lt, pow-le-pow_right}
use Rattle.fixed_word.specs.Format.{IsWidth, InRange, wrap, with_sign}
use Rattle.fixed_word.specs.Quotient.{truncated_quotient}
use Rattle.fixed_word.proofs.Wraps.{magnitude_fits, neg-times, wrap_in_range, width_pos, wrap_same}

-- toward zero the number stays in range
smaller_fits : (s : Bool) (n : ℕ) (b : Bool) (m k : ℕ) → InRange s n (with_sign b m) → k ≤ m → InRange s n (with_sign b k)
smaller_fits true n true m k r h = let l = r.0 in let u = r.1 in (omega (arith, ints), omega (arith, ints))
smaller_fits true n false m k r h = let l = r.0 in let u = r.1 in (omega (arith, ints), omega (arith, ints))
smaller_fits false n true m k r h = let l = r.0 in let u = r.1 in (omega (arith, ints), omega (arith, ints))
smaller_fits false n false m k r h = let l = r.0 in let u = r.1 in (omega (arith, ints), omega (arith, ints))

-- the row, by sign and magnitude
row_signed : (b : Bool) (m p : ℕ) → 0 < p → with_sign b (m / p * p) ≡ pos p *ℤ truncated_quotient (with_sign b m) (pos p)
row_signed false m p h = ap (λ (x : ℕ). pos x) (mul_comm (m / p) p)
row_signed true zero p h = grind (arith, ints)
row_signed true (suc m) p h = sym (*ℤ_comm (pos p) (neg_ℤ (pos (suc m / p))) ∙ neg-times (suc m / p) p)

pub dropped : (s : Bool) (n f : ℕ) (b : Bool) (m : ℕ) (v r : ℤ) → IsWidth n → f ≤ n → InRange s n v → (IsTrue b ↔ (v <ℤ pos 0)) → m ≡ nat_abs v
    → r ≡ wrap s n (with_sign b ((m / 2 ^ f * 2 ^ f) % 2 ^ 128)) → r ≡ pos (2 ^ f) *ℤ truncated_quotient v (pos (2 ^ f))
dropped s n f b m v r w h i g e t =
    let d = sign_is b m v g e in
    let below : m / 2 ^ f * 2 ^ f ≤ m = omega (arith, div-add-mod' m (2 ^ f)) in
    let small : m < 2 ^ 64 = magnitude_64 s n m v w i e in
    let same : (m / 2 ^ f * 2 ^ f) % 2 ^ 128 ≡ m / 2 ^ f * 2 ^ f = mod-eq_of_lt (omega arith) in
    let fits : InRange s n (with_sign b (m / 2 ^ f * 2 ^ f)) = smaller_fits s n b m (m / 2 ^ f * 2 ^ f) (rw d at i) below in
    t ∙ ap (λ (x : ℕ). wrap s n (with_sign b x)) same ∙ wrap_same s n (with_sign b (m / 2 ^ f * 2 ^ f)) (width_pos n w) fits
    ∙ row_signed b m (2 ^ f) (pow_pos f) ∙ ap (λ (x : ℤ). pos (2 ^ f) *ℤ truncated_quotient x (pos (2 ^ f))) (sym d)
  where
    sign_is : (b : Bool) (m : ℕ) (v : ℤ) → (IsTrue b ↔ (v <ℤ pos 0)) → m ≡ nat_abs v → v ≡ with_sign b m
    sign_is false m (pos a) s e = omega (arith, ints)
    sign_is false m (negsuc a) s e = let t = s.1 (omega (arith, ints)) in cc
    sign_is true m v s e = let h = s.0 refl in omega (arith, ints)

    magnitude_64 : (s : Bool) (n m : ℕ) (v : ℤ) → IsWidth n → InRange s n v → m ≡ nat_abs v → m < 2 ^ 64
    magnitude_64 s n m v w r e =
        let f = magnitude_fits s n v (width_pos n w) r in
        let i = wrap_in_range false n (pos (nat_abs v)) (width_pos n w) in
        let u = i.1 in
        let p = pow_pos n in
        let w64 : n ≤ 64 = grind arith in
        let b : 2 ^ n ≤ 2 ^ 64 = pow-le-pow_right {n = 2} (omega arith) w64 in
        omega (arith, ints)
