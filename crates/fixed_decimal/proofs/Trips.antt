-- Numbers that are written and read back.
use Rattle.std.proofs.Common.{◌≡◌, ◌+◌, ◌-◌, ◌*◌, ◌^◌, ◌<◌, ◌*ℤ◌, ℕ, ℤ, pos, negsuc, neg_ℤ, nat_abs, unsigned_abs, Bool, true, false, sym, ap, ◌∙◌, inl, inr, arith}
use Rattle.std.proofs.Math.Nat.{one-le-pow}
use Rattle.std.proofs.lemmas.Int.{ints}
use Rattle.std.proofs.lemmas.Bool.{cases_lt}
use Rattle.fixed_word.specs.Format.{with_sign}
use Rattle.fixed_word.specs.declared.rounding.Rounding.TheVariants.{Even}
use Rattle.fixed_kernel.specs.Rounded.{nearest, rounded}
use Rattle.fixed_kernel.proofs.Alikes.{abs_signed, signed_times}
use Rattle.fixed_decimal.specs.Text.{IsLeast, ReadsBack}
use Rattle.fixed_decimal.specs.inside.Close.{IsClose}
use Rattle.fixed_decimal.specs.inside.Stepped.{stepped}
use Rattle.fixed_decimal.proofs.Backs.{backs_from_close, close_from, close_from_backs}
use Rattle.fixed_decimal.proofs.Decided.{rounded_by_step}

-- to the nearest both signs round alike
nearest_step : (b : Bool) (m d : ℕ) → 0 < d → stepped Even b m d ≡ nearest m d
nearest_step true m d h = omega (arith, ints, rounded_by_step Even false m d h)
nearest_step false m d h = omega (arith, ints, rounded_by_step Even false m d h)

pub nearest_signed : (b : Bool) (m d : ℕ) → 0 < d → rounded (with_sign b m) (pos d) Even ≡ with_sign b (nearest m d)
nearest_signed b m d h = rounded_by_step Even b m d h ∙ ap (with_sign b) (nearest_step b m d h)

trip : (b : Bool) (m t d : ℕ) → 0 < t → 0 < d → rounded (rounded (with_sign b m *ℤ pos t) (pos d) Even *ℤ pos d) (pos t) Even ≡ with_sign b (nearest (nearest (m * t) d * d) t)
trip b m t d ht hd =
    ap (λ (x : ℤ). rounded (rounded x (pos d) Even *ℤ pos d) (pos t) Even) (signed_times b m t)
    ∙ ap (λ (x : ℤ). rounded (x *ℤ pos d) (pos t) Even) (nearest_signed b (m * t) d hd)
    ∙ ap (λ (x : ℤ). rounded x (pos t) Even) (signed_times b (nearest (m * t) d) d)
    ∙ nearest_signed b (nearest (m * t) d * d) t ht

pub signed_is : (a : ℤ) (m : ℕ) → m ≡ unsigned_abs a → (b : Bool) × (a ≡ with_sign b m)
signed_is (pos n) m e = (false, ap pos (sym e))
signed_is (negsuc n) m e = (true, ap (λ k. neg_ℤ (pos k)) (sym e))

pub reads_from_close : (a : ℤ) (m f p : ℕ) → m ≡ unsigned_abs a → IsClose m (10 ^ p) (2 ^ f) → ReadsBack a f p
reads_from_close a m f p e c =
    let t = one-le-pow p 10 (omega arith) in
    let d = one-le-pow f 2 (omega arith) in
    let s = signed_is a m e in
    ap (λ (x : ℤ). rounded (rounded (x *ℤ pos (10 ^ p)) (pos (2 ^ f)) Even *ℤ pos (2 ^ f)) (pos (10 ^ p)) Even) s.1
    ∙ trip s.0 m (10 ^ p) (2 ^ f) t d ∙ ap (with_sign s.0) (backs_from_close m (10 ^ p) (2 ^ f) t d c) ∙ sym s.1

pub close_from_reads : (a : ℤ) (m f p : ℕ) → m ≡ unsigned_abs a → ReadsBack a f p → IsClose m (10 ^ p) (2 ^ f)
close_from_reads a m f p e r =
    let t = one-le-pow p 10 (omega arith) in
    let d = one-le-pow f 2 (omega arith) in
    let s = signed_is a m e in
    let same : with_sign s.0 (nearest (nearest (m * 10 ^ p) (2 ^ f) * 2 ^ f) (10 ^ p)) ≡ with_sign s.0 m =
    sym (trip s.0 m (10 ^ p) (2 ^ f) t d) ∙ ap (λ (x : ℤ). rounded (rounded (x *ℤ pos (10 ^ p)) (pos (2 ^ f)) Even *ℤ pos (2 ^ f)) (pos (10 ^ p)) Even) (sym s.1) ∙ r ∙ s.1 in
    close_from_backs m (10 ^ p) (2 ^ f) t d (sym (abs_signed s.0 (nearest (nearest (m * 10 ^ p) (2 ^ f) * 2 ^ f) (10 ^ p))) ∙ ap nat_abs same ∙ abs_signed s.0 m)

-- where no fewer digits are close
pub least_close : (a : ℤ) (m f p : ℕ) → m ≡ unsigned_abs a → IsClose m (10 ^ p) (2 ^ f) → (0 < p → IsClose m (10 ^ (p - 1)) (2 ^ f) → ⊥) → IsLeast (ReadsBack a f) p
least_close a m f p e c fewer = record {
  holds = reads_from_close a m f p e c;
  least = λ k r. elim (cases_lt k p) [
    | inl less ↦
        let i : p - 1 - k + k ≡ p - 1 = omega arith in
        absurd (fewer (omega arith) (rw i at (close_from m (2 ^ f) k (p - 1 - k) (one-le-pow f 2 (omega arith)) (close_from_reads a m f k e r))))
    | inr fine ↦ fine
  ];
}
