-- Numbers that fit.
use Rattle.std.proofs.Common.{◌≡◌, ◌^◌, ◌<◌, ◌≤ℤ◌, ◌<ℤ◌, ℕ, ℤ, Bool, true, false, IsTrue, pos, neg_ℤ, unsigned_abs, inl, inr, arith, refl}
use Rattle.std.proofs.lemmas.Int.{ints}
use Rattle.fixed_word.specs.Format.{IsWidth, fits, InRange, lowest, highest, wrap, clamp, with_sign}
use Rattle.fixed_word.proofs.Wraps.{wrap_in_range, width_pos}
use Rattle.fixed_word.proofs.Sides.{lowest_sign, highest_sign}
use Rattle.fixed_text.specs.declared.names.WordName.{WordName}
use Rattle.fixed_text.specs.declared.names.WordName.TheVariants.{I8, I16, I32, I64, U8, U16, U32, U64}
use Rattle.fixed_text.specs.Words.{is_signed, width}
use Rattle.fixed_machine.specs.inside.Stepping.{is_value}

pub in_range : (s : Bool) (n : ℕ) (x : ℤ) → IsTrue (fits s n x) → InRange s n x
in_range s n x h = grind (arith, ints)

pub fit_true : (s : Bool) (n : ℕ) (x : ℤ) → InRange s n x → fits s n x ≡ true
fit_true s n x r =
    let l = r.0 in
    let h = r.1 in
    grind (arith, ints)

pub is_width : (w : WordName) → IsWidth (width w)
is_width I8 = inl refl
is_width I16 = inr (inl refl)
is_width I32 = inr (inr (inl refl))
is_width I64 = inr (inr (inr refl))
is_width U8 = inl refl
is_width U16 = inr (inl refl)
is_width U32 = inr (inr (inl refl))
is_width U64 = inr (inr (inr refl))

-- no word reaches 2 ^ 64
range_small : (w : WordName) → (highest (is_signed w) (width w) <ℤ pos (2 ^ 64)) × (neg_ℤ (pos (2 ^ 64)) <ℤ lowest (is_signed w) (width w))
range_small I8 = (omega (arith, ints), omega (arith, ints))
range_small I16 = (omega (arith, ints), omega (arith, ints))
range_small I32 = (omega (arith, ints), omega (arith, ints))
range_small I64 = (omega (arith, ints), omega (arith, ints))
range_small U8 = (omega (arith, ints), omega (arith, ints))
range_small U16 = (omega (arith, ints), omega (arith, ints))
range_small U32 = (omega (arith, ints), omega (arith, ints))
range_small U64 = (omega (arith, ints), omega (arith, ints))

-- a value of a word has a magnitude of 64 bits
pub value_small : (w : WordName) (x : ℤ) → is_value w x ≡ true → unsigned_abs x < 2 ^ 64
value_small w x h =
    let r = in_range (is_signed w) (width w) x h in
    let s = range_small w in
    let a = r.0 in
    let b = r.1 in
    let c = s.0 in
    let d = s.1 in
    omega (arith, ints)

pub size_of_signed : (b : Bool) (m : ℕ) → unsigned_abs (with_sign b m) ≡ m
size_of_signed false m = refl
size_of_signed true m = omega (arith, ints)

pub wrap_fits : (w : WordName) (x : ℤ) → is_value w (wrap (is_signed w) (width w) x) ≡ true
wrap_fits w x = fit_true (is_signed w) (width w) (wrap (is_signed w) (width w) x) (wrap_in_range (is_signed w) (width w) x (width_pos (width w) (is_width w)))

pub clamp_fits : (w : WordName) (x : ℤ) → is_value w (clamp (is_signed w) (width w) x) ≡ true
clamp_fits w x =
    let l = lowest_sign (is_signed w) (width w) in
    let h = highest_sign (is_signed w) (width w) in
    fit_true (is_signed w) (width w) (clamp (is_signed w) (width w) x) (clamp_in (is_signed w) (width w) x l h)
  where
    clamp_in : (s : Bool) (n : ℕ) (y : ℤ) → lowest s n ≤ℤ pos 0 → pos 0 ≤ℤ highest s n → InRange s n (clamp s n y)
    clamp_in s n y l h = grind (arith, ints)
