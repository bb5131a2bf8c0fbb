-- An outcome that stands for a number stands for each that is alike.
use Rattle.std.proofs.Common.{◌≡◌, ◌≢◌, ◌⊎◌, ◌+◌, ◌-◌, ◌*◌, ◌/◌, ◌%◌, ◌^◌, ◌<◌, ◌≤◌, ◌≤ℤ◌, ◌<ℤ◌, ◌+ℤ◌, ◌*ℤ◌, ℕ, ℤ, zero, suc, Bool, true, false, pos, neg_ℤ, nat_abs, refl, ap, sym, ◌∙◌, arith, inl, inr}
use Rattle.std.proofs.lemmas.Int.{ints}
use Rattle.std.proofs.lemmas.Nat.{div-add-mod', mul-le, mul-mod_first, one_shl, shl_below, pow-add}
use Rattle.fixed_word.specs.declared.outcome.Outcome.{Outcome}
use Rattle.fixed_word.specs.Format.{IsWidth, lowest, highest, with_sign}
use Rattle.fixed_word.specs.Standing.{StandsFor, side_of}
use Rattle.fixed_word.proofs.Wraps.{width_pos, narrower, neg-times, wrap_alike}
use Rattle.fixed_word.proofs.Sides.{side_above, side_below}
use Rattle.fixed_kernel.specs.inside.Alike.{Alike}

pub width_at_most : (n : ℕ) → IsWidth n → n ≤ 64
width_at_most n w = grind arith

-- no word reaches 2 ^ 64
range_small : (s : Bool) (n : ℕ) → IsWidth n → (highest s n <ℤ pos (2 ^ 64)) × (neg_ℤ (pos (2 ^ 64)) <ℤ lowest s n)
range_small true n (inl e) = rw e (omega (arith, ints), omega (arith, ints))
range_small true n (inr (inl e)) = rw e (omega (arith, ints), omega (arith, ints))
range_small true n (inr (inr (inl e))) = rw e (omega (arith, ints), omega (arith, ints))
range_small true n (inr (inr (inr e))) = rw e (omega (arith, ints), omega (arith, ints))
range_small false n (inl e) = rw e (omega (arith, ints), omega (arith, ints))
range_small false n (inr (inl e)) = rw e (omega (arith, ints), omega (arith, ints))
range_small false n (inr (inr (inl e))) = rw e (omega (arith, ints), omega (arith, ints))
range_small false n (inr (inr (inr e))) = rw e (omega (arith, ints), omega (arith, ints))

side_alike : (s : Bool) (n : ℕ) (x y : ℤ) → IsWidth n → (x ≡ y) ⊎ (((pos (2 ^ 64) ≤ℤ x) × (pos (2 ^ 64) ≤ℤ y)) ⊎ ((x ≤ℤ neg_ℤ (pos (2 ^ 64))) × (y ≤ℤ neg_ℤ (pos (2 ^ 64))))) → side_of s n x ≡ side_of s n y
side_alike s n x y w (inl e) = ap (side_of s n) e
side_alike s n x y w (inr (inl p)) =
    let r = range_small s n w in
    let a = r.0 in
    let b = p.0 in
    let c = p.1 in
    side_above s n x (omega (arith, ints)) ∙ sym (side_above s n y (omega (arith, ints)))
side_alike s n x y w (inr (inr p)) =
    let r = range_small s n w in
    let a = r.1 in
    let b = p.0 in
    let c = p.1 in
    side_below s n x (omega (arith, ints)) ∙ sym (side_below s n y (omega (arith, ints)))

pub stands_alike : {T : Type 0} (value : T → ℤ) (s : Bool) (n : ℕ) (x y : ℤ) (o : Outcome T) → IsWidth n → Alike (2 ^ 64) x y → StandsFor value s n y o → StandsFor value s n x o
stands_alike value s n x y o w a h = record {
  wrapped = h.wrapped ∙ sym (wrap_alike s n x y (width_pos n w) (narrower n 64 x y (width_at_most n w) a.bits));
  side = h.side ∙ sym (side_alike s n x y w a.place);
}

pub alike_refl : (b : ℕ) (x : ℤ) → Alike b x x
alike_refl b x = record { bits = (pos 0, omega (arith, ints)); place = inl refl }

-- adding a number of at most 64 bits
pub alike_plus : (x y c : ℤ) → Alike (2 ^ 127) x y → nat_abs c < 2 ^ 64 → Alike (2 ^ 64) (x +ℤ c) (y +ℤ c)
alike_plus x y c a h = record {
  bits = (a.bits.0, let e = a.bits.1 in omega (arith, ints));
  place = elim a.place [
    | inl e ↦ inl (ap (λ (z : ℤ). z +ℤ c) e)
    | inr p ↦ elim p [
      | inl q ↦ let d = q.0 in let e = q.1 in inr (inl (omega (arith, ints), omega (arith, ints)))
      | inr q ↦ let d = q.0 in let e = q.1 in inr (inr (omega (arith, ints), omega (arith, ints)))
    ]
  ];
}

pub alike_same : (b : ℕ) (x y : ℤ) → y ≡ x → Alike b x y
alike_same b x y e = record { bits = (pos 0, omega (arith, ints)); place = inl (sym e) }

pub signed_times : (b : Bool) (m k : ℕ) → with_sign b m *ℤ pos k ≡ with_sign b (m * k)
signed_times false m k = refl
signed_times true m k = neg-times m k

-- a product past 127 bits may be folded
fold_alike : (b : Bool) (p : ℕ) → 2 ^ 127 ≤ p → Alike (2 ^ 127) (with_sign b p) (with_sign b (2 ^ 127 + p % 2 ^ 64))
fold_alike false p h =
    let e = div-add-mod' p (2 ^ 64) in
    record { bits = (pos (p / 2 ^ 64 - 2 ^ 63), omega (arith, ints)); place = inr (inl (omega (arith, ints), omega (arith, ints))) }
fold_alike true p h =
    let e = div-add-mod' p (2 ^ 64) in
    record { bits = (neg_ℤ (pos (p / 2 ^ 64 - 2 ^ 63)), omega (arith, ints)); place = inr (inr (omega (arith, ints), omega (arith, ints))) }

-- whether a product stays below 2 ^ 127, by the test of its factor
room_bound : (k : ℕ) → k ≤ 64 → (1 * 2 ^ (127 - k)) % 2 ^ 128 ≡ 2 ^ (127 - k)
room_bound k h = one_shl (127 - k) 128 (omega arith)

pub room_below : (m k : ℕ) → k ≤ 64 → m < (1 * 2 ^ (127 - k)) % 2 ^ 128 → m * 2 ^ k < 2 ^ 127
room_below m k h l =
    let e : 127 - k + k ≡ 127 = omega arith in
    let b : m < 2 ^ (127 - k) = omega (arith, room_bound k h) in
    rw e at (shl_below m (127 - k) k b)

pub room_past : (m k : ℕ) → k ≤ 64 → (1 * 2 ^ (127 - k)) % 2 ^ 128 ≤ m → 2 ^ 127 ≤ m * 2 ^ k
room_past m k h l =
    let e : 127 - k + k ≡ 127 = omega arith in
    let b : 2 ^ (127 - k) ≤ m = omega (arith, room_bound k h) in
    let p = mul-le (2 ^ (127 - k)) (2 ^ k) m (2 ^ k) b (omega arith) in
    let q : 2 ^ (127 - k) * 2 ^ k ≡ 2 ^ 127 = sym (pow-add 2 (127 - k) k) ∙ ap (λ (n : ℕ). 2 ^ n) e in
    omega arith

pub low_bits_of : (m k : ℕ) → (m % 2 ^ 64 * 2 ^ k) % 2 ^ 128 % 2 ^ 64 ≡ (m * 2 ^ k) % 2 ^ 64
low_bits_of m k = mod-mod_pow (m % 2 ^ 64 * 2 ^ k) ∙ mul-mod_first m (2 ^ k) (2 ^ 64)
  where
    mod-mod_pow : (x : ℕ) → x % 2 ^ 128 % 2 ^ 64 ≡ x % 2 ^ 64
    mod-mod_pow x = omega arith

pub fold_is : (b : Bool) (m k : ℕ) → 2 ^ 127 ≤ m * 2 ^ k
    → Alike (2 ^ 127) (with_sign b m *ℤ pos (2 ^ k)) (with_sign b (2 ^ 127 + (m % 2 ^ 64 * 2 ^ k) % 2 ^ 128 % 2 ^ 64))
fold_is b m k h = rw (signed_times b m (2 ^ k), low_bits_of m k) (fold_alike b (m * 2 ^ k) h)

pub abs_signed : (b : Bool) (m : ℕ) → nat_abs (with_sign b m) ≡ m
abs_signed false m = refl
abs_signed true m = omega (arith, ints)

pub size_pos : (b : Bool) (m : ℕ) (x : ℤ) → with_sign b m ≡ x → x ≢ pos 0 → 0 < m
size_pos false zero x e n = absurd (n (sym e))
size_pos true zero x e n = absurd (n (sym e))
size_pos b (suc m) x e n = omega arith
