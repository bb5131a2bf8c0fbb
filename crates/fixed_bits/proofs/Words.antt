-- The lists of the numbers of words.
use Rattle.std.proofs.Common.{◌≡◌, ◌-◌, ◌*◌, ◌/◌, ◌^◌, ◌<◌, ◌≤◌, ◌*ℤ◌, ◌<ℤ◌, ℕ, ℤ, zero, suc, Bool, true, false, pos, negsuc, nat_abs, refl, ap, sym, ◌∙◌, arith}
use Rattle.std.specs.Prelude.{◌↔◌, IsTrue}
use Rattle.std.proofs.lemmas.Int.{ints}
use Rattle.std.proofs.lemmas.Nat.{pow_pos}
use Rattle.std.proofs.Math.Nat.{div-le_self, pow-le-pow_right}
use Rattle.fixed_word.specs.Format.{IsWidth, InRange, modulo, wrap, with_sign}
use Rattle.fixed_word.specs.Quotient.{floor_quotient}
use Rattle.fixed_word.proofs.Wraps.{double, less_moved, modulo_below, width_pos, wrap-wrap, wrap_same, wrap_unsigned}
use Rattle.fixed_bits.specs.Digits.{bit_list, byte_list, lowest_digits}
use Rattle.fixed_bits.proofs.Lists.{byte_base, lowest_mod, same_number}

-- what is left in a word has the same remainder
pub modulo_wrap : (s : Bool) (n : ℕ) (x : ℤ) → 0 < n → modulo (wrap s n x) (2 ^ n) ≡ modulo x (2 ^ n)
modulo_wrap s n x h =
    let a = wrap_unsigned n (wrap s n x) h in
    let b = wrap_unsigned n x h in
    let c = wrap-wrap false s n x h in
    omega (arith, ints)

-- numbers that fit and have the same remainder are equal
pub same_from_modulo : (s : Bool) (n : ℕ) (x y : ℤ) → 0 < n → InRange s n x → InRange s n y → modulo x (2 ^ n) ≡ modulo y (2 ^ n) → x ≡ y
same_from_modulo s n x y h f g e =
    let a : wrap false n x ≡ wrap false n y = wrap_unsigned n x h ∙ ap (λ (m : ℕ). pos m) e ∙ sym (wrap_unsigned n y h) in
    sym (wrap_same s n x h f) ∙ sym (wrap-wrap s false n x h) ∙ ap (wrap s n) a ∙ wrap-wrap s false n y h ∙ wrap_same s n y h g

pub same_from_bits : (s : Bool) (n : ℕ) (x y : ℤ) → IsWidth n → InRange s n x → InRange s n y → bit_list n x ≡ bit_list n y → x ≡ y
unfolding bit_list
same_from_bits s n x y w f g e =
    same_from_modulo s n x y (width_pos n w) f g
    (same_number 2 n (modulo x (2 ^ n)) (modulo y (2 ^ n)) (omega arith) (modulo_below x (2 ^ n) (pow_pos n)) (modulo_below y (2 ^ n) (pow_pos n)) e)

pub same_from_bytes : (s : Bool) (n : ℕ) (x y : ℤ) → IsWidth n → InRange s n x → InRange s n y → byte_list n x ≡ byte_list n y → x ≡ y
unfolding byte_list
same_from_bytes s n x y w f g e =
    same_from_modulo s n x y (width_pos n w) f g
    (same_number 256 (n / 8) (modulo x (2 ^ n)) (modulo y (2 ^ n)) (omega arith) (rw (byte_base n w) (modulo_below x (2 ^ n) (pow_pos n))) (rw (byte_base n w) (modulo_below y (2 ^ n) (pow_pos n))) e)

-- ---- a word's pattern

pub pattern_is : (n r : ℕ) (v u : ℤ) → IsWidth n → u ≡ wrap false n v → r ≡ nat_abs u → r ≡ modulo v (2 ^ n)
pattern_is n r v u w h e = e ∙ ap nat_abs (h ∙ wrap_unsigned n v (width_pos n w))

pub pattern_list : (n r : ℕ) (v u : ℤ) → IsWidth n → u ≡ wrap false n v → r ≡ nat_abs u → bit_list n v ≡ lowest_digits 2 n r
unfolding bit_list
pattern_list n r v u w h e = ap (lowest_digits 2 n) (sym (pattern_is n r v u w h e))

pub pattern_small : (n r : ℕ) (v u : ℤ) → IsWidth n → u ≡ wrap false n v → r ≡ nat_abs u → r < 2 ^ n
pattern_small n r v u w h e = rw (pattern_is n r v u w h e) (modulo_below v (2 ^ n) (pow_pos n))

-- the word with the digits of m
pub word_list : (s : Bool) (n m : ℕ) (v : ℤ) → IsWidth n → v ≡ wrap s n (pos m) → bit_list n v ≡ lowest_digits 2 n m
unfolding bit_list
word_list s n m v w h = ap (lowest_digits 2 n) (ap (λ (x : ℤ). modulo x (2 ^ n)) h ∙ modulo_wrap s n (pos m) (width_pos n w)) ∙ lowest_mod n m

pub at_most_64 : (n : ℕ) → IsWidth n → n ≤ 64
at_most_64 n w = grind arith

pub below_64 : (n p : ℕ) → n ≤ 64 → p < 2 ^ n → p < 2 ^ 64
below_64 n p w h = let b : 2 ^ n ≤ 2 ^ 64 = pow-le-pow_right {n = 2} (omega arith) w in omega arith

-- ---- signs

-- a value by its sign and its magnitude
pub sign_is : (b : Bool) (m : ℕ) (v : ℤ) → (IsTrue b ↔ (v <ℤ pos 0)) → m ≡ nat_abs v → v ≡ with_sign b m
sign_is false m (pos a) s e = omega (arith, ints)
sign_is false m (negsuc a) s e = let t = s.1 (omega (arith, ints)) in cc
sign_is true m v s e = let h = s.0 refl in omega (arith, ints)

-- a magnitude and its sign, moved up
pub moved_up : (b : Bool) (m k : ℕ) → with_sign b (m * 2 ^ k) ≡ with_sign b m *ℤ pos (2 ^ k)
moved_up false m k = refl
moved_up true zero k = omega (arith, ints)
moved_up true (suc m) k = refl

-- ---- shifts

-- a word moved up fits an integer of twice its width, which is m
moved_in : (s : Bool) (n m k : ℕ) (x : ℤ) → m ≡ 2 * n → k < n → InRange s n x → InRange s m (x *ℤ pos (2 ^ k))
moved_in true n m k (pos a) l i r =
    let d = double n (omega arith) in
    let p = pow_pos (n - 1) in
    let u = r.1 in
    let b = less_moved a n k m (omega (arith, ints)) i l in
    (omega (arith, ints), omega (arith, ints))
moved_in true n m k (negsuc a) l i r =
    let d = double n (omega arith) in
    let p = pow_pos (n - 1) in
    let u = r.0 in
    let b = less_moved (suc a) n k m (omega (arith, ints)) i l in
    (omega (arith, ints), omega (arith, ints))
moved_in false n m k (pos a) l i r =
    let d = double m (omega arith) in
    let p = pow_pos n in
    let u = r.1 in
    let b = less_moved a n k m (omega (arith, ints)) i l in
    (omega (arith, ints), omega (arith, ints))
moved_in false n m k (negsuc a) l i r = let u = r.0 in absurd (omega (arith, ints))

pub left_room : (s t : Bool) (n m k : ℕ) (x y : ℤ) → t ≡ s → m ≡ 2 * n → k < n → y ≡ x → InRange s n x → InRange t m (y *ℤ pos (2 ^ k))
left_room s t n m k x y e l i u r = rw (u, e) (moved_in s n m k x l i r)

pub floor_fits : (s : Bool) (n d : ℕ) (x : ℤ) → InRange s n x → 0 < d → InRange s n (floor_quotient x d)
floor_fits true n d (pos a) r h = let l = r.0 in let u = r.1 in (omega (arith, ints), omega (arith, ints, div-le_self a d))
floor_fits false n d (pos a) r h = let l = r.0 in let u = r.1 in (omega (arith, ints), omega (arith, ints, div-le_self a d))
floor_fits true n d (negsuc a) r h = let l = r.0 in let u = r.1 in (omega (arith, ints, div-le_self a d), omega (arith, ints))
floor_fits false n d (negsuc a) r h = let l = r.0 in absurd (omega (arith, ints))

pub right_same : (s : Bool) (n k : ℕ) (x y : ℤ) → IsWidth n → y ≡ x → InRange s n x → wrap s n (floor_quotient y (2 ^ k)) ≡ floor_quotient x (2 ^ k)
right_same s n k x y w u r = rw u (wrap_same s n (floor_quotient x (2 ^ k)) (width_pos n w) (floor_fits s n (2 ^ k) x r (pow_pos k)))
