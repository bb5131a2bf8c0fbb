-- The bytes of words, as std gives them.
use Rattle.std.proofs.Common.{◌≡◌, ◌/◌, ◌%◌, ◌^◌, ◌<◌, ℕ, ℤ, zero, suc, Bool, true, false, pos, List, [], ◌∷◌, length, get_or, reverse, refl, ap, sym, ◌∙◌, arith}
use Rattle.std.proofs.lemmas.Int.{to_z-of_z}
use Rattle.std.proofs.Math.Nat.{pow-suc, div-div-eq-div-mul, mod-eq_of_lt}
use Rattle.std.proofs.lemmas.Nat.{le_bytes_2, le_bytes_4, le_bytes_8, be_bytes_2, be_bytes_4, be_bytes_8}
use Rattle.std.specs.Int.{Width, cast_signed, cast_unsigned, w8, w16, w32, w64, w128, byte_len, byte_at, bytes_low_first, to_le_bytes, to_be_bytes, from_le_bytes, from_be_bytes}
use Rattle.std.specs.List.{slice_index}
use mir.Val.{bits, SFits}
use Rattle.fixed_word.specs.Format.{modulo, wrap}
use Rattle.fixed_bits.specs.Digits.{byte_list, lowest_digits}
use Rattle.fixed_bits.proofs.Words.{modulo_wrap}

low_from : (i k n x : ℕ) → x ≡ n / 256 ^ i → bytes_low_first i k n ≡ lowest_digits 256 k x
unfolding lowest_digits
low_from i zero n x e = refl
low_from i (suc k) n x e =
    let r = low_from (suc i) k n (x / 256) (rw e (div-div-eq-div-mul n (256 ^ i) 256 ∙ ap (λ (m : ℕ). n / m) (sym (pow-suc 256 i)))) in
    rw r (ap (λ (d : ℕ). d ∷ lowest_digits 256 k (x / 256)) (byte_is i n x e))
  where
    byte_is : (i n x : ℕ) → x ≡ n / 256 ^ i → byte_at i n ≡ x % 256
    byte_is zero n x e = let f : n / 256 ^ 0 ≡ n = omega arith in rw e (rw f refl)
    byte_is (suc i) n x e = ap (λ (m : ℕ). m % 256) (sym e)

low_list : (k n : ℕ) → bytes_low_first 0 k n ≡ lowest_digits 256 k n
low_list k n = low_from 0 k n n (omega arith)

high_is : (w : Width) (n : ℕ) → to_be_bytes w n ≡ reverse (to_le_bytes w n)
high_is w8 n = refl
high_is w16 n = refl
high_is w32 n = refl
high_is w64 n = refl
high_is w128 n = refl

-- the bytes of an unsigned word
pub le_word : (w : Width) (x : ℕ) → x < 2 ^ bits w → to_le_bytes w x ≡ byte_list (bits w) (pos x)
unfolding byte_list
le_word w x h = low_list (byte_len w) x ∙ ap (lowest_digits 256 (byte_len w)) (sym (mod-eq_of_lt h))

pub be_word : (w : Width) (x : ℕ) → x < 2 ^ bits w → to_be_bytes w x ≡ reverse (byte_list (bits w) (pos x))
be_word w x h = high_is w x ∙ ap {B = List ℕ} reverse (le_word w x h)

-- what is left in a word has the same bytes
pub bytes_wrap : (s : Bool) (n : ℕ) (v x : ℤ) → 0 < n → v ≡ wrap s n x → byte_list n v ≡ byte_list n x
unfolding byte_list
bytes_wrap s n v x h e = ap (lowest_digits 256 (n / 8)) (ap (λ (y : ℤ). modulo y (2 ^ n)) e ∙ modulo_wrap s n x h)

pub le_back_2 : (bs : List ℕ) (r : ℕ) → length bs ≡ 2 → ((i : ℕ) → get_or bs i 0 < 256) → r < 2 ^ 16 → r ≡ from_le_bytes w16 bs → byte_list 16 (pos r) ≡ bs
le_back_2 bs r l a b e = sym (le_word w16 r b) ∙ le_bytes_2 bs r l a e

pub be_back_2 : (bs : List ℕ) (r : ℕ) → length bs ≡ 2 → ((i : ℕ) → get_or bs i 0 < 256) → r < 2 ^ 16 → r ≡ from_be_bytes w16 bs → reverse (byte_list 16 (pos r)) ≡ bs
be_back_2 bs r l a b e = sym (be_word w16 r b) ∙ be_bytes_2 bs r l a e

pub le_back_4 : (bs : List ℕ) (r : ℕ) → length bs ≡ 4 → ((i : ℕ) → get_or bs i 0 < 256) → r < 2 ^ 32 → r ≡ from_le_bytes w32 bs → byte_list 32 (pos r) ≡ bs
le_back_4 bs r l a b e = sym (le_word w32 r b) ∙ le_bytes_4 bs r l a e

pub be_back_4 : (bs : List ℕ) (r : ℕ) → length bs ≡ 4 → ((i : ℕ) → get_or bs i 0 < 256) → r < 2 ^ 32 → r ≡ from_be_bytes w32 bs → reverse (byte_list 32 (pos r)) ≡ bs
be_back_4 bs r l a b e = sym (be_word w32 r b) ∙ be_bytes_4 bs r l a e

pub le_back_8 : (bs : List ℕ) (r : ℕ) → length bs ≡ 8 → ((i : ℕ) → get_or bs i 0 < 256) → r < 2 ^ 64 → r ≡ from_le_bytes w64 bs → byte_list 64 (pos r) ≡ bs
le_back_8 bs r l a b e = sym (le_word w64 r b) ∙ le_bytes_8 bs r l a e

pub be_back_8 : (bs : List ℕ) (r : ℕ) → length bs ≡ 8 → ((i : ℕ) → get_or bs i 0 < 256) → r < 2 ^ 64 → r ≡ from_be_bytes w64 bs → reverse (byte_list 64 (pos r)) ≡ bs
be_back_8 bs r l a b e = sym (be_word w64 r b) ∙ be_bytes_8 bs r l a e

one_byte : (bs : List ℕ) (r : ℕ) → length bs ≡ 1 → r ≡ slice_index bs 0 → r ∷ [] ≡ bs
one_byte [] r l e = absurd (omega arith)
one_byte (x ∷ []) r l e = ap {B = List ℕ} (λ d. d ∷ []) e
one_byte (x ∷ y ∷ rest) r l e = absurd (omega arith)

pub le_back_1 : (bs : List ℕ) (r : ℕ) → length bs ≡ 1 → ((i : ℕ) → get_or bs i 0 < 256) → r < 2 ^ 8 → r ≡ slice_index bs 0 → byte_list 8 (pos r) ≡ bs
le_back_1 bs r l a b e = let s : r % 256 ≡ r = mod-eq_of_lt b in sym (le_word w8 r b) ∙ rw s (one_byte bs r l e)

pub be_back_1 : (bs : List ℕ) (r : ℕ) → length bs ≡ 1 → ((i : ℕ) → get_or bs i 0 < 256) → r < 2 ^ 8 → r ≡ slice_index bs 0 → reverse (byte_list 8 (pos r)) ≡ bs
be_back_1 bs r l a b e = let s : r % 256 ≡ r = mod-eq_of_lt b in sym (be_word w8 r b) ∙ rw s (one_byte bs r l e)

pub le_one : (x : ℕ) → x < 2 ^ 8 → x ∷ [] ≡ byte_list 8 (pos x)
le_one x h = let s : x % 256 ≡ x = mod-eq_of_lt h in sym (sym (le_word w8 x h) ∙ rw s refl)

pub be_one : (x : ℕ) → x < 2 ^ 8 → x ∷ [] ≡ reverse (byte_list 8 (pos x))
be_one x h = let s : x % 256 ≡ x = mod-eq_of_lt h in sym (sym (be_word w8 x h) ∙ rw s refl)

bits_pos : (w : Width) → 0 < bits w
bits_pos w8 = omega arith
bits_pos w16 = omega arith
bits_pos w32 = omega arith
bits_pos w64 = omega arith
bits_pos w128 = omega arith

-- a signed word as an unsigned one, and back
pub bytes_of_signed : (w : Width) (z x : ℤ) → SFits w z → x ≡ wrap false (bits w) (cast_signed w (cast_unsigned w z)) → byte_list (bits w) x ≡ byte_list (bits w) z
bytes_of_signed w z x f e = bytes_wrap false (bits w) x z (bits_pos w) (e ∙ ap (wrap false (bits w)) (to_z-of_z w z f))

pub bytes_in_signed : (w : Width) (z x : ℤ) → SFits w z → z ≡ wrap true (bits w) x → byte_list (bits w) (cast_signed w (cast_unsigned w z)) ≡ byte_list (bits w) x
bytes_in_signed w z x f e = ap (byte_list (bits w)) (to_z-of_z w z f) ∙ bytes_wrap true (bits w) z x (bits_pos w) e
