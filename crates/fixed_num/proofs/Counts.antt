-- Digits 1 of a list are digits 0 of its complement.
use Rattle.std.proofs.Common.{◌≡◌, ◌==◌, ◌-◌, ◌<◌, ◌^◌, ℕ, ℤ, zero, suc, List, [], ◌∷◌, length, reverse, refl, ap, sym, ◌∙◌, arith}
use Rattle.std.proofs.lemmas.List.{get_or-map, get_or-reverse}
use Rattle.std.proofs.Math.ListN.{length-map, length-reverse}
use Rattle.std.proofs.lemmas.Grind.{same_number_lists}
use Rattle.std.specs.List.{All, prefix_len, suffix_len}
use Rattle.fixed_word.specs.Format.{modulo}
use Rattle.fixed_bits.specs.Digits.{bit_list, complement}
use Rattle.fixed_bits.proofs.Lists.{all_lowest}

flipped : (d : ℕ) → d < 2 → (1 - d == 0) ≡ (d == 1)
flipped zero h = refl
flipped (suc zero) h = refl
flipped (suc (suc d)) h = absurd (omega arith)

prefix_flips : (xs : List ℕ) → All (λ d. d < 2) xs → prefix_len (λ d. d == 0) (complement xs) ≡ prefix_len (λ d. d == 1) xs
prefix_flips [] h = refl
prefix_flips (x ∷ xs) h =
    let r = prefix_flips xs (λ i d l. h (suc i) d (omega arith)) in
    rw (flipped x (h 0 0 (omega arith)), r) refl

all_reverse : (xs : List ℕ) → All (λ d. d < 2) xs → All (λ d. d < 2) (reverse xs)
all_reverse xs h i d l =
    let e = length-reverse xs in
    rw (get_or-reverse xs i d (omega arith)) (h (length xs - 1 - i) d (omega arith))

reverse_complement : (xs : List ℕ) → reverse (complement xs) ≡ complement (reverse xs)
reverse_complement xs =
    let a = length-reverse xs in
    let b = length-map xs (λ d. 1 - d) in
    let c = length-reverse (complement xs) in
    let e = length-map (reverse xs) (λ d. 1 - d) in
    same_number_lists (reverse (complement xs)) (complement (reverse xs)) (omega arith)
    (λ i l.
    let t : i < length xs = omega arith in
    let u : i < length (complement xs) = omega arith in
    let v : i < length (reverse xs) = omega arith in
    let s : length xs - 1 - i < length xs = omega arith in
    let p : length (complement xs) - 1 - i ≡ length xs - 1 - i = omega arith in
    get_or-reverse (complement xs) i 0 u ∙ rw p (get_or-map (λ d. 1 - d) xs (length xs - 1 - i) 0 0 s)
    ∙ sym (get_or-map (λ d. 1 - d) (reverse xs) i 0 0 v ∙ ap (λ (d : ℕ). 1 - d) (get_or-reverse xs i 0 t)))

all_bits : (n : ℕ) (a : ℤ) → All (λ d. d < 2) (bit_list n a)
unfolding bit_list
all_bits n a = all_lowest 2 n (modulo a (2 ^ n)) (omega arith)

pub trailing_flips : (n r : ℕ) (a : ℤ) (ds : List ℕ) → ds ≡ complement (bit_list n a) → r ≡ prefix_len (λ d. d == 0) ds → r ≡ prefix_len (λ d. d == 1) (bit_list n a)
trailing_flips n r a ds e h = h ∙ rw e (prefix_flips (bit_list n a) (all_bits n a))

pub leading_flips : (n r : ℕ) (a : ℤ) (ds : List ℕ) → ds ≡ complement (bit_list n a) → r ≡ suffix_len (λ d. d == 0) ds → r ≡ suffix_len (λ d. d == 1) (bit_list n a)
leading_flips n r a ds e h = h ∙ rw (e, reverse_complement (bit_list n a)) (prefix_flips (reverse (bit_list n a)) (all_reverse (bit_list n a) (all_bits n a)))
