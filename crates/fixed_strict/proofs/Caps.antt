-- A number from 0 on and below 2 ^ n, capped at the greatest that fits.
use Rattle.std.proofs.Common.{◌≡◌, ◌-◌, ◌^◌, ◌<◌, ◌≤ℤ◌, ◌<ℤ◌, ℕ, ℤ, Bool, true, false, pos, ap, sym, ◌∙◌, arith}
use Rattle.std.specs.Int.{int_min}
use Rattle.std.proofs.lemmas.Int.{by_lt_z, ints}
use Rattle.std.proofs.lemmas.Nat.{pow_pos}
use Rattle.fixed_word.specs.Format.{clamp, highest, lowest, wrap}
use Rattle.fixed_word.proofs.Nearest.{clamp_above}
use Rattle.fixed_word.proofs.Sides.{highest_sign, lowest_sign, lt_no, lt_yes}
use Rattle.fixed_word.proofs.Standings.{clamp_same}
use Rattle.fixed_word.proofs.Wraps.{double, wrap-wrap, wrap_same}

-- the greatest of a word is at most that of the unsigned word
greatest_less : (s : Bool) (n : ℕ) → 0 < n → highest s n ≤ℤ highest false n
greatest_less true n h =
    let d = double n h in
    let p = pow_pos (n - 1) in
    omega (arith, ints)
greatest_less false n h = omega (arith, ints)

-- u and m are the words of x and of the greatest number, as unsigned words, and k is the lesser
pub capped_is : (s : Bool) (n : ℕ) (x w u m k r : ℤ) → 0 < n → pos 0 ≤ℤ x → x <ℤ pos (2 ^ n) → w ≡ wrap s n x → u ≡ wrap false n w → m ≡ wrap false n (highest s n) → k ≡ int_min u m → r ≡ wrap s n k → r ≡ clamp s n x
capped_is s n x w u m k r h least less left own greatest lesser cut =
    let bottom = lowest_sign s n in
    let top = highest_sign s n in
    let own_is : u ≡ x = own ∙ ap (wrap false n) left ∙ wrap-wrap false s n x h ∙ wrap_same false n x h (least, omega (arith, ints)) in
    let greatest_is : m ≡ highest s n = greatest ∙ wrap_same false n (highest s n) h (top, greatest_less s n h) in
    let lesser_is : k ≡ int_min x (highest s n) = lesser ∙ rw (own_is, greatest_is) in
    by_lt_z (highest s n) x
    (λ l.
    let k_is : k ≡ highest s n = lesser_is ∙ rw (lt_yes (highest s n) x l) in
    cut ∙ ap (wrap s n) k_is ∙ wrap_same s n (highest s n) h (omega (arith, ints), omega (arith, ints)) ∙ sym (clamp_above s n x l))
    (λ l.
    let k_is : k ≡ x = lesser_is ∙ rw (lt_no (highest s n) x l) in
    let low : lowest s n ≤ℤ x = omega (arith, ints) in
    cut ∙ ap (wrap s n) k_is ∙ wrap_same s n x h (low, l) ∙ sym (clamp_same s n x (low, l)))
