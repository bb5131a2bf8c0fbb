-- Zeros behind the digits that are exact.
use Rattle.std.proofs.Common.{◌≡◌, ◌+◌, ◌-◌, ◌*◌, ◌/◌, ◌%◌, ◌^◌, ◌≤◌, ℕ, ℤ, zero, suc, pos, nat_abs, ◌*ℤ◌, List, [], ◌∷◌, ◌++◌, replicate, min, refl, sym, ap, ◌∙◌, inl, inr, pow-add, mul_assoc, mul_right_comm, add-zero, append-nil, append_assoc, arith}
use Rattle.std.proofs.Math.Nat.{one-le-pow}
use Rattle.std.proofs.lemmas.Bool.{cases_lt}
use Rattle.std.proofs.lemmas.Nat.{div-add-mod', div-mul-add}
use Rattle.fixed_word.specs.Decimal.{natural_text}
use Rattle.fixed_word.specs.Format.{with_sign}
use Rattle.fixed_word.specs.declared.rounding.Rounding.TheVariants.{Even}
use Rattle.fixed_kernel.specs.Rounded.{rounded}
use Rattle.fixed_kernel.proofs.Alikes.{abs_signed, signed_times}
use Rattle.fixed_decimal.specs.Text.{magnitude_text, places_text, to_places}
use Rattle.fixed_decimal.proofs.Decided.{rounded_by_step}
use Rattle.fixed_decimal.proofs.Firsts.{enough_law}
use Rattle.fixed_decimal.proofs.Parts.{joined_quotient}
use Rattle.fixed_decimal.proofs.Readings.{stepped_exact}
use Rattle.fixed_decimal.proofs.Shown.{places_behind, places_join}
use Rattle.fixed_decimal.proofs.Trips.{signed_is}

pub replicate_end : (j c : ℕ) → replicate j c ++ c ∷ [] ≡ c ∷ replicate j c
replicate_end zero c = refl
replicate_end (suc j) c = ap (λ (l : List ℕ). c ∷ l) (replicate_end j c)

no_digits : (j : ℕ) → places_text 0 j ≡ replicate j 48
unfolding places_text
no_digits zero = refl
no_digits (suc j) = ap (λ (l : List ℕ). l ++ 48 ∷ []) (no_digits j) ∙ replicate_end j 48

-- the digits of n, with j zeros behind them
zeros_behind : (n p j : ℕ) → places_text (n * 10 ^ j) (j + p) ≡ places_text n p ++ replicate j 48
zeros_behind n p j =
    let t = one-le-pow j 10 (omega arith) in
    let z = add-zero (n * 10 ^ j) in
    let whole : n * 10 ^ j / 10 ^ j ≡ n = ap (λ m. m / 10 ^ j) (sym z) ∙ div-mul-add n (10 ^ j) 0 t in
    let none : places_text (n * 10 ^ j) j ≡ replicate j 48 = ap (λ m. places_text m j) (sym z) ∙ places_behind n 0 j ∙ no_digits j in
    places_join (n * 10 ^ j) p j ∙ ap (λ m. places_text m p ++ places_text (n * 10 ^ j) j) whole ∙ ap (λ (l : List ℕ). places_text n p ++ l) none

same_whole : (n p j : ℕ) → n * 10 ^ j / 10 ^ (p + j) ≡ n / 10 ^ p
same_whole n p j =
    let t = one-le-pow j 10 (omega arith) in
    let u = one-le-pow p 10 (omega arith) in
    let z = add-zero (n * 10 ^ j) in
    let zeros : 0 * 10 ^ j + 0 ≡ 0 = omega arith in
    let none : n + 0 / 10 ^ j ≡ n = ap (λ m. n + m) (ap (λ m. m / 10 ^ j) (sym zeros) ∙ div-mul-add 0 (10 ^ j) 0 t) ∙ add-zero n in
    ap (λ m. m / 10 ^ (p + j)) (sym z) ∙ ap (λ m. (n * 10 ^ j + 0) / m) (pow-add 10 p j) ∙ (joined_quotient n 0 (10 ^ p) (10 ^ j) u t).0 ∙ ap (λ m. m / 10 ^ p) none

text_longer : (n p j : ℕ) → magnitude_text (n * 10 ^ j) (suc p + j) ≡ magnitude_text n (suc p) ++ replicate j 48
text_longer n p j =
    let turned : j + suc p ≡ suc (p + j) = omega arith in
    let same : suc p + j ≡ suc (p + j) = omega arith in
    ap (magnitude_text (n * 10 ^ j)) same
    ∙ ap (λ m. natural_text m ++ 46 ∷ places_text (n * 10 ^ j) (suc (p + j))) (ap (λ k. n * 10 ^ j / 10 ^ k) (sym same) ∙ same_whole n (suc p) j)
    ∙ ap (λ (l : List ℕ). natural_text (n / 10 ^ suc p) ++ 46 ∷ l) (ap (places_text (n * 10 ^ j)) (sym turned) ∙ zeros_behind n (suc p) j)
    ∙ sym (append_assoc (natural_text (n / 10 ^ suc p)) (46 ∷ places_text n (suc p)) (replicate j 48))

-- ---- the number of a text that is exact
exact_size : (a : ℤ) (f p : ℕ) → f ≤ p → nat_abs (to_places a f p Even) ≡ nat_abs a * 10 ^ p / 2 ^ f
exact_size a f p le =
    let g = signed_is a (nat_abs a) refl in
    let b = g.0 in
    let m = nat_abs a in
    let d = one-le-pow f 2 (omega arith) in
    let units = ap (λ (x : ℤ). x *ℤ pos (10 ^ p)) g.1 ∙ signed_times b m (10 ^ p) in
    ap (λ (x : ℤ). nat_abs (rounded x (pos (2 ^ f)) Even)) units
    ∙ ap nat_abs (rounded_by_step Even b (m * 10 ^ p) (2 ^ f) d ∙ ap (with_sign b) (stepped_exact Even b (m * 10 ^ p) (2 ^ f) d (enough_law a f p le)))
    ∙ abs_signed b (m * 10 ^ p / 2 ^ f)

size_longer : (a : ℤ) (f p j : ℕ) → f ≤ p → nat_abs (to_places a f (p + j) Even) ≡ nat_abs (to_places a f p Even) * 10 ^ j
size_longer a f p j le =
    let m = nat_abs a in
    let d = one-le-pow f 2 (omega arith) in
    let left : m * 10 ^ p % 2 ^ f ≡ 0 = enough_law a f p le in
    let q = m * 10 ^ p / 2 ^ f in
    let whole : m * 10 ^ p ≡ q * 2 ^ f = omega (arith, div-add-mod' (m * 10 ^ p) (2 ^ f), left) in
    let more : m * 10 ^ (p + j) ≡ q * 10 ^ j * 2 ^ f + 0 =
    ap (λ n. m * n) (pow-add 10 p j) ∙ sym (mul_assoc m (10 ^ p) (10 ^ j)) ∙ ap (λ n. n * 10 ^ j) whole ∙ mul_right_comm q (2 ^ f) (10 ^ j) ∙ sym (add-zero (q * 10 ^ j * 2 ^ f)) in
    exact_size a f (p + j) (omega arith) ∙ ap (λ n. n / 2 ^ f) more ∙ div-mul-add (q * 10 ^ j) (2 ^ f) 0 d ∙ ap (λ n. n * 10 ^ j) (sym (exact_size a f p le))

pub padded_text : (a : ℤ) (f q : ℕ) → f ≤ 64 → magnitude_text (nat_abs (to_places a f (min q 64) Even)) (min q 64) ++ replicate (q - min q 64) 48 ≡ magnitude_text (nat_abs (to_places a f q Even)) q
padded_text a f q le =
    elim (cases_lt 64 q) [
      | inl more ↦
          let j = q - 64 in
          let least : min q 64 ≡ 64 = omega arith in
          let long : 64 + j ≡ q = omega arith in
          ap (λ p. magnitude_text (nat_abs (to_places a f p Even)) p ++ replicate (q - p) 48) least
          ∙ sym (text_longer (nat_abs (to_places a f 64 Even)) 63 j)
          ∙ ap (λ n. magnitude_text n (64 + j)) (sym (size_longer a f 64 j le))
          ∙ ap (λ p. magnitude_text (nat_abs (to_places a f p Even)) p) long
      | inr few ↦
          let least : min q 64 ≡ q = omega arith in
          let none : q - q ≡ 0 = omega arith in
          ap (λ p. magnitude_text (nat_abs (to_places a f p Even)) p ++ replicate (q - p) 48) least
          ∙ ap (λ k. magnitude_text (nat_abs (to_places a f q Even)) q ++ replicate k 48) none
          ∙ append-nil (magnitude_text (nat_abs (to_places a f q Even)) q)
    ]
