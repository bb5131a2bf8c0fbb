-- The last digits of a number.
use Rattle.std.proofs.Common.{◌≡◌, ℕ, zero, suc, ◌+◌, ◌*◌, ◌/◌, ◌%◌, ◌^◌, ◌<◌, ◌≤◌, [], ◌∷◌, ◌++◌, length, length-append, append_assoc, append-nil, refl, sym, ap, ◌∙◌, pow-suc, zero-add, div-one, mul_assoc, arith}
use Rattle.std.proofs.Math.Nat.{div-div-eq-div-mul}
use Rattle.fixed_word.specs.Decimal.{natural_text}
use Rattle.fixed_digits.proofs.Shown.{one_digit, more_digits}
use Rattle.fixed_decimal.specs.Text.{places_text}

pub length_places : (n p : ℕ) → length (places_text n p) ≡ p
unfolding places_text
length_places n zero = refl
length_places n (suc p) = length-append (places_text (n / 10) p) ((48 + n % 10) ∷ []) ∙ ap (λ k. k + 1) (length_places (n / 10) p) ∙ omega arith

-- after a 1
lead_step : (n p t : ℕ) → t ≡ 10 ^ p → n < 10 ^ suc p → (10 ≤ 10 ^ suc p + n) × ((10 ^ suc p + n) / 10 ≡ t + n / 10) × ((10 ^ suc p + n) % 10 ≡ n % 10) × (n / 10 < t)
lead_step n p t e h = let m = pow-suc 10 p in let o = pow_pos' p in (omega arith, omega arith, omega arith, omega arith)
  where
    pow_pos' : (p : ℕ) → 0 < 10 ^ p
    pow_pos' zero = omega arith
    pow_pos' (suc p) = omega (arith, pow-suc 10 p, pow_pos' p)

pub led : (n p : ℕ) → n < 10 ^ p → natural_text (10 ^ p + n) ≡ 49 ∷ places_text n p
unfolding places_text
led n zero h = let e : 10 ^ 0 + n ≡ 1 = omega arith in ap natural_text e ∙ one_digit 1 (omega arith)
led n (suc p) h =
    let s = lead_step n p (10 ^ p) refl h in
    more_digits (10 ^ suc p + n) s.0
    ∙ ap (λ k. natural_text k ++ ((48 + (10 ^ suc p + n) % 10) ∷ [])) s.1
    ∙ ap (λ k. natural_text (10 ^ p + n / 10) ++ ((48 + k) ∷ [])) s.2
    ∙ ap (λ ds. ds ++ ((48 + n % 10) ∷ [])) (led (n / 10) p s.3)

-- digits before digits
pub places_join : (n p j : ℕ) → places_text n (j + p) ≡ places_text (n / 10 ^ j) p ++ places_text n j
unfolding places_text
places_join n p zero = rw (zero-add p, div-one n) (sym (append-nil (places_text n p)))
places_join n p (suc j) =
    let e : suc j + p ≡ suc (j + p) = omega arith in
    let d : n / 10 / 10 ^ j ≡ n / 10 ^ suc j = div-div-eq-div-mul n 10 (10 ^ j) ∙ ap (λ k. n / k) (omega (arith, pow-suc 10 j)) in
    rw e (ap (λ ds. ds ++ ((48 + n % 10) ∷ [])) (places_join (n / 10) p j)
    ∙ append_assoc (places_text (n / 10 / 10 ^ j) p) (places_text (n / 10) j) ((48 + n % 10) ∷ [])
    ∙ ap (λ k. places_text k p ++ (places_text (n / 10) j ++ ((48 + n % 10) ∷ []))) d)

-- what stands before the last digits does not matter
behind_step : (x t j k : ℕ) → k ≡ 10 ^ j → ((x * 10 ^ suc j + t) / 10 ≡ x * k + t / 10) × ((x * 10 ^ suc j + t) % 10 ≡ t % 10)
behind_step x t j k e =
    let m : x * 10 ^ suc j ≡ x * k * 10 = ap (λ n. x * n) (pow-suc 10 j ∙ ap (λ n. n * 10) (sym e)) ∙ sym (mul_assoc x k 10) in
    (omega arith, omega arith)

pub places_behind : (x t j : ℕ) → places_text (x * 10 ^ j + t) j ≡ places_text t j
unfolding places_text
places_behind x t zero = refl
places_behind x t (suc j) =
    let s = behind_step x t j (10 ^ j) refl in
    rw (s.0, s.1) (ap (λ ds. ds ++ ((48 + t % 10) ∷ [])) (places_behind x (t / 10) j))
