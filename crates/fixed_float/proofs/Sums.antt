-- Sums and differences of fractions with values over one divisor.
use Rattle.std.proofs.Common.{◌≡◌, ◌+◌, ◌-◌, ◌*◌, ◌^◌, ◌<◌, ℕ, Bool, ap, sym, ◌∙◌, subst}
use native.Mathlib.Nat.{add-mul, mul_assoc, mul_comm, mul_right_comm, lt_of_mul-lt-mul_right, mul-lt-mul_of_pos_right}
use Rattle.std.proofs.Math.Nat.{mul-sub}
use lib.Pow.{pow_pos}
use Rattle.std.specs.Float.{Format}
use lib.Ieee.{round}
use lib.Ieee.Scale.{round_same}

-- ---- equal fractions
pub same_order : (A B D a b c : ℕ) → 0 < D → 0 < c → A * c ≡ a * D → B * c ≡ b * D → a < b → A < B
same_order A B D a b c P C h k l = lt_of_mul-lt-mul_right c (subst (λ (z : ℕ). z < B * c) (sym h) (subst (λ (z : ℕ). a * D < z) (sym k) (mul-lt-mul_of_pos_right l P)))

pub minus_times : (a b m : ℕ) → (a - b) * m ≡ a * m - b * m
minus_times a b m = mul_comm (a - b) m ∙ mul-sub m a b ∙ (λ i. mul_comm m a i - mul_comm m b i)

pub same_minus : (A B D a b c : ℕ) → A * c ≡ a * D → B * c ≡ b * D → (A - B) * c ≡ (a - b) * D
same_minus A B D a b c h k = minus_times A B c ∙ (λ i. h i - k i) ∙ sym (minus_times a b D)

pub total : (f : Format) (s : Bool) (A B D a b l : ℕ) → 0 < D → A * 2 ^ l ≡ a * D → B * 2 ^ l ≡ b * D → round f s (A + B) D ≡ round f s (a + b) (2 ^ l)
total f s A B D a b l P h k = round_same f s (A + B) D (a + b) (2 ^ l) P (pow_pos l) (add-mul A B (2 ^ l) ∙ (λ i. h i + k i) ∙ sym (add-mul a b D))

-- ---- values of m * up e / down e, over a product of two divisors
pub left_over : (m e a c d : ℕ) → m * c ≡ a * e → m * d * c ≡ a * (e * d)
left_over m e a c d h = mul_right_comm m d c ∙ ap (λ (z : ℕ). z * d) h ∙ mul_assoc a e d

pub right_over : (n d b c e : ℕ) → n * c ≡ b * d → n * e * c ≡ b * (e * d)
right_over n d b c e h = left_over n d b c e h ∙ ap (λ (z : ℕ). b * z) (mul_comm d e)
