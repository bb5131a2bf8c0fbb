-- The logarithm of a number by its part.
use Rattle.std.proofs.Common.{◌≡◌, ◌≢◌, ◌+◌, ◌-◌, ◌*◌, ◌/◌, ◌^◌, ◌<◌, ◌≤◌, ◌<ℤ◌, ◌*ℤ◌, ℕ, ℤ, Bool, false, pos, nat_abs, ap, sym, subst, ◌∙◌, arith}
use Rattle.std.proofs.lemmas.Int.{ints}
use Rattle.std.proofs.lemmas.Nat.{pow_pos, shl_below, div-add-mod', mod_below, mul-le}
use Rattle.fixed_word.specs.Format.{IsWidth, InRange, wrap}
use Rattle.fixed_word.specs.Quotient.{floor_quotient}
use Rattle.fixed_word.proofs.Wraps.{magnitude_fits, width_pos, wrap_same}
use Rattle.fixed_logs.specs.Logarithm.{IsLog}
use Rattle.fixed_logs.proofs.LogLaws.{log_of_raised, log_of_whole}

-- ---- words, as natural numbers

pub lowered_is : (x z : ℤ) (m : ℕ) → x ≡ pos (nat_abs x) → z ≡ floor_quotient x m → nat_abs z ≡ nat_abs x / m
lowered_is x z m p e = ap nat_abs (e ∙ ap (λ (y : ℤ). floor_quotient y m) p)

pub raised_is : (n k : ℕ) (x z : ℤ) → IsWidth n → x ≡ pos (nat_abs x) → z ≡ wrap false n (x *ℤ pos (2 ^ k)) → nat_abs x * 2 ^ k < 2 ^ n → nat_abs z ≡ nat_abs x * 2 ^ k
raised_is n k x z w p e b =
    let s : x *ℤ pos (2 ^ k) ≡ pos (nat_abs x * 2 ^ k) = ap (λ (y : ℤ). y *ℤ pos (2 ^ k)) p in
    ap nat_abs (e ∙ ap (wrap false n) s ∙ wrap_same false n (pos (nat_abs x * 2 ^ k)) (width_pos n w) (omega (arith, ints), omega (arith, ints)))

-- a word above 0, as an unsigned word
pub unsigned_same : (s : Bool) (n : ℕ) (x y : ℤ) → IsWidth n → InRange s n x → pos 0 <ℤ x → y ≡ wrap false n x → y ≡ x
unsigned_same s n x y w r h e =
    let p : x ≡ pos (nat_abs x) = omega (arith, ints) in
    e ∙ ap (wrap false n) p ∙ magnitude_fits s n x (width_pos n w) r ∙ sym p

-- ---- the part of a / 2 ^ f

below_one : (a f : ℕ) → a / 2 ^ f < 1 → a < 2 ^ f
below_one a f h =
    let d = div-add-mod' a (2 ^ f) in
    let r = mod_below a (2 ^ f) (pow_pos f) in
    let z : a / 2 ^ f ≡ 0 = omega arith in
    omega (arith, ap (λ n. n * 2 ^ f) z)

-- where the whole part w is 0, the number fits when raised to all digits
pub raised_fits : (a f n m w : ℕ) → f ≤ n → m ≡ n → w ≡ a / 2 ^ f → w < 1 → a * 2 ^ (m - f) < 2 ^ n
raised_fits a f n m w l e p h =
    let d : f + (m - f) ≡ n = omega arith in
    omega (arith, shl_below a f (m - f) (below_one a f (omega arith)), ap (λ k. 2 ^ k) d)

pub raised_not_zero : (a d : ℕ) (x : ℤ) → 1 ≤ a → nat_abs x ≡ a * 2 ^ d → x ≢ pos 0
raised_not_zero a d x o e z = absurd (omega (arith, mul-le 1 1 a (2 ^ d) o (pow_pos d), ap nat_abs z))

-- ---- logarithms

pub whole_log : (a f b w : ℕ) (r s : ℤ) → 2 ≤ b → (2 ^ f ≤ a) × (w ≡ a / 2 ^ f) → s ≡ r → IsLog w 0 b r → IsLog a f b s
whole_log a f b w r s t p q h =
    let g = subst (λ (n : ℕ). IsLog n 0 b r) p.1 h in
    subst (λ (z : ℤ). IsLog a f b z) (sym q) (log_of_whole a f b r t p.0 g)

pub raised_log : (a f n b w : ℕ) (r s : ℤ) → f ≤ n → w ≡ a * 2 ^ (n - f) → s ≡ r → IsLog w n b r → IsLog a f b s
raised_log a f n b w r s l e q h =
    let d : n ≡ f + (n - f) = omega arith in
    let g = subst (λ (m : ℕ). IsLog m n b r) e h in
    let i = subst (λ (m : ℕ). IsLog (a * 2 ^ (n - f)) m b r) d g in
    subst (λ (z : ℤ). IsLog a f b z) (sym q) (log_of_raised a f (n - f) b r i)
