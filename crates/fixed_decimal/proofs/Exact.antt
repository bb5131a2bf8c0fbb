-- Numbers whose digits behind the point end.
use Rattle.std.proofs.Common.{◌≡◌, ◌+◌, ◌-◌, ◌*◌, ◌/◌, ◌%◌, ◌^◌, ◌<◌, ◌≤◌, ℕ, ℤ, zero, suc, min, unsigned_abs, refl, sym, ap, ◌∙◌, mul_assoc, mul_right_comm, pow-add, pow-suc, add-zero, inl, inr, arith}
use lib.Count.{count_trailing_zeros, under}
use Rattle.std.proofs.Math.Nat.{one-le-pow}
use Rattle.std.proofs.lemmas.Bool.{cases_lt}
use Rattle.std.proofs.lemmas.Nat.{div-add-mod', mod-mul-add, mul-pow, shl-shr}
use Rattle.fixed_decimal.specs.Text.{IsExactAt, IsLeast}

trailing_min : (n m p : ℕ) → n ≤ m → min (count_trailing_zeros m p) n ≡ count_trailing_zeros n p
unfolding count_trailing_zeros
trailing_min zero m p h = omega arith
trailing_min (suc n) zero p h = absurd (omega arith)
trailing_min (suc n) (suc m) p h = step (p % 2) (count_trailing_zeros m (p / 2)) (count_trailing_zeros n (p / 2)) n (trailing_min n m (p / 2) (omega arith))
  where
    step : (d a b n : ℕ) → min a n ≡ b → min (under d a) (suc n) ≡ under d b
    step zero a b n e = omega arith
    step (suc d) a b n e = omega arith

-- m is x 2 ^ z, and x is odd where z is not the last place that counts
pub record IsOddPart (m f z x : ℕ) : Type 0 where
  pub product : m ≡ x * 2 ^ z
  pub odd : z < f → x % 2 ≡ 1
  pub within : z ≤ f

odd_step : (d m f z x : ℕ) → d ≡ m % 2 → IsOddPart (m / 2) f z x → (y : ℕ) × IsOddPart m (suc f) (under d z) y
odd_step zero m f z x e i =
    let p = i.product in
    let t : x * 2 ^ suc z ≡ x * 2 ^ z * 2 = ap (λ n. x * n) (pow-suc 2 z) ∙ sym (mul_assoc x (2 ^ z) 2) in
    (x, record { product = omega arith; odd = λ lt. i.odd (omega arith); within = omega (arith, i.within) })
odd_step (suc d) m f z x e i = (m, record { product = omega arith; odd = λ lt. omega arith; within = omega arith })

odd_part : (f m : ℕ) → (x : ℕ) × IsOddPart m f (count_trailing_zeros f m) x
unfolding count_trailing_zeros
odd_part zero m = (m, record { product = omega arith; odd = λ lt. absurd (omega arith); within = omega arith })
odd_part (suc f) m =
    let i = odd_part f (m / 2) in
    odd_step (m % 2) m f (count_trailing_zeros f (m / 2)) i.0 refl i.1

-- powers of ten are those of two and of five
ten_split : (x z k : ℕ) → x * 2 ^ z * 10 ^ k ≡ x * 5 ^ k * 2 ^ (z + k)
ten_split x z k =
    let t : 10 ^ k ≡ 2 ^ k * 5 ^ k = mul-pow 2 5 k in
    ap (λ n. x * 2 ^ z * n) t
    ∙ sym (mul_assoc (x * 2 ^ z) (2 ^ k) (5 ^ k))
    ∙ ap (λ n. n * 5 ^ k) (mul_assoc x (2 ^ z) (2 ^ k) ∙ ap (λ n. x * n) (sym (pow-add 2 z k)))
    ∙ mul_right_comm x (2 ^ (z + k)) (5 ^ k)

odd_times : (x k : ℕ) → x % 2 ≡ 1 → (x * 5 ^ k) % 2 ≡ 1
odd_times x zero h = let e : x * 5 ^ 0 ≡ x = omega arith in omega arith
odd_times x (suc k) h =
    let o = odd_times x k h in
    let e : x * 5 ^ suc k ≡ x * 5 ^ k * 5 = ap (λ n. x * n) (pow-suc 5 k) ∙ sym (mul_assoc x (5 ^ k) 5) in
    omega arith

-- an odd number times a lower power is no multiple
no_multiple : (y e j q : ℕ) → y % 2 ≡ 1 → y * 2 ^ e ≡ q * 2 ^ (suc j + e) → ⊥
no_multiple y e j q odd same =
    let s : q * 2 ^ (suc j + e) ≡ q * 2 ^ j * 2 * 2 ^ e = ap (λ n. q * n) (pow-add 2 (suc j) e) ∙ sym (mul_assoc q (2 ^ suc j) (2 ^ e)) ∙ ap (λ n. n * 2 ^ e) (ap (λ n. q * n) (pow-suc 2 j) ∙ sym (mul_assoc q (2 ^ j) 2)) in
    let t : y ≡ q * 2 ^ j * 2 = sym (shl-shr y e) ∙ ap (λ n. n / 2 ^ e) (same ∙ s) ∙ shl-shr (q * 2 ^ j * 2) e in
    absurd (omega arith)

multiple : (n f : ℕ) → (n * 2 ^ f) % 2 ^ f ≡ 0
multiple n f = ap (λ k. k % 2 ^ f) (sym (add-zero (n * 2 ^ f))) ∙ mod-mul-add n (2 ^ f) 0 (one-le-pow f 2 (omega arith))

least_exact : (f m z x : ℕ) → IsOddPart m f z x → ((m * 10 ^ (f - z)) % 2 ^ f ≡ 0) × ((k : ℕ) → (m * 10 ^ k) % 2 ^ f ≡ 0 → f - z ≤ k)
least_exact f m z x i =
    let within = i.within in
    let e : z + (f - z) ≡ f = omega arith in (
      ap (λ n. (n * 10 ^ (f - z)) % 2 ^ f) i.product ∙ ap (λ n. n % 2 ^ f) (ten_split x z (f - z) ∙ ap (λ n. x * 5 ^ (f - z) * 2 ^ n) e) ∙ multiple (x * 5 ^ (f - z)) f,
      λ k exact. elim (cases_lt k (f - z)) [
        | inl less ↦
            let s = div-add-mod' (m * 10 ^ k) (2 ^ f) in
            let g : suc (f - (z + k) - 1) + (z + k) ≡ f = omega arith in
            let q = m * 10 ^ k / 2 ^ f in
            let whole : m * 10 ^ k ≡ q * 2 ^ f = omega arith in
            absurd (no_multiple (x * 5 ^ k) (z + k) (f - (z + k) - 1) q (odd_times x k (i.odd (omega arith))) (sym (ten_split x z k) ∙ ap (λ n. n * 10 ^ k) (sym i.product) ∙ whole ∙ ap (λ n. q * 2 ^ n) (sym g)))
        | inr fine ↦ fine
      ],
    )

pub exact_least : (a : ℤ) (m f z : ℕ) → m ≡ unsigned_abs a → f ≤ 64 → z ≡ min (count_trailing_zeros 64 m) f → IsLeast (IsExactAt a f) (f - z)
exact_least a m f z e le is =
    let o = odd_part f m in
    let same : z ≡ count_trailing_zeros f m = is ∙ trailing_min f 64 m le in
    let l = least_exact f m z o.0 (rw (← same) at o.1) in
    record {
      holds = ap (λ n. (n * 10 ^ (f - z)) % 2 ^ f) (sym e) ∙ l.0;
      least = λ k exact. l.1 k (ap (λ n. (n * 10 ^ k) % 2 ^ f) e ∙ exact);
    }
