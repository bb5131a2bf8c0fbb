-- Rounded quotients by powers of two, of which one takes away the other.
use Rattle.std.proofs.Common.{◌≡◌, ◌≢◌, ◌-◌, ◌*◌, ◌/◌, ◌^◌, ◌<◌, ◌≤◌, ◌+ℤ◌, ◌-ℤ◌, ◌*ℤ◌, ℕ, ℤ, zero, suc, pos, negsuc, neg_ℤ, nat_abs, refl, ap, sym, ◌∙◌, arith, inl, inr}
use Rattle.std.proofs.lemmas.Int.{ints, unsigned_abs-mul}
use Rattle.std.proofs.lemmas.Bool.{cases_lt}
use Rattle.std.proofs.lemmas.Nat.{mul-le, pow_pos}
use Rattle.std.proofs.Math.Nat.{div-eq_of_lt, mul-div_cancel, mul-div-mul_right, pow-le-pow_right, zero-div}
use Rattle.fixed_word.specs.Quotient.{truncated_quotient}
use Rattle.fixed_word.specs.declared.rounding.Rounding.{Rounding}
use Rattle.fixed_word.specs.declared.rounding.Rounding.TheVariants.{Down, Zero, Even}
use Rattle.fixed_word.proofs.Wraps.{plus_times, times_times}
use Rattle.fixed_kernel.specs.Rounded.{rounded, IsNearestEven}
use Rattle.fixed_kernel.proofs.RoundedLaws.{rounded_is, rounded_unique}
use Rattle.fixed_convert.proofs.Moves.{floor_cancel, floor_exact, floor_of_small, power_split, times_split}

-- ---- a multiple of the divisor

truncated_below : (n d : ℕ) → truncated_quotient (neg_ℤ (pos n)) (pos d) ≡ neg_ℤ (pos (n / d))
truncated_below zero d = omega (arith, ints, zero-div d)
truncated_below (suc n) d = refl

truncated_exact : (q : ℤ) (d : ℕ) → 0 < d → truncated_quotient (q *ℤ pos d) (pos d) ≡ q
truncated_exact (pos a) d h = ap pos (mul-div_cancel a h)
truncated_exact (negsuc a) d h = truncated_below (suc a * d) d ∙ ap (λ (n : ℕ). neg_ℤ (pos n)) (mul-div_cancel (suc a) h)

nearest_exact : (q : ℤ) (d : ℕ) → 0 < d → IsNearestEven (q *ℤ pos d) (pos d) q
nearest_exact q d h = record { near = omega (arith, ints); tie = λ t. absurd (omega (arith, ints)) }

above_zero : (d : ℕ) → 0 < d → pos d ≢ pos 0
above_zero d h = λ e. omega (arith, ints)

pub rounded_exact : (q : ℤ) (d : ℕ) (r : Rounding) → 0 < d → rounded (q *ℤ pos d) (pos d) r ≡ q
rounded_exact q d Down h = floor_exact q d h
rounded_exact q d Zero h = truncated_exact q d h
rounded_exact q d Even h = rounded_unique (q *ℤ pos d) (pos d) q Even (above_zero d h) (nearest_exact q d h)

pub rounded_up : (a : ℤ) (f g : ℕ) (r : Rounding) → f ≤ g → rounded (a *ℤ pos (2 ^ g)) (pos (2 ^ f)) r ≡ a *ℤ pos (2 ^ (g - f))
rounded_up a f g r l = ap (λ (x : ℤ). rounded x (pos (2 ^ f)) r) (times_split a f g l) ∙ rounded_exact (a *ℤ pos (2 ^ (g - f))) (2 ^ f) r (pow_pos f)

-- ---- a factor of both

truncated_cancel : (x : ℤ) (d c : ℕ) → 0 < c → truncated_quotient (x *ℤ pos c) (pos (d * c)) ≡ truncated_quotient x (pos d)
truncated_cancel (pos a) d c h = ap pos (mul-div-mul_right a d h)
truncated_cancel (negsuc a) d c h = truncated_below (suc a * c) (d * c) ∙ ap (λ (n : ℕ). neg_ℤ (pos n)) (mul-div-mul_right (suc a) d h)

times_cancel : (a d c : ℕ) → 0 < c → a ≤ d → a * c ≡ d * c → a ≡ d
times_cancel a d c h l e = elim (cases_lt a d) [
  | inl less ↦ let m = mul-le (suc a) c d c (omega arith) (omega arith) in absurd (omega arith)
  | inr more ↦ omega arith
]

nearest_cancel : (x q : ℤ) (d c : ℕ) → 0 < c → IsNearestEven x (pos d) q → IsNearestEven (x *ℤ pos c) (pos (d * c)) q
nearest_cancel x q d c h n =
    let y = x -ℤ q *ℤ pos d in
    let s : x ≡ y +ℤ q *ℤ pos d = omega (arith, ints) in
    let e = ap (λ (z : ℤ). z *ℤ pos c) s ∙ plus_times y (q *ℤ pos d) c in
    let f = times_times q d c in
    let g : nat_abs (x *ℤ pos c -ℤ q *ℤ pos (d * c)) ≡ nat_abs (y *ℤ pos c) = omega (arith, ints) in
    let a : nat_abs (y *ℤ pos c) ≡ nat_abs y * c = unsigned_abs-mul y (pos c) in
    let m = mul-le (2 * nat_abs y) c d c n.near (omega arith) in
    record {
      near = omega arith;
      tie = λ t. n.tie (times_cancel (2 * nat_abs y) d c h n.near (omega arith));
    }

rounded_cancel : (x : ℤ) (d c : ℕ) (r : Rounding) → 0 < d → 0 < c → 0 < d * c → rounded (x *ℤ pos c) (pos (d * c)) r ≡ rounded x (pos d) r
rounded_cancel x d c Down h k m = floor_cancel x d c h k m
rounded_cancel x d c Zero h k m = truncated_cancel x d c k
rounded_cancel x d c Even h k m = rounded_unique (x *ℤ pos c) (pos (d * c)) (rounded x (pos d) Even) Even (above_zero (d * c) m) (nearest_cancel x (rounded x (pos d) Even) d c k (rounded_is x (pos d) Even (above_zero d h)))

pub rounded_down : (a : ℤ) (f g : ℕ) (r : Rounding) → g ≤ f → rounded (a *ℤ pos (2 ^ g)) (pos (2 ^ f)) r ≡ rounded a (pos (2 ^ (f - g))) r
rounded_down a f g r l =
    let p = power_split g f l in
    let b : 0 < 2 ^ (f - g) * 2 ^ g = rw p (pow_pos f) in
    ap (λ (d : ℕ). rounded (a *ℤ pos (2 ^ g)) (pos d) r) (sym p) ∙ rounded_cancel a (2 ^ (f - g)) (2 ^ g) r (pow_pos (f - g)) (pow_pos g) b

-- ---- far down

truncated_small : (x : ℤ) (d : ℕ) → nat_abs x < d → truncated_quotient x (pos d) ≡ pos 0
truncated_small (pos a) d l = let b : a < d = omega (arith, ints) in ap pos (div-eq_of_lt b)
truncated_small (negsuc a) d l = let b : suc a < d = omega (arith, ints) in ap (λ (n : ℕ). neg_ℤ (pos n)) (div-eq_of_lt b)

nearest_small : (x : ℤ) (d : ℕ) → 0 < d → 2 * nat_abs x ≤ d → rounded x (pos d) Even ≡ pos 0
nearest_small x d h l =
    let z : pos 0 *ℤ pos d ≡ pos 0 = omega (arith, ints) in
    rounded_unique x (pos d) (pos 0) Even (above_zero d h) (record { near = omega (arith, ints); tie = λ t. refl })

rounded_small : (x : ℤ) (d e : ℕ) (r : Rounding) → 2 * nat_abs x < d → d ≤ e → rounded x (pos d) r ≡ rounded x (pos e) r
rounded_small x d e Down l h = floor_of_small x d e (omega arith) h
rounded_small x d e Zero l h = truncated_small x d (omega arith) ∙ sym (truncated_small x e (omega arith))
rounded_small x d e Even l h = nearest_small x d (omega arith) (omega arith) ∙ sym (nearest_small x e (omega arith) (omega arith))

pub rounded_at_most : (x : ℤ) (k m : ℕ) (r : Rounding) → nat_abs x < 2 ^ 64 → (k ≤ 66 → m ≡ k) → (66 ≤ k → m ≡ 66) → rounded x (pos (2 ^ m)) r ≡ rounded x (pos (2 ^ k)) r
rounded_at_most x k m r l same most = elim (cases_lt 66 k) [
  | inl far ↦
      let h : 66 ≤ k = omega arith in
      let p = pow-le-pow_right {n = 2} (omega arith) {i = 66} {j = k} h in
      ap (λ (n : ℕ). rounded x (pos (2 ^ n)) r) (most h) ∙ rounded_small x (2 ^ 66) (2 ^ k) r (omega arith) p
  | inr near ↦ ap (λ (n : ℕ). rounded x (pos (2 ^ n)) r) (same (omega arith))
]
