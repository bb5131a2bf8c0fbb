-- Numbers over and times powers of two, of which one takes away the other.
use Rattle.std.proofs.Common.{◌≡◌, ◌+◌, ◌-◌, ◌*◌, ◌^◌, ◌<◌, ◌≤◌, ◌≤ℤ◌, ◌<ℤ◌, ◌+ℤ◌, ◌*ℤ◌, ℕ, ℤ, suc, pos, negsuc, nat_abs, ap, sym, ◌∙◌, arith, inl, inr}
use Rattle.std.proofs.lemmas.Int.{ints}
use Rattle.std.proofs.lemmas.Bool.{cases_lt}
use Rattle.std.proofs.lemmas.Nat.{mul-le, pow-add, pow_pos}
use Rattle.std.proofs.Math.Nat.{div-eq_of_lt, pow-le-pow_right}
use Rattle.fixed_word.specs.Quotient.{floor_quotient}
use Rattle.fixed_word.proofs.QuotientLaws.{floor_quotient_is, floor_quotient_unique}
use Rattle.fixed_word.proofs.Wraps.{suc_times, times_times}

-- ---- exact

-- a multiple of d over d
pub floor_exact : (q : ℤ) (d : ℕ) → 0 < d → floor_quotient (q *ℤ pos d) d ≡ q
floor_exact q d h =
    let s = suc_times q d in
    floor_quotient_unique (q *ℤ pos d) q d h (record { below = omega (arith, ints); above = omega (arith, ints) })

-- a / 2 ^ f in units of 2 ^ -g, where these are the smaller units
pub power_split : (f g : ℕ) → f ≤ g → 2 ^ (g - f) * 2 ^ f ≡ 2 ^ g
power_split f g l =
    let e : g - f + f ≡ g = omega arith in
    sym (pow-add 2 (g - f) f) ∙ ap (λ (n : ℕ). 2 ^ n) e

pub times_split : (a : ℤ) (f g : ℕ) → f ≤ g → a *ℤ pos (2 ^ g) ≡ (a *ℤ pos (2 ^ (g - f))) *ℤ pos (2 ^ f)
times_split a f g l = ap (λ (n : ℕ). a *ℤ pos n) (sym (power_split f g l)) ∙ sym (times_times a (2 ^ (g - f)) (2 ^ f))

pub floor_up : (a : ℤ) (f g : ℕ) → f ≤ g → floor_quotient (a *ℤ pos (2 ^ g)) (2 ^ f) ≡ a *ℤ pos (2 ^ (g - f))
floor_up a f g l = ap (λ (x : ℤ). floor_quotient x (2 ^ f)) (times_split a f g l) ∙ floor_exact (a *ℤ pos (2 ^ (g - f))) (2 ^ f) (pow_pos f)

-- ---- the same over the same

pub times_le : (a b : ℤ) (c : ℕ) → a ≤ℤ b → (a *ℤ pos c) ≤ℤ (b *ℤ pos c)
times_le (pos a) (pos b) c h = let m = mul-le a c b c (omega (arith, ints)) (omega arith) in omega (arith, ints)
times_le (negsuc a) (pos b) c h = omega (arith, ints)
times_le (negsuc a) (negsuc b) c h = let m = mul-le (suc b) c (suc a) c (omega (arith, ints)) (omega arith) in omega (arith, ints)
times_le (pos a) (negsuc b) c h = absurd (omega (arith, ints))

pub times_lt : (a b : ℤ) (c : ℕ) → 0 < c → a <ℤ b → (a *ℤ pos c) <ℤ (b *ℤ pos c)
times_lt a b c h l =
    let m = times_le (a +ℤ pos 1) b c (omega (arith, ints)) in
    let s = suc_times a c in
    omega (arith, ints)

pub floor_cancel : (x : ℤ) (d c : ℕ) → 0 < d → 0 < c → 0 < d * c → floor_quotient (x *ℤ pos c) (d * c) ≡ floor_quotient x d
floor_cancel x d c h k m =
    let q = floor_quotient x d in
    let i = floor_quotient_is x d h in
    let l = times_le (q *ℤ pos d) x c i.below in
    let u = times_lt x ((q +ℤ pos 1) *ℤ pos d) c k i.above in
    let e = times_times q d c in
    let f = times_times (q +ℤ pos 1) d c in
    floor_quotient_unique (x *ℤ pos c) q (d * c) m (record { below = omega (arith, ints); above = omega (arith, ints) })

pub floor_down : (a : ℤ) (f g : ℕ) → g ≤ f → floor_quotient (a *ℤ pos (2 ^ g)) (2 ^ f) ≡ floor_quotient a (2 ^ (f - g))
floor_down a f g l =
    let p = power_split g f l in
    let b : 0 < 2 ^ (f - g) * 2 ^ g = rw p (pow_pos f) in
    ap (λ (d : ℕ). floor_quotient (a *ℤ pos (2 ^ g)) d) (sym p) ∙ floor_cancel a (2 ^ (f - g)) (2 ^ g) (pow_pos (f - g)) (pow_pos g) b

-- ---- far down

-- over a power past it, a number leaves its sign alone
pub floor_of_small : (x : ℤ) (d e : ℕ) → nat_abs x < d → d ≤ e → floor_quotient x d ≡ floor_quotient x e
floor_of_small (pos a) d e l h =
    let b : a < d = omega (arith, ints) in
    let c : a < e = omega arith in
    ap pos (div-eq_of_lt b ∙ sym (div-eq_of_lt c))
floor_of_small (negsuc a) d e l h =
    let b : a < d = omega (arith, ints) in
    let c : a < e = omega arith in
    ap (λ (n : ℕ). negsuc n) (div-eq_of_lt b ∙ sym (div-eq_of_lt c))

pub floor_far : (x : ℤ) (k : ℕ) → nat_abs x < 2 ^ 64 → 66 ≤ k → floor_quotient x (2 ^ 66) ≡ floor_quotient x (2 ^ k)
floor_far x k l h =
    let p = pow-le-pow_right {n = 2} (omega arith) {i = 66} {j = k} h in
    floor_of_small x (2 ^ 66) (2 ^ k) (omega arith) p

pub floor_at_most : (x : ℤ) (k m : ℕ) → nat_abs x < 2 ^ 64 → (k ≤ 66 → m ≡ k) → (66 ≤ k → m ≡ 66) → floor_quotient x (2 ^ m) ≡ floor_quotient x (2 ^ k)
floor_at_most x k m l same most = elim (cases_lt 66 k) [
  | inl far ↦ ap (λ (n : ℕ). floor_quotient x (2 ^ n)) (most (omega arith)) ∙ floor_far x k l (omega arith)
  | inr near ↦ ap (λ (n : ℕ). floor_quotient x (2 ^ n)) (same (omega arith))
]

-- a multiple beside a number of 64 bits
pub floor_near : (x : ℤ) (d : ℕ) → 0 < d → ((floor_quotient x d *ℤ pos d) ≤ℤ x) × (x <ℤ (floor_quotient x d *ℤ pos d +ℤ pos d))
floor_near x d h =
    let i = floor_quotient_is x d h in
    let a = i.below in
    let b = i.above in
    let s = suc_times (floor_quotient x d) d in
    (a, omega (arith, ints))
