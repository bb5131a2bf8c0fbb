-- Which texts are read back: of magnitudes m / d, at t = 10 ^ p.
use Rattle.std.proofs.Common.{◌≡◌, ◌⊎◌, ◌+◌, ◌-◌, ◌*◌, ◌/◌, ◌%◌, ◌^◌, ◌<◌, ◌≤◌, ℕ, zero, suc, Bool, true, false, pos, nat_le, min, if◌then◌else◌, refl, sym, ap, ◌∙◌, mul_assoc, add-zero, zero-add, pow-suc, inl, inr, arith}
use Rattle.std.proofs.lemmas.Int.{ints}
use Rattle.std.proofs.lemmas.Bool.{cases_lt}
use Rattle.std.proofs.lemmas.Bool.Decides.{nat_tests}
use Rattle.std.proofs.lemmas.Nat.{div-add-mod', mod_below, mul-le, mul-mod_first, mod-mul-add}
use Rattle.fixed_word.specs.declared.rounding.Rounding.TheVariants.{Even}
use Rattle.fixed_kernel.specs.Rounded.{nearest}
use Rattle.fixed_decimal.specs.inside.Close.{IsClose, off}
use Rattle.fixed_kernel.proofs.ToNearest.{IsNear, nearest_is}
use Rattle.fixed_kernel.proofs.RoundedLaws.{rounded_unique}

pub near_unique : (a d n : ℕ) → 0 < d → IsNear a d n → nearest a d ≡ n
near_unique a d n h i =
    let b = i.below in
    let c = i.above in
    let e : pos (nearest a d) ≡ pos n = rounded_unique (pos a) (pos d) (pos n) Even (λ z. omega (arith, ints)) (record {
      near = omega (arith, ints);
      tie = λ t. elim (cases_lt (n * d) a) [
        | inl less ↦ i.tie_below (omega (arith, ints))
        | inr more ↦ i.tie_above (omega (arith, ints))
      ];
    }) in
    omega (arith, ints)

-- how far the nearest multiple lies
near_step : (q r d : ℕ) (b : Bool) → r < d → nat_le (2 * r + q % 2) d ≡ b → ((if b then q else suc q) * d ≤ q * d + r) × (q * d + r ≡ (if b then q else suc q) * d + min r (d - r)) ⊎ ((q * d + r < (if b then q else suc q) * d) × ((if b then q else suc q) * d ≡ q * d + r + min r (d - r)))
near_step q r d true l e = let c : 2 * r + q % 2 ≤ d = grind (arith, nat_tests) in inl (omega arith, omega arith)
near_step q r d false l e =
    let c : d < 2 * r + q % 2 = grind (arith, nat_tests) in
    let s : suc q * d ≡ q * d + d = omega arith in
    inr (omega arith, omega arith)

pub distance : (a d : ℕ) → 0 < d → (a ≡ nearest a d * d + min (a % d) (d - a % d)) ⊎ (nearest a d * d ≡ a + min (a % d) (d - a % d))
distance a d h =
    let s = div-add-mod' a d in
    elim (near_step (a / d) (a % d) d (nat_le (2 * (a % d) + a / d % 2) d) (mod_below a d h) refl) [
      | inl low ↦ inl (omega (arith, low.1))
      | inr high ↦ inr (omega (arith, high.1))
    ]

abbrev pub Backs : ℕ → ℕ → ℕ → Type 0
Backs m t d = nearest (nearest (m * t) d * d) t ≡ m

pub backs_from_close : (m t d : ℕ) → 0 < t → 0 < d → IsClose m t d → Backs m t d
backs_from_close m t d ht hd (inl less) = elim (distance (m * t) d hd) [
  | inl low ↦ near_unique (nearest (m * t) d * d) t m ht (record { below = omega arith; above = omega arith; tie_below = λ e. absurd (omega arith); tie_above = λ e. absurd (omega arith) })
  | inr high ↦ near_unique (nearest (m * t) d * d) t m ht (record { below = omega arith; above = omega arith; tie_below = λ e. absurd (omega arith); tie_above = λ e. absurd (omega arith) })
]
backs_from_close m t d ht hd (inr tie) =
    let e = tie.0 in
    elim (distance (m * t) d hd) [
      | inl low ↦ near_unique (nearest (m * t) d * d) t m ht (record { below = omega arith; above = omega arith; tie_below = λ _. tie.1; tie_above = λ _. tie.1 })
      | inr high ↦ near_unique (nearest (m * t) d * d) t m ht (record { below = omega arith; above = omega arith; tie_below = λ _. tie.1; tie_above = λ _. tie.1 })
    ]

pub close_cases : (o t m : ℕ) → 2 * o ≤ t → (2 * o ≡ t → m % 2 ≡ 0) → (2 * o < t) ⊎ ((2 * o ≡ t) × (m % 2 ≡ 0))
close_cases o t m h tie = elim (cases_lt (2 * o) t) [
  | inl less ↦ inl less
  | inr more ↦ let e : 2 * o ≡ t = omega arith in inr (e, tie e)
]

pub close_from_backs : (m t d : ℕ) → 0 < t → 0 < d → Backs m t d → IsClose m t d
close_from_backs m t d ht hd e =
    let n = nearest_is (nearest (m * t) d * d) t ht in
    let near : IsNear (nearest (m * t) d * d) t m = rw e at n in
    let b = near.below in
    let c = near.above in
    elim (distance (m * t) d hd) [
      | inl low ↦ close_cases (off m t d) t m (omega arith) (λ h. near.tie_above (omega arith))
      | inr high ↦ close_cases (off m t d) t m (omega arith) (λ h. near.tie_below (omega arith))
    ]

-- with one digit more there is as close a text
off_more : (x d : ℕ) → 0 < d → min ((x * 10) % d) (d - (x * 10) % d) ≤ 10 * min (x % d) (d - x % d)
off_more x d h =
    let s = div-add-mod' (x % d * 10) d in
    let b = mod_below x d h in
    let c = mod_below (x % d * 10) d h in
    let e : (x % d * 10) % d ≡ (x * 10) % d = mul-mod_first x 10 d in
    let k : x % d * 10 / d ≤ 9 = small (x % d * 10 / d) d (x % d * 10) (omega arith) (omega arith) in
    let m = mul-le (x % d * 10 / d) d 9 d k (omega arith) in
    omega arith
  where
    small : (k d y : ℕ) → k * d ≤ y → y < 10 * d → k ≤ 9
    small k d y a b = elim (cases_lt k 10) [
      | inl less ↦ omega arith
      | inr more ↦ let m = mul-le 10 d k d more (omega arith) in absurd (omega arith)
    ]

pub close_more : (m t d : ℕ) → 0 < d → IsClose m t d → IsClose m (t * 10) d
close_more m t d hd c =
    let e : m * (t * 10) ≡ m * t * 10 = sym (mul_assoc m t 10) in
    let o : off m (t * 10) d ≤ 10 * off m t d = rw e (off_more (m * t) d hd) in
    elim c [
      | inl less ↦ inl (omega arith)
      | inr tie ↦ let u = tie.0 in close_cases (off m (t * 10) d) (t * 10) m (omega arith) (λ _. tie.1)
    ]

-- with units no larger than those of the number each number has one
pub close_enough : (m t d : ℕ) → 0 < d → d ≤ t → IsClose m t d
close_enough m t d hd h =
    let b = mod_below (m * t) d hd in
    elim (cases_lt d t) [
      | inl less ↦ inl (omega arith)
      | inr same ↦
          let e : t ≡ d = omega arith in
          let z : (m * t) % d ≡ 0 = ap (λ x. (m * x) % d) e ∙ ap (λ x. x % d) (sym (add-zero (m * d))) ∙ mod-mul-add m d 0 hd in
          inl (omega arith)
    ]

-- all digits counts from some that is close
pub close_from : (m d p k : ℕ) → 0 < d → IsClose m (10 ^ p) d → IsClose m (10 ^ (k + p)) d
close_from m d p zero hd c = rw (zero-add p) c
close_from m d p (suc k) hd c =
    let e : 10 ^ (suc k + p) ≡ 10 ^ (k + p) * 10 = ap (λ n. 10 ^ n) (omega arith) ∙ pow-suc 10 (k + p) in
    rw e (close_more m (10 ^ (k + p)) d hd (close_from m d p k hd c))
