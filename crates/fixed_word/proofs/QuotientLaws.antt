-- The computed quotients meet their equations, and nothing else does.
use Rattle.std.proofs.Common.{◌≡◌, ◌≢◌, ◌⊎◌, ◌+◌, ◌*◌, ◌/◌, ◌<◌, ◌≤◌, ◌≤ℤ◌, ◌+ℤ◌, ◌*ℤ◌, ℕ, ℤ, zero, suc, pos, negsuc, neg_ℤ, nat_abs, refl, ap, sym, ◌∙◌, arith, inl, inr}
use Rattle.std.proofs.lemmas.Int.{ints}
use Rattle.std.proofs.lemmas.Nat.{div-add-mod', mod_below, mul-le}
use borrow.Author.Differences.{up, down}
use Rattle.std.proofs.lemmas.Bool.{cases_lt}
use Rattle.fixed_word.specs.Quotient.{floor_quotient, truncated_quotient, euclidean_quotient, euclidean_remainder, IsFloor, IsTruncated, IsEuclidean}
use Rattle.fixed_word.proofs.Wraps.{suc_times}

pub floor_quotient_is : (x : ℤ) (d : ℕ) → 0 < d → IsFloor x d (floor_quotient x d)
floor_quotient_is (pos a) d h =
    let e = div-add-mod' a d in
    let b = mod_below a d h in
    record { below = omega (arith, ints); above = omega (arith, ints) }
floor_quotient_is (negsuc a) d h =
    let e = div-add-mod' a d in
    let b = mod_below a d h in
    record { below = omega (arith, ints); above = omega (arith, ints, suc_times (negsuc (a / d)) d) }

pub times_le : (a b : ℤ) (d : ℕ) → a ≤ℤ b → (a *ℤ pos d) ≤ℤ (b *ℤ pos d)
times_le a b d h =
    let u : up a + down b ≤ up b + down a = omega (arith, ints) in
    let r : d ≤ d = omega arith in
    omega (arith, ints, mul-le (up a + down b) d (up b + down a) d u r)

-- two quotients that are rounded down are one
floor_le : (x p q : ℤ) (d : ℕ) → IsFloor x d p → IsFloor x d q → p ≤ℤ q
floor_le x p q d f g =
    let low = f.below in
    let high = g.above in
    elim (cases_lt (up q + down p) (up p + down q)) [
      | inl less ↦
          let s : (q +ℤ pos 1) ≤ℤ p = omega (arith, ints) in
          let t = times_le (q +ℤ pos 1) p d s in
          absurd (omega (arith, ints))
      | inr fine ↦ omega (arith, ints)
    ]

pub floor_unique : (x p q : ℤ) (d : ℕ) → IsFloor x d p → IsFloor x d q → p ≡ q
floor_unique x p q d f g =
    let a = floor_le x p q d f g in
    let b = floor_le x q p d g f in
    omega (arith, ints)

pub floor_quotient_unique : (x q : ℤ) (d : ℕ) → 0 < d → IsFloor x d q → floor_quotient x d ≡ q
floor_quotient_unique x q d h f = floor_unique x (floor_quotient x d) q d (floor_quotient_is x d h) f

-- ---- the Euclidean pair

neg_neg : (a m : ℕ) → neg_ℤ (pos a) *ℤ negsuc m ≡ pos (a * suc m)
neg_neg zero m = omega (arith, ints)
neg_neg (suc a) m = refl

pub euclidean_is : (x d : ℤ) → d ≢ pos 0 → IsEuclidean x d (euclidean_quotient x d) (euclidean_remainder x d)
euclidean_is (pos a) (pos zero) h = absurd (h refl)
euclidean_is (pos a) (pos (suc b)) h =
    let e = div-add-mod' a (suc b) in
    let m = mod_below a (suc b) (omega arith) in
    record { sum = omega (arith, ints); from_zero = omega (arith, ints); small = omega (arith, ints) }
euclidean_is (pos a) (negsuc b) h =
    let e = div-add-mod' a (suc b) in
    let m = mod_below a (suc b) (omega arith) in
    record { sum = omega (arith, ints, neg_neg (a / suc b) b); from_zero = omega (arith, ints); small = omega (arith, ints) }
euclidean_is (negsuc a) (pos zero) h = absurd (h refl)
euclidean_is (negsuc a) (pos (suc b)) h =
    let e = div-add-mod' a (suc b) in
    let m = mod_below a (suc b) (omega arith) in
    record { sum = omega (arith, ints); from_zero = omega (arith, ints); small = omega (arith, ints) }
euclidean_is (negsuc a) (negsuc b) h =
    let e = div-add-mod' a (suc b) in
    let m = mod_below a (suc b) (omega arith) in
    record { sum = omega (arith, ints); from_zero = omega (arith, ints); small = omega (arith, ints) }

-- one pair meets the equations
euclid_floor : (x q r : ℤ) (d : ℕ) → 0 < d → IsEuclidean x (pos d) q r → IsFloor x d q
euclid_floor x q r d h e =
    let s = e.sum in
    let z = e.from_zero in
    let b = e.small in
    record { below = omega (arith, ints); above = omega (arith, ints, suc_times q d) }

neg_times : (q : ℤ) (d : ℕ) → q *ℤ negsuc d ≡ neg_ℤ q *ℤ pos (suc d)
neg_times (pos zero) d = omega (arith, ints)
neg_times (pos (suc a)) d = refl
neg_times (negsuc a) d = refl

euclid_turned : (x q r : ℤ) (d : ℕ) → IsEuclidean x (negsuc d) q r → IsEuclidean x (pos (suc d)) (neg_ℤ q) r
euclid_turned x q r d e =
    let s = e.sum in
    record { sum = omega (arith, ints, neg_times q d); from_zero = e.from_zero; small = e.small }

euclid_same : (x p q r s : ℤ) (d : ℕ) → 0 < d → IsEuclidean x (pos d) p r → IsEuclidean x (pos d) q s → (p ≡ q) × (r ≡ s)
euclid_same x p q r s d h e f =
    let t : p ≡ q = floor_unique x p q d (euclid_floor x p r d h e) (euclid_floor x q s d h f) in
    let u : p *ℤ pos d ≡ q *ℤ pos d = ap (λ (z : ℤ). z *ℤ pos d) t in
    let v = e.sum in
    let w = f.sum in
    (t, omega (arith, ints))

pub euclid_unique : (x d p q r s : ℤ) → d ≢ pos 0 → IsEuclidean x d p r → IsEuclidean x d q s → (p ≡ q) × (r ≡ s)
euclid_unique x (pos zero) p q r s h e f = absurd (h refl)
euclid_unique x (pos (suc d)) p q r s h e f = euclid_same x p q r s (suc d) (omega arith) e f
euclid_unique x (negsuc d) p q r s h e f =
    let t = euclid_same x (neg_ℤ p) (neg_ℤ q) r s (suc d) (omega arith) (euclid_turned x p r d e) (euclid_turned x q s d f) in
    let u = t.0 in
    (omega (arith, ints), t.1)

-- ---- toward zero

quotient_sign : (a b : ℕ) → 0 < b → (a / b ≡ 0) ⊎ ((0 < a / b) × (0 < a * b))
quotient_sign a b h = elim (cases_lt 0 (a / b)) [
  | inl some ↦
      let e = div-add-mod' a b in
      let one : 1 ≤ b = omega arith in
      let p = mul-le 1 1 (a / b) b (omega arith) one in
      let q : 1 ≤ a = omega arith in
      let r = mul-le 1 1 a b q one in
      inr (some, omega arith)
  | inr none ↦ inl (omega arith)
]

pub truncated_quotient_is : (x d : ℤ) → d ≢ pos 0 → IsTruncated x d (truncated_quotient x d)
truncated_quotient_is (pos a) (pos zero) h = absurd (h refl)
truncated_quotient_is (pos a) (pos (suc b)) h = record {
  size = refl;
  sign = elim (quotient_sign a (suc b) (omega arith)) [
    | inl z ↦ inl (ap pos z)
    | inr s ↦ let p = s.0 in let q = s.1 in inr (inl (omega (arith, ints), omega (arith, ints)))
  ];
}
truncated_quotient_is (pos a) (negsuc b) h = record {
  size = omega (arith, ints);
  sign = elim (quotient_sign a (suc b) (omega arith)) [
    | inl z ↦ inl (omega (arith, ints))
    | inr s ↦ let p = s.0 in let q = s.1 in inr (inr (omega (arith, ints), omega (arith, ints)))
  ];
}
truncated_quotient_is (negsuc a) (pos zero) h = absurd (h refl)
truncated_quotient_is (negsuc a) (pos (suc b)) h = record {
  size = omega (arith, ints);
  sign = elim (quotient_sign (suc a) (suc b) (omega arith)) [
    | inl z ↦ inl (omega (arith, ints))
    | inr s ↦ let p = s.0 in let q = s.1 in inr (inr (omega (arith, ints), omega (arith, ints)))
  ];
}
truncated_quotient_is (negsuc a) (negsuc b) h = record {
  size = refl;
  sign = elim (quotient_sign (suc a) (suc b) (omega arith)) [
    | inl z ↦ inl (ap pos z)
    | inr s ↦ let p = s.0 in let q = s.1 in inr (inl (omega (arith, ints), omega (arith, ints)))
  ];
}

pub trunc_unique : (x d t u : ℤ) → IsTruncated x d t → IsTruncated x d u → t ≡ u
trunc_unique x d t u e f =
    let s : pos (nat_abs t) ≡ pos (nat_abs u) = e.size ∙ sym f.size in
    elim e.sign [
      | inl z ↦ omega (arith, ints)
      | inr g ↦ elim f.sign [
        | inl z ↦ omega (arith, ints)
        | inr k ↦ elim g [
          | inl p ↦ let a = p.0 in let b = p.1 in elim k [
            | inl q ↦ let c = q.0 in omega (arith, ints)
            | inr q ↦ let c = q.1 in absurd (omega (arith, ints))
          ]
          | inr p ↦ let a = p.0 in let b = p.1 in elim k [
            | inl q ↦ let c = q.1 in absurd (omega (arith, ints))
            | inr q ↦ let c = q.0 in omega (arith, ints)
          ]
        ]
      ]
    ]
