-- The rounded quotients meet their equations, and nothing else does.
use Rattle.std.proofs.Common.{◌≡◌, ◌≢◌, ◌+◌, ◌*◌, ◌%◌, ◌<◌, ◌≤◌, ◌≤ℤ◌, ◌+ℤ◌, ◌*ℤ◌, ℕ, ℤ, zero, suc, pos, negsuc, neg_ℤ, nat_abs, refl, arith, inl, inr}
use Rattle.std.proofs.lemmas.Int.{ints}
use Rattle.std.proofs.lemmas.Bool.{cases_lt}
use Rattle.fixed_word.specs.Quotient.{truncated_quotient}
use Rattle.fixed_word.proofs.QuotientLaws.{floor_quotient_is, floor_quotient_unique, times_le, truncated_quotient_is, trunc_unique}
use Rattle.fixed_word.proofs.Wraps.{neg-times, suc_times}
use Rattle.fixed_word.proofs.Nearest.{cases_int}
use Rattle.fixed_word.specs.declared.rounding.Rounding.{Rounding}
use Rattle.fixed_word.specs.declared.rounding.Rounding.TheVariants.{Down, Zero, Even}
use Rattle.fixed_kernel.specs.Rounded.{nearest, nearest_quotient, rounded, IsNearestEven, IsRounded}
use Rattle.fixed_kernel.proofs.ToNearest.{nearest_is}

pub nearest_quotient_is : (x : ℤ) (d : ℕ) → 0 < d → IsNearestEven x (pos d) (nearest_quotient x d)
nearest_quotient_is (pos a) d h =
    let n = nearest_is a d h in
    let b = n.below in
    let c = n.above in
    record {
      near = omega (arith, ints);
      tie = λ t. elim (cases_lt (nearest a d * d) a) [
        | inl less ↦ n.tie_below (omega (arith, ints))
        | inr more ↦ n.tie_above (omega (arith, ints))
      ];
    }
nearest_quotient_is (negsuc a) d h =
    let n = nearest_is (suc a) d h in
    let b = n.below in
    let c = n.above in
    let e = neg-times (nearest (suc a) d) d in
    let s : nat_abs (neg_ℤ (pos (nearest (suc a) d))) ≡ nearest (suc a) d = omega (arith, ints) in
    record {
      near = omega (arith, ints);
      tie = λ t. rw s (elim (cases_lt (nearest (suc a) d * d) (suc a)) [
        | inl less ↦ n.tie_below (omega (arith, ints))
        | inr more ↦ n.tie_above (omega (arith, ints))
      ]);
    }

-- a divisor below 0 in place of one above it
times_turned : (q : ℤ) (d : ℕ) → q *ℤ negsuc d ≡ neg_ℤ (q *ℤ pos (suc d))
times_turned (pos zero) d = omega (arith, ints)
times_turned (pos (suc a)) d = refl
times_turned (negsuc a) d = omega (arith, ints)

turned_is : (x q : ℤ) (d : ℕ) → IsNearestEven (neg_ℤ x) (pos (suc d)) q → IsNearestEven x (negsuc d) q
turned_is x q d n =
    let e = times_turned q d in
    let b = n.near in
    record { near = omega (arith, ints); tie = λ t. n.tie (omega (arith, ints)) }

turned_back : (x q : ℤ) (d : ℕ) → IsNearestEven x (negsuc d) q → IsNearestEven (neg_ℤ x) (pos (suc d)) q
turned_back x q d n =
    let e = times_turned q d in
    let b = n.near in
    record { near = omega (arith, ints); tie = λ t. n.tie (omega (arith, ints)) }

-- of two whole numbers side by side one is odd
one_is_odd : (q : ℤ) → nat_abs q % 2 ≡ 0 → nat_abs (q +ℤ pos 1) % 2 ≡ 0 → ⊥
one_is_odd (pos a) h k = omega (arith, ints)
one_is_odd (negsuc a) h k = omega (arith, ints)

nearest_le : (x p q : ℤ) (d : ℕ) → 0 < d → IsNearestEven x (pos d) p → IsNearestEven x (pos d) q → p ≤ℤ q
nearest_le x p q d h m n =
    let a = m.near in
    let b = n.near in
    let s = suc_times q d in
    elim (cases_int q p) [
      | inl less ↦
          let t = times_le (q +ℤ pos 1) p d (omega (arith, ints)) in
          let u = m.tie (omega (arith, ints)) in
          let v = n.tie (omega (arith, ints)) in
          elim (cases_int (q +ℤ pos 1) p) [
            | inl far ↦
                let w = times_le ((q +ℤ pos 1) +ℤ pos 1) p d (omega (arith, ints)) in
                let y = suc_times (q +ℤ pos 1) d in
                absurd (omega (arith, ints))
            | inr next ↦
                let e : p ≡ q +ℤ pos 1 = omega (arith, ints) in
                absurd (one_is_odd q v (rw e at u))
          ]
      | inr fine ↦ fine
    ]

nearest_unique : (x p q : ℤ) (d : ℕ) → 0 < d → IsNearestEven x (pos d) p → IsNearestEven x (pos d) q → p ≡ q
nearest_unique x p q d h m n =
    let a = nearest_le x p q d h m n in
    let b = nearest_le x q p d h n m in
    omega (arith, ints)

-- ---- every rounding

pub rounded_is : (x d : ℤ) (r : Rounding) → d ≢ pos 0 → IsRounded x d r (rounded x d r)
rounded_is x (pos zero) r h = absurd (h refl)
rounded_is x (pos (suc d)) Down h = floor_quotient_is x (suc d) (omega arith)
rounded_is x (negsuc d) Down h = floor_quotient_is (neg_ℤ x) (suc d) (omega arith)
rounded_is x (pos (suc d)) Zero h = truncated_quotient_is x (pos (suc d)) h
rounded_is x (negsuc d) Zero h = truncated_quotient_is x (negsuc d) h
rounded_is x (pos (suc d)) Even h = nearest_quotient_is x (suc d) (omega arith)
rounded_is x (negsuc d) Even h = turned_is x (nearest_quotient (neg_ℤ x) (suc d)) d (nearest_quotient_is (neg_ℤ x) (suc d) (omega arith))

pub rounded_unique : (x d q : ℤ) (r : Rounding) → d ≢ pos 0 → IsRounded x d r q → rounded x d r ≡ q
rounded_unique x (pos zero) q r h i = absurd (h refl)
rounded_unique x (pos (suc d)) q Down h i = floor_quotient_unique x q (suc d) (omega arith) i
rounded_unique x (negsuc d) q Down h i = floor_quotient_unique (neg_ℤ x) q (suc d) (omega arith) i
rounded_unique x (pos (suc d)) q Zero h i = trunc_unique x (pos (suc d)) (truncated_quotient x (pos (suc d))) q (truncated_quotient_is x (pos (suc d)) h) i
rounded_unique x (negsuc d) q Zero h i = trunc_unique x (negsuc d) (truncated_quotient x (negsuc d)) q (truncated_quotient_is x (negsuc d) h) i
rounded_unique x (pos (suc d)) q Even h i = nearest_unique x (nearest_quotient x (suc d)) q (suc d) (omega arith) (nearest_quotient_is x (suc d) (omega arith)) i
rounded_unique x (negsuc d) q Even h i = nearest_unique (neg_ℤ x) (nearest_quotient (neg_ℤ x) (suc d)) q (suc d) (omega arith) (nearest_quotient_is (neg_ℤ x) (suc d) (omega arith)) (turned_back x q d i)
