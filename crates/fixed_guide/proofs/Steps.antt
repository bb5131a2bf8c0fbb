-- A step of a filter stays between its level and its sample.
use Rattle.std.proofs.Common.{◌≡◌, ◌*◌, ◌/◌, ◌<◌, ◌≤◌, ◌^◌, ◌≤ℤ◌, ◌+ℤ◌, ◌-ℤ◌, ◌*ℤ◌, ℕ, ℤ, zero, suc, Some, lit<, pos, negsuc, neg_ℤ, true, refl, inl, inr, mul-le-mul_left, arith}
use Rattle.std.proofs.lemmas.Int.{ints}
use Rattle.std.proofs.Math.Nat.{div-le_of_le-mul, div-lt_iff_lt-mul}
use Rattle.fixed_word.specs.Format.{InRange, clamp}
use Rattle.fixed_word.specs.Quotient.{floor_quotient}
use Rattle.fixed_word.proofs.Nearest.{cases_int, clamp_above, clamp_below, places}
use Rattle.fixed_word.proofs.Standings.{clamp_same}
use Rattle.fixed_guide.specs.Between.{IsBetween}

-- ---- the part of a distance lies between 0 and the distance
part_of_natural : (a k m : ℕ) → k ≤ m → a * k / m ≤ a
part_of_natural a k m l =
    let p = mul-le-mul_left a l in
    div-le_of_le-mul m (omega (arith, p))

part_below : (a b k m : ℕ) → 0 < m → k ≤ m → suc b ≡ suc a * k → b / m ≤ a
part_below a b k m p l e =
    let q = mul-le-mul_left (suc a) l in
    let h : b / m < suc a = (div-lt_iff_lt-mul p).1 (omega arith) in
    omega arith

part_of_negative : (a k m c : ℕ) → 0 < m → k ≤ m → c ≡ suc a * k → IsBetween (pos 0) (negsuc a) (floor_quotient (neg_ℤ (pos c)) m)
part_of_negative a k m zero p l e = let h : 0 / m ≤ 0 = div-le_of_le-mul m (omega arith) in inr (omega (arith, ints), omega (arith, ints))
part_of_negative a k m (suc b) p l e = let h = part_below a b k m p l e in inr (omega (arith, ints), omega (arith, ints))

part_between : (d : ℤ) (k m : ℕ) → 0 < m → k ≤ m → IsBetween (pos 0) d (floor_quotient (d *ℤ pos k) m)
part_between (pos a) k m p l = let h = part_of_natural a k m l in inl (omega (arith, ints), omega (arith, ints))
part_between (negsuc a) k m p l = part_of_negative a k m (suc a * k) p l refl

-- ---- a difference that is held at the ends lies between 0 and the difference
held_between : (x : ℤ) → IsBetween (pos 0) x (clamp true 32 x)
held_between x = elim (places true 32 x) [
  | inl below ↦ rw (clamp_below true 32 x below) (inr (omega (arith, ints), omega (arith, ints)))
  | inr rest ↦ elim rest [
    | inl above ↦ rw (clamp_above true 32 x above) (inl (omega (arith, ints), omega (arith, ints)))
    | inr within ↦ rw (clamp_same true 32 x within) (elim (cases_int x (pos 0)) [
      | inl low ↦ inr (omega (arith, ints), omega (arith, ints))
      | inr high ↦ inl (omega (arith, ints), omega (arith, ints))
    ])
  ]
]

-- ---- the step
between_ends : (l s d q : ℤ) → IsBetween (pos 0) (s -ℤ l) d → IsBetween (pos 0) d q → IsBetween l s (q +ℤ l)
between_ends l s d q h g = elim h [
  | inl up ↦ elim g [
    | inl more ↦ inl (omega (arith, ints), omega (arith, ints))
    | inr less ↦ inl (omega (arith, ints), omega (arith, ints))
  ]
  | inr down ↦ elim g [
    | inl more ↦ inr (omega (arith, ints), omega (arith, ints))
    | inr less ↦ inr (omega (arith, ints), omega (arith, ints))
  ]
]

between_fits : (l s x : ℤ) → InRange true 32 l → InRange true 32 s → IsBetween l s x → InRange true 32 x
between_fits l s x in_l in_s h = elim h [
  | inl up ↦ (omega (arith, ints), omega (arith, ints))
  | inr down ↦ (omega (arith, ints), omega (arith, ints))
]

no_overshoot : (l s d r : ℤ) (k m : ℕ) → 0 < m → k ≤ m → InRange true 32 l → InRange true 32 s → d ≡ clamp true 32 (s -ℤ l) → r ≡ clamp true 32 (floor_quotient (d *ℤ pos k) m +ℤ l) → IsBetween l s r
no_overshoot l s d r k m p h in_l in_s e f =
    let x = floor_quotient (d *ℤ pos k) m +ℤ l in
    let held : IsBetween (pos 0) (s -ℤ l) d = rw e (held_between (s -ℤ l)) in
    let step : IsBetween l s x = between_ends l s d (floor_quotient (d *ℤ pos k) m) held (part_between d k m p h) in
    rw (f, clamp_same true 32 x (between_fits l s x in_l in_s step)) step

pub level_between : (l s d r g : ℤ) → pos 0 ≤ℤ g → g ≤ℤ pos (2 ^ 30) → InRange true 32 l → InRange true 32 s → Some d ≡ Some (clamp true 32 (s -ℤ l)) → Some r ≡ Some (clamp true 32 (floor_quotient (d *ℤ g) (2 ^ 30) +ℤ l)) → IsBetween l s r
level_between l s d r (pos k) low high in_l in_s e f =
    let held : d ≡ clamp true 32 (s -ℤ l) = cc in
    let moved : r ≡ clamp true 32 (floor_quotient (d *ℤ pos k) (2 ^ 30) +ℤ l) = cc in
    no_overshoot l s d r k (2 ^ 30) (lit< tt) (omega (arith, ints)) in_l in_s held moved
level_between l s d r (negsuc k) low high in_l in_s e f = absurd (omega (arith, ints))
