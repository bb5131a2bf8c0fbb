-- The least and the greatest product of two ends, and their quotients by a power of two.
use Rattle.std.proofs.Common.{◌≡◌, ◌-◌, ◌*◌, ◌^◌, ◌<◌, ◌≤◌, ◌<ℤ◌, ◌+ℤ◌, ◌*ℤ◌, ℕ, ℤ, Bool, true, false, pos, arith, ap, ◌∙◌, inl}
use Rattle.std.specs.Int.{int_max, int_min}
use Rattle.std.proofs.lemmas.Int.{by_lt_z, clamps, ints}
use Rattle.std.proofs.lemmas.Nat.{mul-le, pow_pos}
use Rattle.std.proofs.Math.Nat.{div-le_self, pow-le-pow_right}
use Rattle.fixed_word.specs.Format.{IsWidth, InRange}
use Rattle.fixed_word.specs.Quotient.{floor_quotient}
use Rattle.fixed_word.proofs.QuotientLaws.{floor_quotient_is}
use Rattle.fixed_word.proofs.Wraps.{double, suc_times, width_pos}
use Rattle.fixed_kernel.specs.inside.Size.{IsProduct}
use Rattle.fixed_kernel.proofs.WholeRoom.{half_square, less_square, square}
use Rattle.fixed_interval.specs.Ends.{Ends, ceiling_over, floor_over, greatest_corner, least_corner, product_of}
use Rattle.fixed_interval.proofs.Lines.{times_le}
use Rattle.fixed_interval.proofs.Rounded.{ceiling_above, ceiling_order, floor_below_ceiling, floor_order}

floor_least : (x y d : ℤ) → pos 0 <ℤ d → floor_over (int_min x y) d ≡ int_min (floor_over x d) (floor_over y d)
floor_least x y d s =
    by_lt_z y x
    (λ l. let e : int_min x y ≡ y = omega (arith, ints, clamps) in let o = floor_order y x d s (omega (arith, ints)) in rw e (omega (arith, ints, clamps)))
    (λ l. let e : int_min x y ≡ x = omega (arith, ints, clamps) in let o = floor_order x y d s l in rw e (omega (arith, ints, clamps)))

ceiling_greatest : (x y d : ℤ) → pos 0 <ℤ d → ceiling_over (int_max x y) d ≡ int_max (ceiling_over x d) (ceiling_over y d)
ceiling_greatest x y d s =
    by_lt_z x y
    (λ l. let e : int_max x y ≡ y = omega (arith, ints, clamps) in let o = ceiling_order x y d s (omega (arith, ints)) in rw e (omega (arith, ints, clamps)))
    (λ l. let e : int_max x y ≡ x = omega (arith, ints, clamps) in let o = ceiling_order y x d s l in rw e (omega (arith, ints, clamps)))

power : (f : ℕ) → pos 0 <ℤ pos (2 ^ f)
power f = omega (arith, ints, pow_pos f)

both : (g : ℤ → ℤ → ℤ) {x y z w : ℤ} → x ≡ z → y ≡ w → g x y ≡ g z w
both g {y = y} {z = z} e h = ap (λ v. g v y) e ∙ ap (λ v. g z v) h

pub low_is : (a b : Ends) (f : ℕ) → floor_quotient (least_corner (λ x y. x *ℤ y) a b) (2 ^ f) ≡ (product_of a b f).low
low_is a b f =
    let d = pos (2 ^ f) in
    floor_least (int_min (a.low *ℤ b.low) (a.low *ℤ b.high)) (int_min (a.high *ℤ b.low) (a.high *ℤ b.high)) d (power f)
    ∙ both int_min (floor_least (a.low *ℤ b.low) (a.low *ℤ b.high) d (power f)) (floor_least (a.high *ℤ b.low) (a.high *ℤ b.high) d (power f))

pub high_is : (a b : Ends) (f : ℕ) → ceiling_over (greatest_corner (λ x y. x *ℤ y) a b) (pos (2 ^ f)) ≡ (product_of a b f).high
high_is a b f =
    let d = pos (2 ^ f) in
    ceiling_greatest (int_max (a.low *ℤ b.low) (a.low *ℤ b.high)) (int_max (a.high *ℤ b.low) (a.high *ℤ b.high)) d (power f)
    ∙ both int_max (ceiling_greatest (a.low *ℤ b.low) (a.low *ℤ b.high) d (power f)) (ceiling_greatest (a.high *ℤ b.low) (a.high *ℤ b.high) d (power f))

-- ---- rounding up, by rounding down

pub ceiled_exact : (x : ℤ) (d : ℕ) → 0 < d → floor_quotient x d *ℤ pos d ≡ x → floor_quotient x d ≡ ceiling_over x (pos d)
ceiled_exact x d h e =
    let s : pos 0 <ℤ pos d = omega (arith, ints) in
    let up = (ceiling_above (floor_quotient x d) x (pos d) s).1 (omega (arith, ints)) in
    let down = floor_below_ceiling x (pos d) (inl s) in
    omega (arith, ints)

pub ceiled_past : (x : ℤ) (d : ℕ) → 0 < d → (floor_quotient x d *ℤ pos d ≡ x → ⊥) → floor_quotient x d +ℤ pos 1 ≡ ceiling_over x (pos d)
ceiled_past x d h n =
    let s : pos 0 <ℤ pos d = omega (arith, ints) in
    let f = floor_quotient_is x d h in
    let below = f.below in
    let above = f.above in
    let up = (ceiling_above (floor_quotient x d +ℤ pos 1) x (pos d) s).1 (omega (arith, ints)) in
    by_lt_z (floor_quotient x d) (ceiling_over x (pos d))
    (λ l. omega (arith, ints))
    (λ l. let k = (ceiling_above (floor_quotient x d) x (pos d) s).0 l in absurd (n (omega (arith, ints))))

-- ---- room in the integer

-- the least of two products is one, and so is the greatest
pub least_is_product : (s : Bool) (n : ℕ) (x y : ℤ) → IsProduct s n x → IsProduct s n y → IsProduct s n (int_min x y)
least_is_product s n x y p q =
    by_lt_z y x
    (λ l. let e : int_min x y ≡ y = omega (arith, ints, clamps) in rw e q)
    (λ l. let e : int_min x y ≡ x = omega (arith, ints, clamps) in rw e p)

pub greatest_is_product : (s : Bool) (n : ℕ) (x y : ℤ) → IsProduct s n x → IsProduct s n y → IsProduct s n (int_max x y)
greatest_is_product s n x y p q =
    by_lt_z x y
    (λ l. let e : int_max x y ≡ y = omega (arith, ints, clamps) in rw e q)
    (λ l. let e : int_max x y ≡ x = omega (arith, ints, clamps) in rw e p)

-- a quotient that is rounded down may be brought back
pub back_room : (s t : Bool) (n m f : ℕ) (x : ℤ) → t ≡ s → IsWidth n → m ≡ 2 * n → f ≤ n → IsProduct s n x → InRange t m (floor_quotient x (2 ^ f) *ℤ pos (2 ^ f))
back_room s t n m f x e w l b i = rw e (room s i)
  where
    room : (s : Bool) → IsProduct s n x → InRange s m (floor_quotient x (2 ^ f) *ℤ pos (2 ^ f))
    room true i =
        let p = 2 ^ (n - 1) in
        let q = floor_quotient_is x (2 ^ f) (pow_pos f) in
        let below = q.below in
        let above = q.above in
        let next = suc_times (floor_quotient x (2 ^ f)) (2 ^ f) in
        let some : 0 < n = width_pos n w in
        let two : 1 ≤ n - 1 = grind arith in
        let least = pow-le-pow_right {n = 2} (omega arith) {i = 1} {j = n - 1} two in
        let factor = pow-le-pow_right {n = 2} (omega arith) {i = f} {j = n} b in
        let twice = double n some in
        let times = mul-le 2 p p p (omega arith) (omega arith) in
        let most = half_square n m some l in
        (omega (arith, ints), omega (arith, ints))
    room false i =
        let q = floor_quotient_is x (2 ^ f) (pow_pos f) in
        let below = q.below in
        let least = i.0 in
        let size = i.1 in
        let some = floor_order (pos 0) x (pos (2 ^ f)) (power f) least in
        let zero = div-le_self 0 (2 ^ f) in
        let back = times_le (pos 0) (floor_quotient x (2 ^ f)) (2 ^ f) (omega (arith, ints)) in
        let most = square n m l in
        let less = less_square (2 ^ n) (pow_pos n) in
        (omega (arith, ints), omega (arith, ints))
