-- Rounded quotients keep the order, and numbers of a narrower format fit a wider one.
use Rattle.std.proofs.Common.{◌≡◌, ◌+◌, ◌-◌, ◌*◌, ◌/◌, ◌^◌, ◌<◌, ◌≤◌, ◌≤ℤ◌, ◌<ℤ◌, ◌+ℤ◌, ◌*ℤ◌, ℕ, ℤ, suc, Bool, true, false, pos, negsuc, neg_ℤ, arith, inl, inr}
use Rattle.std.proofs.lemmas.Int.{ints}
use Rattle.std.proofs.lemmas.Nat.{pow-add, pow_pos}
use Rattle.std.proofs.Math.Nat.{pow-le-pow_right}
use Rattle.fixed_word.specs.Format.{InRange}
use Rattle.fixed_word.specs.Quotient.{floor_quotient, truncated_quotient}
use Rattle.fixed_word.specs.declared.rounding.Rounding.{Rounding}
use Rattle.fixed_word.specs.declared.rounding.Rounding.TheVariants.{Down, Zero, Even}
use Rattle.fixed_word.proofs.Nearest.{cases_int}
use Rattle.fixed_word.proofs.Wraps.{neg-times, suc_times}
use Rattle.fixed_kernel.specs.Rounded.{rounded}
use Rattle.fixed_kernel.proofs.RoundedLaws.{rounded_is}
use Rattle.fixed_convert.specs.Convert.{rounded_convert}
use Rattle.fixed_convert.proofs.Moves.{floor_near, times_le}
use Rattle.fixed_convert.proofs.Nearness.{above_zero}
use Rattle.fixed_convert.proofs.Rounds.{rounded_up}

-- ---- order

floor_order : (x y : ℤ) (d : ℕ) → 0 < d → x ≤ℤ y → floor_quotient x d ≤ℤ floor_quotient y d
floor_order x y d h l =
    let p = floor_quotient x d in
    let q = floor_quotient y d in
    let below = (floor_near x d h).0 in
    let above = (floor_near y d h).1 in
    elim (cases_int q p) [
      | inl less ↦
          let m = times_le (q +ℤ pos 1) p d (omega (arith, ints)) in
          let s = suc_times q d in
          absurd (omega (arith, ints))
      | inr fine ↦ fine
    ]

zero_order : (x y : ℤ) (d : ℕ) → 0 < d → x ≤ℤ y → truncated_quotient x (pos d) ≤ℤ truncated_quotient y (pos d)
zero_order (pos a) (pos b) d h l = floor_order (pos a) (pos b) d h l
zero_order (negsuc a) (pos b) d h l = omega (arith, ints)
zero_order (negsuc a) (negsuc b) d h l =
    let m : pos (suc b / d) ≤ℤ pos (suc a / d) = floor_order (pos (suc b)) (pos (suc a)) d h (omega (arith, ints)) in
    omega (arith, ints)
zero_order (pos a) (negsuc b) d h l = absurd (omega (arith, ints))

even_order : (x y : ℤ) (d : ℕ) → 0 < d → x ≤ℤ y → rounded x (pos d) Even ≤ℤ rounded y (pos d) Even
even_order x y d h l =
    let p = rounded x (pos d) Even in
    let q = rounded y (pos d) Even in
    let i = (rounded_is x (pos d) Even (above_zero d h)).near in
    let j = (rounded_is y (pos d) Even (above_zero d h)).near in
    elim (cases_int x y) [
      | inl apart ↦ elim (cases_int q p) [
        | inl less ↦
            let m = times_le (q +ℤ pos 1) p d (omega (arith, ints)) in
            let s = suc_times q d in
            absurd (omega (arith, ints))
        | inr fine ↦ fine
      ]
      | inr same ↦ let e : x ≡ y = omega (arith, ints) in rw e (omega (arith, ints))
    ]

pub rounded_order : (x y : ℤ) (d : ℕ) (r : Rounding) → 0 < d → x ≤ℤ y → rounded x (pos d) r ≤ℤ rounded y (pos d) r
rounded_order x y d Down h l = floor_order x y d h l
rounded_order x y d Zero h l = zero_order x y d h l
rounded_order x y d Even h l = even_order x y d h l

pub convert_order : (a b : ℤ) (f g : ℕ) (r : Rounding) → a ≤ℤ b → rounded_convert a f g r ≤ℤ rounded_convert b f g r
convert_order a b f g r l = rounded_order (a *ℤ pos (2 ^ g)) (b *ℤ pos (2 ^ g)) (2 ^ f) r (pow_pos f) (times_le a b (2 ^ g) l)

-- ---- room

signed_room : (n m k : ℕ) (a : ℤ) → 0 < n → n + k ≤ m → InRange true n a → InRange true m (a *ℤ pos (2 ^ k))
signed_room n m k a h l r =
    let p = 2 ^ (n - 1) in
    let c = 2 ^ k in
    let some = pow_pos (n - 1) in
    let more = pow_pos k in
    let low = times_le (neg_ℤ (pos p)) a c r.0 in
    let most = r.1 in
    let high = times_le (a +ℤ pos 1) (pos p) c (omega (arith, ints)) in
    let t = neg-times p c in
    let s = suc_times a c in
    let q : 2 ^ (n - 1 + k) ≡ p * c = pow-add 2 (n - 1) k in
    let u = pow-le-pow_right {n = 2} (omega arith) {i = n - 1 + k} {j = m - 1} (omega arith) in
    (omega (arith, ints), omega (arith, ints))

unsigned_size : (n k : ℕ) (a : ℤ) → InRange false n a → (pos 0 ≤ℤ (a *ℤ pos (2 ^ k))) × ((a *ℤ pos (2 ^ k)) <ℤ pos (2 ^ (n + k)))
unsigned_size n k a r =
    let p = 2 ^ n in
    let c = 2 ^ k in
    let some = pow_pos n in
    let more = pow_pos k in
    let low = times_le (pos 0) a c r.0 in
    let most = r.1 in
    let high = times_le (a +ℤ pos 1) (pos p) c (omega (arith, ints)) in
    let s = suc_times a c in
    let q : 2 ^ (n + k) ≡ p * c = pow-add 2 n k in
    (omega (arith, ints), omega (arith, ints))

pub same_sign_room : (s : Bool) (n m k : ℕ) (a : ℤ) → 0 < n → n + k ≤ m → InRange s n a → InRange s m (a *ℤ pos (2 ^ k))
same_sign_room true n m k a h l r = signed_room n m k a h l r
same_sign_room false n m k a h l r =
    let z = unsigned_size n k a r in
    let low = z.0 in
    let high = z.1 in
    let u = pow-le-pow_right {n = 2} (omega arith) {i = n + k} {j = m} l in
    (omega (arith, ints), omega (arith, ints))

unsigned_in_signed : (n m k : ℕ) (a : ℤ) → n + k < m → InRange false n a → InRange true m (a *ℤ pos (2 ^ k))
unsigned_in_signed n m k a l r =
    let z = unsigned_size n k a r in
    let low = z.0 in
    let high = z.1 in
    let u = pow-le-pow_right {n = 2} (omega arith) {i = n + k} {j = m - 1} (omega arith) in
    (omega (arith, ints), omega (arith, ints))

pub wider_room : (s : Bool) (n m f g : ℕ) (a : ℤ) (r : Rounding) → 0 < n → f ≤ g → n + g ≤ m + f → InRange s n a → InRange s m (rounded_convert a f g r)
wider_room s n m f g a r h l w i = rw (rounded_up a f g r l) (same_sign_room s n m (g - f) a h (omega arith) i)

pub unsigned_room : (n m f g : ℕ) (a : ℤ) (r : Rounding) → f ≤ g → n + g < m + f → InRange false n a → InRange true m (rounded_convert a f g r)
unsigned_room n m f g a r l w i = rw (rounded_up a f g r l) (unsigned_in_signed n m (g - f) a (omega arith) i)
