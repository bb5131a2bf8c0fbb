-- The rest of an angle, and the series at it, in units of 2^-64.
use Rattle.std.specs.Prelude.{◌≡◌, ◌⊎◌, ◌+◌, ◌-◌, ◌*◌, ◌/◌, ◌^◌, ◌≤◌, ◌<◌, ◌+ℤ◌, ◌*ℤ◌, ℕ, zero, suc, ℤ, Bool, pos, nat_le, if◌then◌else◌}
use Rattle.fixed_word.specs.Format.{with_sign}
use Rattle.fixed_turns.specs.Series.{Fraction, nested, over}
use Rattle.fixed_turns.specs.RadianAngles.{IsLeftBy, IsRightBy, IsSide}
use Rattle.fixed_turns.specs.Sines.{IsSineBy, pi}
use Rattle.fixed_turns.specs.Radians.{IsReduced, parts}

-- s is the product of x and 2^64 - y, over 2^64, rounded up
pub record IsLessened (x y s : ℕ) : Type 0 where
  pub below : x * 2 ^ 64 ≤ s * 2 ^ 64 + x * y
  pub above : s * 2 ^ 64 + x * y < x * 2 ^ 64 + 2 ^ 64
  pub most : s ≤ x

-- w and y differ by c units at most
pub record IsClose (c w : ℕ) (y : Fraction) : Type 0 where
  pub below : w * y.den ≤ y.num * 2 ^ 64 + c * y.den
  pub above : y.num * 2 ^ 64 ≤ (w + c) * y.den

-- t is y, rounded down, and c units less at most
pub record IsUnder (c t : ℕ) (y : Fraction) : Type 0 where
  pub some : 0 < y.den
  pub below : t * y.den ≤ y.num * 2 ^ 64
  pub above : y.num * 2 ^ 64 ≤ (t + c) * y.den

-- r is the sine of q quarter turns and x units, which stand for each angle that is so much or 2 units more, and, if x is
-- 0, for one of either sign
abbrev pub IsSineNear : ℕ → ℕ → Bool → ℕ → ℕ → ℤ → Type 0
IsSineNear k q below x f r = (b : Bool) (y : Fraction) → IsUnder 2 x y → (b ≡ below) ⊎ (x ≡ 0) → IsSineBy k q b y f r

-- the same, where x is off by 2^18 units at most, and the sum by 2^23
abbrev pub IsSineClose : ℕ → Bool → ℕ → ℕ → ℤ → Type 0
IsSineClose q below x f r = (b : Bool) (y : Fraction) → 0 < y.den → IsClose (2 ^ 18) x y → (b ≡ below) ⊎ (x ≤ 2 ^ 18) → IsSineBy 41 q b y f r

-- how many quotients are read on words of n bits, and how far off the sum may be
abbrev pub quotients : ℕ → ℕ
quotients n = if nat_le n 32 then 6 else 9

abbrev pub reach : ℕ → ℕ
reach n = if nat_le n 32 then 2 ^ 23 else 2 ^ 3

-- 1 2 .. n
unfoldable pub factorial : ℕ → ℕ
factorial zero = 1
factorial (suc n) = suc n * factorial n

-- m of the i-th quotient from the last
abbrev pub place : ℕ → ℕ → ℕ → ℕ
place first count i = first + 2 * (count - 1 - i)

-- how far off i quotients are, over the numbers that divide them, by a square of 5/8 at most that is off by e units; the
-- quotients after them are left out
unfoldable pub slack : ℕ → ℕ → ℕ → ℕ → ℕ
slack e first count zero = 1 + 5 * 2 ^ 64 / (8 * factorial (first + 2 * count + 1))
slack e first count (suc i) = (5 * slack e first count i + 8 * e / factorial (place first count i + 1) + 21) / 8

-- less is close to i quotients and n more, over the numbers that divide them, of a fraction that the square is off by e units
abbrev pub IsNestedTo : ℕ → ℕ → ℕ → ℕ → ℕ → ℕ → Type 0
IsNestedTo e square first count i less = (y : Fraction) (n : ℕ) → 0 < y.den → IsClose e square y
    → IsClose (slack e first count i) less (over (nested y (first + 2 * (count - i)) (n + i)) (factorial (first + 2 * (count - i) - 1)))

-- four times an angle of p units of 2^-64 turns are quarters and a rest
pub record IsParted (p q : ℕ) (below : Bool) (rest : ℕ) : Type 0 where
  pub turns : ℤ
  pub is : pos (4 * p) ≡ (pos 4 *ℤ turns +ℤ pos q) *ℤ pos (2 ^ 64) +ℤ with_sign below rest
  pub quarter : q ≤ 3
  pub small : rest ≤ 2 ^ 63

-- r is v, over 2^s, to the nearest
pub record IsRounded (v s r : ℕ) : Type 0 where
  pub below : 2 * (r * 2 ^ s) ≤ 2 * v + 2 ^ s
  pub above : 2 * v ≤ 2 * (r * 2 ^ s) + 2 ^ s

-- pi in units of 2^-126, rounded down, which is also half of pi in units of 2^-127
abbrev pub rounded_pi : ℕ
rounded_pi = 0xc90fdaa22168c234c4c6628b80dc1cd1

-- p is pi or the next number: half of p 10^-39 is at least rounded_pi, in units of 2^-127, and at most 1/4 of a unit more
pub record IsBesidePi (p : ℕ) : Type 0 where
  pub below : rounded_pi * 10 ^ 39 ≤ p * 2 ^ 126
  pub above : 4 * (p * 2 ^ 126) ≤ (4 * rounded_pi + 1) * 10 ^ 39

-- m 2^-f radians are n quarters and a rest, whose magnitude is x units of 2^-64 or up to 2 more; it is below 0 if `below`
-- is true, and its sign is not known if x is 0
pub record IsSplit (p m f n : ℕ) (below : Bool) (x : ℕ) : Type 0 where
  pub sign : Bool
  pub rest : ℕ
  pub is : pos (2 * 10 ^ 39 * m) ≡ pos (n * (p * 2 ^ f)) +ℤ with_sign sign rest
  pub small : rest ≤ 2 * 10 ^ 39 * 2 ^ f
  pub under : IsUnder 2 x (parts rest f)
  pub sure : (sign ≡ below) ⊎ (x ≡ 0)

-- the same, where the magnitude differs from x by 2^18 units at most, and its sign is not known if x is no more than that
pub record IsSplitClose (p m f n : ℕ) (below : Bool) (x : ℕ) : Type 0 where
  pub sign : Bool
  pub rest : ℕ
  pub is : pos (2 * 10 ^ 39 * m) ≡ pos (n * (p * 2 ^ f)) +ℤ with_sign sign rest
  pub small : rest ≤ 2 * 10 ^ 39 * 2 ^ f
  pub close : IsClose (2 ^ 18) x (parts rest f)
  pub sure : (sign ≡ below) ⊎ (x ≤ 2 ^ 18)

-- the same of a number with its sign, and of quarters besides whole turns
pub record IsReducedTo (p : ℕ) (a : ℤ) (f q : ℕ) (below : Bool) (x : ℕ) : Type 0 where
  pub turns : ℤ
  pub sign : Bool
  pub rest : ℕ
  pub angle : IsReduced p a f turns q sign rest
  pub under : IsUnder 2 x (parts rest f)
  pub sure : (sign ≡ below) ⊎ (x ≡ 0)

-- the angle of (x, y) lies between m - 1/2 and m + 1/2 units of 2^-f radians, of which the latter may be past pi
pub record IsBetween (k : ℕ) (x y : ℤ) (f m : ℕ) : Type 0 where
  pub least : (i : ℕ) → m ≡ i + 1 → IsSide (IsLeftBy k) x y (2 * i + 1) (f + 1)
  pub most : (2 * m + 1) * 10 ^ 39 < pi * 2 ^ (f + 1) → IsSide (IsRightBy k) x y (2 * m + 1) (f + 1)
