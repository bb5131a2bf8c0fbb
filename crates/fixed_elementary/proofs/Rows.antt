-- What the exact results are.
use Rattle.std.proofs.Common.{◌≡◌, ◌+◌, ◌*◌, ◌/◌, ◌^◌, ◌<◌, ◌≤◌, ◌≤ℤ◌, ◌<ℤ◌, ◌+ℤ◌, ◌*ℤ◌, ℕ, ℤ, pos, negsuc, refl, ap, sym, arith, inl, inr}
use Rattle.std.specs.Prelude.{unsigned_abs}
use Rattle.std.proofs.lemmas.Int.{ints}
use Rattle.std.proofs.lemmas.Bool.{cases_lt}
use Rattle.std.proofs.lemmas.Nat.{mul-le, div-add-mod', mod_below, div_below, le-div}
use Rattle.std.proofs.Math.Nat.{mul-le-mul_left, mul-le-mul_right}
use Rattle.fixed_root.specs.Root.{IsRoot, root_of}
use Rattle.fixed_root.specs.inside.Parts.{IsRootOf}
use Rattle.fixed_root.proofs.RootLaws.{root_of_is, root_is}
use Rattle.fixed_elementary.specs.inside.RecipParts.{IsRecipRootOf}
use Rattle.fixed_elementary.specs.RecipRoot.{IsRecipRoot}
use Rattle.fixed_elementary.specs.ElementaryRows.{exact_hypot, exact_recip_sqrt}

-- a number whose square is at most n, and one the square of whose successor is above n, both squares times a
at_most : (a n q p : ℕ) → q * q * a ≤ n → n < (p + 1) * (p + 1) * a → q ≤ p
at_most a n q p h l = elim (cases_lt p q) [
  | inl less ↦
      let m = mul-le (p + 1) (p + 1) q q (omega arith) (omega arith) in
      let t = mul-le-mul_right a m in
      absurd (omega arith)
  | inr fine ↦ fine
]

whole_root : (x q : ℕ) → IsRootOf x q → IsRoot (pos x) 0 (pos q)
whole_root x q h =
    let low = h.0 in
    let high = h.1 in
    let one : 2 ^ 0 ≡ 1 = refl in
    record { from_zero = omega (arith, ints); below = omega (arith, ints); above = omega (arith, ints) }

root_is_of : (x q : ℕ) → IsRootOf x q → root_of (pos x) 0 ≡ pos q
root_is_of x q h = sym (root_is (pos x) (pos q) 0 (omega (arith, ints)) (whole_root x q h))

-- ---- lengths

square : (a : ℤ) → a *ℤ a ≡ pos (unsigned_abs a * unsigned_abs a)
square (pos a) = refl
square (negsuc a) = refl

squares : (a b : ℤ) → a *ℤ a +ℤ b *ℤ b ≡ pos (unsigned_abs a * unsigned_abs a + unsigned_abs b * unsigned_abs b)
squares a b = rw (square a, square b) refl

pub hypot_is : (a b : ℤ) (m n q : ℕ) → m ≡ unsigned_abs a → n ≡ unsigned_abs b → IsRootOf (m * m + n * n) q → exact_hypot a b ≡ pos q
hypot_is a b m n q e f h = rw (squares a b, sym e, sym f) (root_is_of (m * m + n * n) q h)

pub hypot_root : (a b : ℤ) → IsRoot (a *ℤ a +ℤ b *ℤ b) 0 (exact_hypot a b)
hypot_root a b = root_of_is (a *ℤ a +ℤ b *ℤ b) 0 (rw (squares a b) (omega (arith, ints)))

pub hypot_exchanged : (a b : ℤ) → exact_hypot a b ≡ exact_hypot b a
hypot_exchanged a b = ap (λ (x : ℤ). root_of x 0) (omega (arith, ints))

pub hypot_on_axis : (a : ℤ) → exact_hypot a (pos 0) ≡ pos (unsigned_abs a)
hypot_on_axis a =
    let m = unsigned_abs a in
    hypot_is a (pos 0) m 0 m refl refl (omega arith, omega arith)

root_monotone : (x y : ℕ) (r s : ℤ) → x ≤ y → IsRoot (pos x) 0 r → IsRoot (pos y) 0 s → r ≤ℤ s
root_monotone x y (pos q) (pos p) l g h =
    let low = g.below in
    let high = h.above in
    let one : 2 ^ 0 ≡ 1 = refl in
    let t = at_most 1 y q p (omega (arith, ints)) (omega (arith, ints)) in
    omega (arith, ints)
root_monotone x y (negsuc q) s l g h = let z = g.from_zero in absurd (omega (arith, ints))
root_monotone x y (pos q) (negsuc p) l g h = let z = h.from_zero in absurd (omega (arith, ints))

pub hypot_monotone : (a b c : ℤ) → unsigned_abs a ≤ unsigned_abs c → exact_hypot a b ≤ℤ exact_hypot c b
hypot_monotone a b c l =
    let m = mul-le (unsigned_abs a) (unsigned_abs a) (unsigned_abs c) (unsigned_abs c) l l in
    let n = unsigned_abs b * unsigned_abs b in
    let o : unsigned_abs a * unsigned_abs a + n ≤ unsigned_abs c * unsigned_abs c + n = omega arith in
    root_monotone _ _ _ _ o (rw (sym (squares a b)) (hypot_root a b)) (rw (sym (squares c b)) (hypot_root c b))

-- ---- reciprocal roots

quotient_root : (n a q : ℕ) → 0 < a → IsRecipRootOf n a q → IsRootOf (n / a) q
quotient_root n a q o h =
    (le-div (q * q) n a o h.0, div_below n a ((q + 1) * (q + 1)) o h.1)

pub recip_root_is : (a : ℤ) (m e q : ℕ) → m ≡ unsigned_abs a → pos 0 <ℤ a → IsRecipRootOf (2 ^ e) m q → root_of (pos (2 ^ e / unsigned_abs a)) 0 ≡ pos q
recip_root_is a m e q s o h = rw (sym s) (root_is_of (2 ^ e / m) q (quotient_root (2 ^ e) m q (omega (arith, ints)) h))

-- the root of a quotient rounded down
pub recip_root : (a n r : ℕ) → 0 < a → r * r ≤ n / a → n / a < (r + 1) * (r + 1) → IsRecipRootOf n a r
recip_root a n r o l h =
    let d = div-add-mod' n a in
    let b = mod_below n a o in
    let x = mul-le-mul_right a l in
    let t : n / a + 1 ≤ (r + 1) * (r + 1) = omega arith in
    let y = mul-le-mul_right a t in
    (omega arith, omega arith)

recip_whole : (a f : ℕ) (r : ℤ) → 0 < a → IsRoot (pos (2 ^ (3 * f) / a)) 0 r → IsRecipRoot (pos a) f r
recip_whole a f (pos r) o h =
    let one : 2 ^ 0 ≡ 1 = refl in
    let low = h.below in
    let high = h.above in
    let w = recip_root a (2 ^ (3 * f)) r o (omega (arith, ints)) (omega (arith, ints)) in
    let below = w.0 in
    let above = w.1 in
    record { from_zero = omega (arith, ints); below = omega (arith, ints); above = omega (arith, ints) }
recip_whole a f (negsuc r) o h = let z = h.from_zero in absurd (omega (arith, ints))

pub recip_root_of : (a : ℤ) (f : ℕ) → pos 0 <ℤ a → IsRecipRoot a f (exact_recip_sqrt a f)
recip_root_of (pos a) f o = recip_whole a f _ (omega (arith, ints)) (root_of_is (pos (2 ^ (3 * f) / a)) 0 (omega (arith, ints)))
recip_root_of (negsuc a) f o = absurd (omega (arith, ints))

-- ---- they are in order, so there is one

pub recip_monotone : (a b r s : ℤ) (f : ℕ) → a ≤ℤ b → IsRecipRoot a f r → IsRecipRoot b f s → s ≤ℤ r
recip_monotone (pos a) (pos b) (pos q) (pos p) f l g h =
    let high = g.above in
    let low = h.below in
    let order : a ≤ b = omega (arith, ints) in
    let more = mul-le-mul_left ((q + 1) * (q + 1)) order in
    let t = at_most b (2 ^ (3 * f)) p q (omega (arith, ints)) (omega (arith, ints)) in
    omega (arith, ints)
recip_monotone (negsuc a) b (pos q) (pos p) f l g h = let high = g.above in absurd (omega (arith, ints))
recip_monotone (pos a) (negsuc b) (pos q) (pos p) f l g h = absurd (omega (arith, ints))
recip_monotone a b (negsuc q) s f l g h = let z = g.from_zero in absurd (omega (arith, ints))
recip_monotone a b (pos q) (negsuc p) f l g h = let z = h.from_zero in absurd (omega (arith, ints))

pub recip_unique : (a r s : ℤ) (f : ℕ) → IsRecipRoot a f r → IsRecipRoot a f s → r ≡ s
recip_unique a r s f g h =
    let x = recip_monotone a a s r f (omega (arith, ints)) h g in
    let y = recip_monotone a a r s f (omega (arith, ints)) g h in
    omega (arith, ints)
