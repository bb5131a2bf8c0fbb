-- Which exact numbers fit: on unsigned words, and on signed words at all operands but the named ones.
use Rattle.std.proofs.Common.{◌-ℤ◌, ◌≡◌, ◌≢◌, ◌⊎◌, ◌+◌, ◌-◌, ◌*◌, ◌/◌, ◌^◌, ◌<◌, ◌≤◌, ◌≤ℤ◌, ◌<ℤ◌, ◌*ℤ◌, ℕ, ℤ, zero, suc, Bool, true, false, pos, negsuc, neg_ℤ, refl, ap, sym, subst, ◌∙◌, arith, inl, inr}
use Rattle.std.specs.Prelude.{◌↔◌, unsigned_abs, neg_ℤ}
use Rattle.std.proofs.lemmas.Int.{ints}
use Rattle.std.proofs.lemmas.Nat.{div-add-mod', mul-le, pow_pos}
use Rattle.std.proofs.lemmas.Bool.{cases_lt}
use Rattle.std.proofs.Math.Nat.{pow-le-pow_right}
use Rattle.fixed_word.specs.Format.{IsWidth, lowest, highest, InRange}
use Rattle.fixed_word.specs.Quotient.{euclidean_quotient, euclidean_remainder, truncated_quotient}
use Rattle.fixed_word.proofs.Wraps.{double, width_pos}
use Rattle.fixed_word.proofs.Nearest.{cases_int}
use Rattle.fixed_word.proofs.Sides.{lowest_sign, highest_sign}
use Rattle.fixed_root.specs.Root.{IsRoot, root_of}
use Rattle.fixed_root.proofs.RootLaws.{root_of_is}
use Rattle.fixed_kernel.specs.Rows.{exact_abs, exact_div_euclid, exact_signum, units}
use Rattle.fixed_kernel.specs.RowLaws.{Misses}

-- ---- in and out of the range

in_and_out : (s : Bool) (n : ℕ) (x : ℤ) → InRange s n x → Misses s n x → ⊥
in_and_out s n x r m =
    let l = r.0 in
    let h = r.1 in
    grind (arith, ints)

above : (s : Bool) (n : ℕ) (x : ℤ) → highest s n <ℤ x → Misses s n x
above s n x h = grind (arith, ints)

below : (s : Bool) (n : ℕ) (x : ℤ) → x <ℤ lowest s n → Misses s n x
below s n x h = grind (arith, ints)

-- ---- roots

root_below_power : (q p x : ℕ) → q * q ≤ x → x < p * p → q < p
root_below_power q p x l h = elim (cases_lt q p) [
  | inl less ↦ less
  | inr more ↦ let m = mul-le p p q q more more in absurd (omega arith)
]

root_from_power : (q p x : ℕ) → p * p ≤ x → x < (q + 1) * (q + 1) → p ≤ q
root_from_power q p x l h = elim (cases_lt q p) [
  | inl less ↦ let m = mul-le (q + 1) (q + 1) p p (omega arith) (omega arith) in absurd (omega arith)
  | inr more ↦ more
]

product_below : (a b m n : ℕ) → a < m → b ≤ n → 0 < n → a * b < m * n
product_below a b m n h k z =
    let c : a ≤ a = omega arith in
    let d : n ≤ n = omega arith in
    let x = mul-le a b a n c k in
    let y = mul-le (suc a) n m n h d in
    omega arith

-- the root of a, by its square in natural numbers
root_squares : (a f : ℕ) → (q : ℕ) × ((root_of (pos a) f ≡ pos q) × ((q * q ≤ a * 2 ^ f) × (a * 2 ^ f < (q + 1) * (q + 1))))
root_squares a f = squares (root_of (pos a) f) (root_of_is (pos a) f (omega (arith, ints)))
  where
    squares : (r : ℤ) → IsRoot (pos a) f r → (q : ℕ) × ((r ≡ pos q) × ((q * q ≤ a * 2 ^ f) × (a * 2 ^ f < (q + 1) * (q + 1))))
    squares (pos q) h =
        let b = h.below in
        let u = h.above in
        (q, (refl, (omega (arith, ints), omega (arith, ints))))
    squares (negsuc q) h = let z = h.from_zero in absurd (omega (arith, ints))

pub sqrt_unsigned : (n f : ℕ) (a : ℤ) → f ≤ n → InRange false n a → InRange false n (root_of a f)
sqrt_unsigned n f (pos a) l w =
    let h = w.1 in
    let r = root_squares a f in
    let e = r.1.0 in
    let low = r.1.1.0 in
    let p = pow_pos n in
    let g = pow-le-pow_right {n = 2} (omega arith) {i = f} {j = n} l in
    let m = product_below a (2 ^ f) (2 ^ n) (2 ^ n) (omega (arith, ints)) g p in
    let small = root_below_power r.0 (2 ^ n) (a * 2 ^ f) low m in
    rw e (omega (arith, ints), omega (arith, ints))
sqrt_unsigned n f (negsuc a) l w = let z = w.0 in absurd (omega (arith, ints))

-- ---- the other unsigned ones

pub dist_unsigned : (n : ℕ) (a b : ℤ) → InRange false n a → InRange false n b → InRange false n (exact_abs (a -ℤ b))
dist_unsigned n a b v w =
    let al = v.0 in
    let ah = v.1 in
    let bl = w.0 in
    let bh = w.1 in
    (omega (arith, ints), omega (arith, ints))

over_at_most : (a m : ℕ) → 0 < m → a / m ≤ a
over_at_most a m h =
    let d = div-add-mod' a m in
    let l : a / m ≤ a / m = omega arith in
    let p = mul-le (a / m) 1 (a / m) m l h in
    omega arith

pub div_int_unsigned : (n : ℕ) (a k : ℤ) → InRange false n a → InRange false n k → k ≢ pos 0 → InRange false n (truncated_quotient a k)
div_int_unsigned n (pos a) (pos zero) v w h = absurd (h refl)
div_int_unsigned n (pos a) (pos (suc k)) v w h =
    let u = v.1 in
    let o = over_at_most a (suc k) (omega arith) in
    (omega (arith, ints), omega (arith, ints))
div_int_unsigned n (negsuc a) k v w h = let z = v.0 in absurd (omega (arith, ints))
div_int_unsigned n (pos a) (negsuc k) v w h = let z = w.0 in absurd (omega (arith, ints))

euclid_natural : (a m : ℕ) → 0 < m → euclidean_quotient (pos a) (pos m) ≡ pos (a / m)
euclid_natural a zero h = absurd (omega arith)
euclid_natural a (suc m) h = refl

-- a quotient by k p, times p
units_at_most : (a k p : ℕ) → 0 < k → 0 < p → a / (k * p) * p ≤ a
units_at_most a k p h g =
    let d = div-add-mod' a (k * p) in
    let o : p ≤ p = omega arith in
    let s = mul-le 1 p k p h o in
    let t : a / (k * p) ≤ a / (k * p) = omega arith in
    let u = mul-le (a / (k * p)) p (a / (k * p)) (k * p) t (omega arith) in
    omega arith

pub div_euclid_int_unsigned : (n f : ℕ) (a k : ℤ) → InRange false n a → InRange false n k → k ≢ pos 0 → InRange false n (exact_div_euclid a (units k f) f)
div_euclid_int_unsigned n f (pos a) (pos zero) v w h = absurd (h refl)
div_euclid_int_unsigned n f (pos a) (pos (suc k)) v w h =
    let u = v.1 in
    let p = pow_pos f in
    let o : 2 ^ f ≤ 2 ^ f = omega arith in
    let m = mul-le 1 (2 ^ f) (suc k) (2 ^ f) (omega arith) o in
    let q = units_at_most a (suc k) (2 ^ f) (omega arith) p in
    let e = euclid_natural a (suc k * 2 ^ f) (omega arith) in
    let within : InRange false n (pos (a / (suc k * 2 ^ f)) *ℤ pos (2 ^ f)) = (omega (arith, ints), omega (arith, ints)) in
    subst (λ (x : ℤ). InRange false n (x *ℤ pos (2 ^ f))) (sym e) within
div_euclid_int_unsigned n f (negsuc a) k v w h = let z = v.0 in absurd (omega (arith, ints))
div_euclid_int_unsigned n f (pos a) (negsuc k) v w h = let z = w.0 in absurd (omega (arith, ints))

pub rem_euclid_int_unsigned : (n f : ℕ) (a k : ℤ) → InRange false n a → InRange false n (euclidean_remainder a (units k f))
rem_euclid_int_unsigned n f (pos a) k v =
    let u = v.1 in
    let d = div-add-mod' a (unsigned_abs (k *ℤ pos (2 ^ f))) in
    (omega (arith, ints), omega (arith, ints))
rem_euclid_int_unsigned n f (negsuc a) k v = let z = v.0 in absurd (omega (arith, ints))

-- ---- signed words

pub neg_signed : (n : ℕ) (a : ℤ) → InRange true n a → Misses true n (neg_ℤ a) ↔ (a ≡ lowest true n)
neg_signed n a w =
    let l = w.0 in
    let u = w.1 in
    let p = pow_pos (n - 1) in (
      (λ m. elim (cases_int (lowest true n) a) [
        | inl more ↦ absurd (in_and_out true n (neg_ℤ a) (omega (arith, ints), omega (arith, ints)) m)
        | inr less ↦ omega (arith, ints)
      ]),
      (λ e. above true n (neg_ℤ a) (omega (arith, ints))),
    )

pub abs_signed : (n : ℕ) (a : ℤ) → InRange true n a → Misses true n (exact_abs a) ↔ (a ≡ lowest true n)
abs_signed n a w =
    let l = w.0 in
    let u = w.1 in
    let p = pow_pos (n - 1) in (
      (λ m. elim (cases_int (lowest true n) a) [
        | inl more ↦ absurd (in_and_out true n (exact_abs a) (omega (arith, ints), omega (arith, ints)) m)
        | inr less ↦ omega (arith, ints)
      ]),
      (λ e. above true n (exact_abs a) (omega (arith, ints))),
    )

-- a number above 0, over one above 1, is less
over_less : (a m : ℕ) → 0 < a → 1 < m → a / m < a
over_less a m h g =
    let d = div-add-mod' a m in
    let l : a / m ≤ a / m = omega arith in
    let p = mul-le (a / m) 2 (a / m) m l g in
    omega arith

pub div_int_signed : (n : ℕ) (a k : ℤ) → InRange true n a → k ≢ pos 0 → Misses true n (truncated_quotient a k) ↔ ((a ≡ lowest true n) × (k ≡ negsuc 0))
div_int_signed n a (pos zero) w h = absurd (h refl)
div_int_signed n (pos a) (pos (suc k)) w h =
    let u = w.1 in
    let p = pow_pos (n - 1) in
    let o = over_at_most a (suc k) (omega arith) in
    ((λ m. absurd (in_and_out true n (pos (a / suc k)) (omega (arith, ints), omega (arith, ints)) m)), (λ e. absurd (let z = e.1 in cc)))
div_int_signed n (pos a) (negsuc k) w h =
    let u = w.1 in
    let p = pow_pos (n - 1) in
    let o = over_at_most a (suc k) (omega arith) in
    ((λ m. absurd (in_and_out true n (neg_ℤ (pos (a / suc k))) (omega (arith, ints), omega (arith, ints)) m)), (λ e. absurd (let z = e.0 in omega (arith, ints))))
div_int_signed n (negsuc a) (pos (suc k)) w h =
    let l = w.0 in
    let p = pow_pos (n - 1) in
    let o = over_at_most (suc a) (suc k) (omega arith) in
    ((λ m. absurd (in_and_out true n (neg_ℤ (pos (suc a / suc k))) (omega (arith, ints), omega (arith, ints)) m)), (λ e. absurd (let z = e.1 in cc)))
div_int_signed n (negsuc a) (negsuc (suc k)) w h =
    let l = w.0 in
    let p = pow_pos (n - 1) in
    let o = over_less (suc a) (suc (suc k)) (omega arith) (omega arith) in
    ((λ m. absurd (in_and_out true n (pos (suc a / suc (suc k))) (omega (arith, ints), omega (arith, ints)) m)), (λ e. absurd (let z = e.1 in omega (arith, ints))))
div_int_signed n (negsuc a) (negsuc zero) w h =
    let l = w.0 in
    let p = pow_pos (n - 1) in
    let d = div-add-mod' (suc a) 1 in (
      (λ m. (
        elim (cases_int (lowest true n) (negsuc a)) [
          | inl more ↦ absurd (in_and_out true n (pos (suc a / 1)) (omega (arith, ints), omega (arith, ints)) m)
          | inr less ↦ omega (arith, ints)
        ],
        refl,
      )),
      (λ e. let z = e.0 in above true n (pos (suc a / 1)) (omega (arith, ints))),
    )

-- one by its sign, above the range or in it
unit_above : (n f : ℕ) → 0 < n → n - 1 ≤ f → Misses true n (pos (2 ^ f))
unit_above n f h l =
    let g = pow-le-pow_right {n = 2} (omega arith) {i = n - 1} {j = f} l in
    let p = pow_pos (n - 1) in
    above true n (pos (2 ^ f)) (omega (arith, ints))

unit_in : (n f : ℕ) → 0 < n → f < n - 1 → InRange true n (pos (2 ^ f))
unit_in n f h l =
    let g = pow-le-pow_right {n = 2} (omega arith) {i = f + 1} {j = n - 1} (omega arith) in
    let d = double (f + 1) (omega arith) in
    let e : f + 1 - 1 ≡ f = omega arith in
    let t : 2 ^ (f + 1) ≡ 2 ^ f + 2 ^ f = d ∙ ap (λ (k : ℕ). 2 ^ k + 2 ^ k) e in
    let p = pow_pos f in
    (omega (arith, ints), omega (arith, ints))

minus_unit_below : (n : ℕ) → 0 < n → Misses true n (neg_ℤ (pos (2 ^ n)))
minus_unit_below n h =
    let d = double n h in
    let p = pow_pos (n - 1) in
    below true n (neg_ℤ (pos (2 ^ n))) (omega (arith, ints))

minus_unit_in : (n f : ℕ) → 0 < n → f ≤ n - 1 → InRange true n (neg_ℤ (pos (2 ^ f)))
minus_unit_in n f h l =
    let g = pow-le-pow_right {n = 2} (omega arith) {i = f} {j = n - 1} l in
    let p = pow_pos f in
    let q = pow_pos (n - 1) in
    (omega (arith, ints), omega (arith, ints))

zero_in : (n : ℕ) → InRange true n (pos 0)
zero_in n = (lowest_sign true n, highest_sign true n)

pub signum_signed : (n f : ℕ) (a : ℤ) → IsWidth n → f ≤ n → Misses true n (exact_signum a f) ↔ (((f ≡ n) × (a ≢ pos 0)) ⊎ ((f ≡ n - 1) × (pos 0 <ℤ a)))
signum_signed n f (pos zero) w l = (
  (λ m. absurd (in_and_out true n (pos 0) (zero_in n) m)),
  (λ e. elim e [
    | inl x ↦ absurd (x.1 refl)
    | inr x ↦ let y = x.1 in absurd (omega (arith, ints))
  ]),
)
signum_signed n f (pos (suc a)) w l =
    let h = width_pos n w in (
      (λ m. elim (cases_lt f (n - 1)) [
        | inl less ↦ absurd (in_and_out true n (pos (2 ^ f)) (unit_in n f h less) m)
        | inr more ↦ elim (cases_lt f n) [
          | inl short ↦ inr (omega arith, omega (arith, ints))
          | inr full ↦ inl (omega arith, (λ e. absurd (cc)))
        ]
      ]),
      (λ e. elim e [
        | inl x ↦ let y = x.0 in unit_above n f h (omega arith)
        | inr x ↦ let y = x.0 in unit_above n f h (omega arith)
      ]),
    )
signum_signed n f (negsuc a) w l =
    let h = width_pos n w in (
      (λ m. elim (cases_lt f n) [
        | inl short ↦ absurd (in_and_out true n (neg_ℤ (pos (2 ^ f))) (minus_unit_in n f h (omega arith)) m)
        | inr full ↦ inl (omega arith, (λ e. absurd (cc)))
      ]),
      (λ e. elim e [
        | inl x ↦ let y = x.0 in rw y (minus_unit_below n h)
        | inr x ↦ let y = x.1 in absurd (omega (arith, ints))
      ]),
    )

-- a root past the end, and one in the range
width_two : (n : ℕ) → IsWidth n → 2 ≤ n
width_two n w = grind arith

root_past : (n a q : ℕ) → 2 ≤ n → 2 ^ (n - 2) ≤ a → a * 2 ^ n < (q + 1) * (q + 1) → Misses true n (pos q)
root_past n a q w l u =
    let p = pow_pos (n - 2) in
    let d = double n (omega arith) in
    let e = double (n - 1) (omega arith) in
    let t : n - 1 - 1 ≡ n - 2 = omega arith in
    let f : 2 ^ (n - 1) ≡ 2 ^ (n - 2) + 2 ^ (n - 2) = e ∙ ap (λ (k : ℕ). 2 ^ k + 2 ^ k) t in
    let x = past (2 ^ (n - 2)) (2 ^ (n - 1)) (2 ^ n) a f d l in
    let y = root_from_power q (2 ^ (n - 1)) (a * 2 ^ n) x u in
    above true n (pos q) (omega (arith, ints))
  where
    past : (t h p a : ℕ) → h ≡ t + t → p ≡ h + h → t ≤ a → h * h ≤ a * p
    past t h p a e d l =
        let r : p ≤ p = omega arith in
        let m = mul-le t p a p l r in
        let k : h * h ≡ t * p = rw (e) (rw d (rw e (omega arith))) in
        omega arith

root_within : (n q x : ℕ) → q * q ≤ x → x < 2 ^ (n - 1) * 2 ^ (n - 1) → InRange true n (pos q)
root_within n q x l h =
    let y = root_below_power q (2 ^ (n - 1)) x l h in
    (omega (arith, ints), omega (arith, ints))

short_of : (n a : ℕ) → 2 ≤ n → a < 2 ^ (n - 2) → a * 2 ^ n < 2 ^ (n - 1) * 2 ^ (n - 1)
short_of n a w l =
    let d = double n (omega arith) in
    let e = double (n - 1) (omega arith) in
    let t : n - 1 - 1 ≡ n - 2 = omega arith in
    let f : 2 ^ (n - 1) ≡ 2 ^ (n - 2) + 2 ^ (n - 2) = e ∙ ap (λ (k : ℕ). 2 ^ k + 2 ^ k) t in
    short (2 ^ (n - 2)) (2 ^ (n - 1)) (2 ^ n) a f d (pow_pos n) l
  where
    short : (t h p a : ℕ) → h ≡ t + t → p ≡ h + h → 0 < p → a < t → a * p < h * h
    short t h p a e d z l =
        let r : p ≤ p = omega arith in
        let m = product_below a p t p l r z in
        let k : h * h ≡ t * p = rw (e) (rw d (rw e (omega arith))) in
        omega arith

pub sqrt_signed : (n f : ℕ) (a : ℤ) → IsWidth n → f ≤ n → InRange true n a → pos 0 ≤ℤ a → Misses true n (root_of a f) ↔ ((f ≡ n) × (pos (2 ^ (n - 2)) ≤ℤ a))
sqrt_signed n f (negsuc a) w l v z = absurd (omega (arith, ints))
sqrt_signed n f (pos a) w l v z =
    let h = v.1 in
    let two = width_two n w in
    let p = pow_pos (n - 1) in
    let r = root_squares a f in
    let q = r.0 in
    let low = r.1.1.0 in
    let up = r.1.1.1 in
    rw r.1.0 (
      (λ m. elim (cases_lt f n) [
        | inl fewer ↦
            let g = pow-le-pow_right {n = 2} (omega arith) {i = f} {j = n - 1} (omega arith) in
            let x = product_below a (2 ^ f) (2 ^ (n - 1)) (2 ^ (n - 1)) (omega (arith, ints)) g p in
            absurd (in_and_out true n (pos q) (root_within n q (a * 2 ^ f) low x) m)
        | inr full ↦
            let e : f ≡ n = omega arith in
            elim (cases_lt a (2 ^ (n - 2))) [
              | inl less ↦ absurd (in_and_out true n (pos q) (root_within n q (a * 2 ^ n) (subst (λ (g : ℕ). q * q ≤ a * 2 ^ g) e low) (short_of n a two less)) m)
              | inr more ↦ (e, omega (arith, ints))
            ]
      ]),
      (λ e. let b = e.1 in root_past n a q two (omega (arith, ints)) (subst (λ (g : ℕ). a * 2 ^ g < (q + 1) * (q + 1)) e.0 up)),
    )
