-- No float is nearer than the one whose pattern was packed.
use Rattle.std.proofs.Common.{◌≡◌, ◌≢◌, ◌⊎◌, ◌+◌, ◌-◌, ◌*◌, ◌/◌, ◌%◌, ◌^◌, ◌<◌, ◌≤◌, ◌-ℤ◌, ◌*ℤ◌, ℕ, zero, suc, Bool, true, false, pos, neg_ℤ, nat_abs, refl, ap, sym, ◌∙◌, subst, subst₂, arith, inl, inr, lit<, nat_le}
use native.Mathlib.Nat.{mul_assoc, mul_comm, mul_right_comm, mul-le-mul_right, mul-lt-mul_of_pos_right, mul-pos, le_trans, lt_of_lt_of_le, pow-succ'}
use lib.Count.{count_leading_zeros, leading_top}
use lib.Pow.{pow-add, pow_pos, pow_mono}
use Rattle.std.proofs.lemmas.Bool.{cases_lt}
use Rattle.std.proofs.lemmas.Int.{ints}
use Rattle.std.proofs.lemmas.Nat.{mod_below, mul-le}
use Rattle.std.specs.Float.{Format, binary32, binary64}
use lib.Ieee.{hid, low, of_bits, ones, prec, round, top}
use Rattle.fixed_word.specs.Format.{with_sign}
use Rattle.fixed_kernel.proofs.ToNearest.{IsNear, nearest_is}
use Rattle.fixed_float.specs.Patterns.{distance, field_of, fraction_of, least_floats, number_of, IsNearestOfAll}
use Rattle.fixed_float.proofs.Fields.{below_top}
use Rattle.fixed_float.proofs.Formats.{digits_in, hid_even, least_in, zero_is}
use Rattle.fixed_float.proofs.Roundings.{closest_nearest}
use Rattle.fixed_float.proofs.Packing

-- ---- distances
abbrev gap : ℕ → ℕ → ℕ
gap x y = x - y + (y - x)

-- the nearest multiple of u
multiple_near : (v u m c : ℕ) → 0 < u → IsNear v u m → gap v (m * u) ≤ gap v (c * u)
multiple_near v u m c U is =
    let lo = is.below in
    let hi = is.above in
    elim (cases_lt c m) [
      | inl l ↦ let p : suc c * u ≤ m * u = mul-le-mul_right u l in omega arith
      | inr g ↦ elim (cases_lt m c) [
        | inl l ↦ let p : suc m * u ≤ c * u = mul-le-mul_right u l in omega arith
        | inr k ↦ let e : m ≡ c = omega arith in let p = ap (λ (z : ℕ). z * u) e in omega arith
      ]
    ]

multiple_tie : (v u m c : ℕ) → 0 < u → IsNear v u m → gap v (m * u) ≡ gap v (c * u) → m ≢ c → m % 2 ≡ 0
multiple_tie v u m c U is e n =
    let lo = is.below in
    let hi = is.above in
    elim (cases_lt c m) [
      | inl l ↦ let p : suc c * u ≤ m * u = mul-le-mul_right u l in is.tie_above (omega arith)
      | inr g ↦ elim (cases_lt m c) [
        | inl l ↦ let p : suc m * u ≤ c * u = mul-le-mul_right u l in is.tie_below (omega arith)
        | inr k ↦ absurd (n (omega arith))
      ]
    ]

-- a float is a multiple of 2 ^ k least floats, or lies below hid f of them
on_grid : (f : Format) (x t k : ℕ) → t < hid f → ((c : ℕ) × (least_floats f x t ≡ c * 2 ^ k)) ⊎ (least_floats f x t < hid f * 2 ^ k)
on_grid f zero t zero h = inl (t, omega arith)
on_grid f zero t (suc k) h = inr (lt_of_lt_of_le h (omega (arith, mul-le (hid f) 1 (hid f) (2 ^ suc k) (omega arith) (pow_pos (suc k)))))
on_grid f (suc i) t k h =
    elim (cases_lt i k) [
      | inl l ↦
          let p : (hid f + t) * 2 ^ i < 2 * hid f * 2 ^ i = mul-lt-mul_of_pos_right (omega arith) (pow_pos i) in
          let q : 2 ^ suc i ≤ 2 ^ k = pow_mono l in
          let r = mul-le (hid f) (2 ^ suc i) (hid f) (2 ^ k) (omega arith) q in
          let s : hid f * 2 ^ suc i ≡ 2 * hid f * 2 ^ i = ap (λ (z : ℕ). hid f * z) (pow-succ' 2 i) ∙ sym (mul_assoc (hid f) 2 (2 ^ i)) ∙ ap (λ (z : ℕ). z * 2 ^ i) (mul_comm (hid f) 2) in
          inr (omega arith)
      | inr g ↦
          inl ((hid f + t) * 2 ^ (i - k), ap (λ (z : ℕ). (hid f + t) * z) (ap (λ (z : ℕ). 2 ^ z) {x = i} {y = i - k + k} (omega arith) ∙ pow-add 2 (i - k) k) ∙ sym (mul_assoc (hid f + t) (2 ^ (i - k)) (2 ^ k)))
    ]

-- ---- v over d is nearest to m * 2 ^ k least floats, and not below hid f * 2 ^ k
module _ (f : Format) (v d k m : ℕ) (D : 0 < d) (is : IsNear v (d * 2 ^ k) m) (high : hid f * (d * 2 ^ k) ≤ v) where
  abbrev unit : ℕ
  unit = d * 2 ^ k

  unit_pos : 0 < unit
  unit_pos = mul-pos D (pow_pos k)

  at : (c : ℕ) → c * 2 ^ k * d ≡ c * unit
  at c = mul_assoc c (2 ^ k) d ∙ ap (λ (z : ℕ). c * z) (mul_comm (2 ^ k) d)

  nearer : (x t : ℕ) → t < hid f → gap v (m * 2 ^ k * d) ≤ gap v (least_floats f x t * d)
  nearer x t T =
      let near = multiple_near v unit m (hid f) unit_pos is in
      elim (on_grid f x t k T) [
        | inl g ↦ let goal : gap v (m * unit) ≤ gap v (g.0 * unit) = multiple_near v unit m g.0 unit_pos is in
            subst₂ (λ (y z : ℕ). gap v y ≤ gap v z) (sym (at m)) (sym (ap (λ (z : ℕ). z * d) g.1 ∙ at g.0)) goal
        | inr l ↦
            let p = mul-lt-mul_of_pos_right l D in
            omega (arith, at m, at (hid f))
      ]

  ties : (x t : ℕ) → t < hid f → gap v (m * 2 ^ k * d) ≡ gap v (least_floats f x t * d) → m * 2 ^ k ≢ least_floats f x t → m % 2 ≡ 0
  ties x t T e n =
      let near = multiple_near v unit m (hid f) unit_pos is in
      elim (on_grid f x t k T) [
        | inl g ↦ multiple_tie v unit m g.0 unit_pos is (ap (gap v) (sym (at m)) ∙ e ∙ ap (gap v) (ap (λ (z : ℕ). z * d) g.1 ∙ at g.0)) (λ (s : m ≡ g.0). n (ap (λ (z : ℕ). z * 2 ^ k) s ∙ sym g.1))
        | inr l ↦
            let p = mul-lt-mul_of_pos_right l D in
            absurd (omega (arith, at m, at (hid f)))
      ]

-- ---- distances with signs
distance_is : (v x : ℕ) → nat_abs (pos v -ℤ pos x) ≡ gap v x
distance_is v x = omega (arith, ints)

-- a float below 0 is as far from v as one that lies above 0 is below -v
past_zero : (v x : ℕ) → nat_abs (pos v -ℤ neg_ℤ (pos x)) ≡ v + x
past_zero v x = omega (arith, ints)

signed_times : (b : Bool) (x d : ℕ) → with_sign b x *ℤ pos d ≡ with_sign b (x * d)
signed_times false x d = refl
signed_times true x d = Rattle.fixed_word.proofs.Wraps.neg-times x d

no_size : (x d : ℕ) → 0 < d → x * d ≡ 0 → x ≡ 0
no_size zero d D e = refl
no_size (suc x) d D e = let p : 0 < suc x * d = mul-pos (omega arith) D in absurd (omega arith)

module _ (f : Format) (v d k m : ℕ) (D : 0 < d) (is : IsNear v (d * 2 ^ k) m) (high : hid f * (d * 2 ^ k) ≤ v) where
  -- the sign t and the size x of any float, whose field and fraction are c's
  signed_near : (t : Bool) (x r : ℕ) → r < hid f → gap v (m * 2 ^ k * d) ≤ nat_abs (pos v -ℤ with_sign t (least_floats f x r) *ℤ pos d)
  signed_near false x r R = rw (distance_is v (least_floats f x r * d)) (nearer f v d k m D is high x r R)
  signed_near true x r R =
      let z = nearer f v d k m D is high 0 0 (pow_pos (prec f - 1)) in
      rw (signed_times true (least_floats f x r) d, past_zero v (least_floats f x r * d)) (omega arith)

  signed_ties : (t : Bool) (x r : ℕ) → r < hid f → gap v (m * 2 ^ k * d) ≡ nat_abs (pos v -ℤ with_sign t (least_floats f x r) *ℤ pos d)
      → pos (m * 2 ^ k) ≢ with_sign t (least_floats f x r) → m % 2 ≡ 0
  signed_ties false x r R e n = ties f v d k m D is high x r R (rw (distance_is v (least_floats f x r * d)) at e) (λ s. n (ap pos s))
  signed_ties true x r R e n =
      let z = nearer f v d k m D is high 0 0 (pow_pos (prec f - 1)) in
      let p : gap v (m * 2 ^ k * d) ≡ v + least_floats f x r * d = rw (signed_times true (least_floats f x r) d, past_zero v (least_floats f x r * d)) at e in
      let none : least_floats f x r ≡ 0 = no_size (least_floats f x r) d D (omega arith) in
      ties f v d k m D is high 0 0 (pow_pos (prec f - 1)) (omega arith) (λ s. n (ap pos s ∙ sym (ap (with_sign true) none)))

-- ---- all of it
even_of : (k h m : ℕ) → h % 2 ≡ 0 → m % 2 ≡ 0 → (k * h + m) % 2 ≡ 0
even_of k h m H M =
    let e : h ≡ 2 * (h / 2) = omega arith in
    let p : k * h ≡ 2 * (k * (h / 2)) = ap (λ (z : ℕ). k * z) e ∙ native.Mathlib.Nat.mul_left_comm k 2 (h / 2) in
    omega arith

module _ (f : Format) (n j a g : ℕ) (lead : a + suc j ≡ 64) (lo : 2 ^ j ≤ n) (hi : n < 2 ^ suc j) (G : g ≤ 64) where
  abbrev value : ℕ
  value = n * 2 ^ low f

  abbrev scale : ℕ
  scale = Packing.dropped f n j a g lead lo hi G

  abbrev digits : ℕ
  digits = Packing.significand f n j a g lead lo hi G

  abbrev packed : ℕ
  packed = scale * hid f + digits

  near_is : IsNear value (2 ^ g * 2 ^ scale) digits
  near_is =
      subst (λ (z : ℕ). IsNear value (2 ^ g * 2 ^ scale) z)
      (sym (closest_nearest value (2 ^ g * 2 ^ scale)) ∙ Packing.keeps f n j a g lead lo hi G)
      (nearest_is value (2 ^ g * 2 ^ scale) (mul-pos (pow_pos g) (pow_pos scale)))

  high_is : hid f * (2 ^ g * 2 ^ scale) ≤ value
  high_is =
      let e : hid f * (2 ^ g * 2 ^ scale) ≡ 2 ^ (j + low f) =
      ap (λ (z : ℕ). hid f * z) (sym (pow-add 2 g scale))
      ∙ sym (pow-add 2 (prec f - 1) (g + scale))
      ∙ ap (λ (z : ℕ). 2 ^ z) {x = prec f - 1 + (g + scale)} {y = j + low f} (omega (arith, least_in f, digits_in f)) in
      subst (λ (z : ℕ). z ≤ value) (sym e) (Packing.moved_lo n j (low f) lo)

  read_is : (field_of f packed < ones f) × (least_floats f (field_of f packed) (fraction_of f packed) ≡ digits * 2 ^ scale)
  read_is = Packing.read_packed f n j a g lead lo hi G

  number_is : number_of f packed ≡ pos (digits * 2 ^ scale)
  number_is =
      (λ i. with_sign (below_top f packed (Packing.in_field f n j a g lead lo hi G) i) (least_floats f (field_of f packed) (fraction_of f packed)))
      ∙ ap pos read_is.1

  distance_at : distance f (pos n) (2 ^ g) packed ≡ gap value (digits * 2 ^ scale * 2 ^ g)
  distance_at = rw number_is (distance_is value (digits * 2 ^ scale * 2 ^ g))

  pub none_nearer : IsNearestOfAll f (pos n) (2 ^ g) packed
  none_nearer = record {
    finite = read_is.0;
    near = λ c h. rw distance_at (signed_near f value (2 ^ g) scale digits (pow_pos g) near_is high_is (nat_le (top f) c) (field_of f c) (fraction_of f c) (mod_below c (hid f) (pow_pos (prec f - 1))));
    tie = λ c h e w. even_of scale (hid f) digits (hid_even f)
        (signed_ties f value (2 ^ g) scale digits (pow_pos g) near_is high_is (nat_le (top f) c) (field_of f c) (fraction_of f c) (mod_below c (hid f) (pow_pos (prec f - 1)))
        (sym distance_at ∙ e) (λ s. w (number_is ∙ s)));
  }

zero_field : (f : Format) → field_of f 0 < ones f
zero_field binary32 = lit< tt
zero_field binary64 = lit< tt

zero_number : (f : Format) → number_of f 0 ≡ pos 0
zero_number binary32 = refl
zero_number binary64 = refl

zero_nearest : (f : Format) (d : ℕ) → IsNearestOfAll f (pos 0) d 0
zero_nearest f d = record {
  finite = zero_field f;
  near = λ c h. let e : distance f (pos 0) d 0 ≡ 0 = rw (zero_number f) (omega (arith, ints)) in omega (arith, e);
  tie = λ c h e w. refl;
}

pub nearest_of_all : (f : Format) (n g : ℕ) → g ≤ 64 → n < 2 ^ 64 → (b : ℕ) × (of_bits f b ≡ round f false n (2 ^ g)) × IsNearestOfAll f (pos n) (2 ^ g) b
nearest_of_all f zero g G N = (0, zero_is f (2 ^ g) (pow_pos g), zero_nearest f (2 ^ g))
nearest_of_all f (suc n) g G N =
    let t = leading_top 64 (suc n) (omega arith) N in
    let a = count_leading_zeros 64 (suc n) in
    (packed f (suc n) t.0 a g t.1 t.2 t.3 G, Packing.packed f (suc n) t.0 a g t.1 t.2 t.3 G, none_nearer f (suc n) t.0 a g t.1 t.2 t.3 G)
