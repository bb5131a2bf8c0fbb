-- What a pattern stands for.
use Rattle.std.proofs.Common.{◌≡◌, ◌≢◌, ◌+◌, ◌-◌, ◌*◌, ◌/◌, ◌^◌, ◌<◌, ◌≤◌, ℕ, zero, suc, Bool, false, T, not, ap, sym, ◌∙◌, subst, arith, inl, inr}
use native.Mathlib.Nat.{le_trans, mod-eq_of_lt, mod-le, mul-le-mul_right, mul_assoc, mul_comm, pow-succ'}
use lib.Arith.{digits_div, digits_mod}
use lib.Pow.{pow_pos}
use Rattle.std.proofs.lemmas.Bool.{cases_lt}
use mathlib.Core.Bool.{cond}
use lib.Dec.{eqb, leb}
use borrow.Author.Tests.{eq-eqb, lt-leb, ne_eqb}
use Rattle.std.specs.Float.{Format, nan, inf}
use lib.Ieee.{hid, low, nan_bits, of_bits, of_fields, odd, ones, prec, top}
use lib.Ieee.Exact.{HasValue, odd_sign}
use Rattle.fixed_float.proofs.Formats.{below_nans}
use Rattle.fixed_float.specs.Patterns.{field_of, fraction_of, least_floats}

fields_value : (f : Format) (s : Bool) (x t : ℕ) → x < ones f → HasValue (of_fields f s x t) s (least_floats f x t) (2 ^ low f)
unfolding of_fields
fields_value f s zero t X = subst (λ (k : ℕ). HasValue (odd (prec f) s t 0 (low f)) s k (2 ^ low f)) {x = t * 2 ^ 0} {y = t} (omega arith) (odd_sign (prec f) s t 0 (low f))
fields_value f s (suc j) t X =
    subst (λ (k : Bool). HasValue (cond k (cond (eqb t 0) (inf s) nan) (odd (prec f) s (hid f + t) j (low f))) s ((hid f + t) * 2 ^ j) (2 ^ low f))
    (sym (ne_eqb (suc j) (ones f) (omega arith))) (odd_sign (prec f) s (hid f + t) j (low f))

pub pattern_value : (f : Format) (b : ℕ) → field_of f b < ones f → HasValue (of_bits f b) (leb (top f) b) (least_floats f (field_of f b) (fraction_of f b)) (2 ^ low f)
unfolding of_bits
pattern_value f b h = fields_value f (leb (top f) b) (field_of f b) (fraction_of f b) h

at_ones : (f : Format) (s : Bool) (x t : ℕ) → x ≡ ones f → of_fields f s x t ≡ cond (eqb t 0) (inf s) nan
unfolding of_fields
at_ones f s zero t e = absurd (omega arith)
at_ones f s (suc x) t e = ap (λ (k : Bool). cond k (cond (eqb t 0) (inf s) nan) (odd (prec f) s (hid f + t) x (low f))) (eq-eqb (suc x) (ones f) e)

pub pattern_infinite : (f : Format) (b : ℕ) → field_of f b ≡ ones f → fraction_of f b ≡ 0 → of_bits f b ≡ inf (leb (top f) b)
unfolding of_bits
pattern_infinite f b h z = at_ones f (leb (top f) b) (field_of f b) (fraction_of f b) h ∙ ap (λ (k : Bool). cond k (inf (leb (top f) b)) nan) (eq-eqb (fraction_of f b) 0 z)

pub pattern_nan : (f : Format) (b : ℕ) → field_of f b ≡ ones f → fraction_of f b ≢ 0 → of_bits f b ≡ nan
unfolding of_bits
pattern_nan f b h z = at_ones f (leb (top f) b) (field_of f b) (fraction_of f b) h ∙ ap (λ (k : Bool). cond k (inf (leb (top f) b)) nan) (ne_eqb (fraction_of f b) 0 z)

-- ---- the pattern of m * 2 ^ k least floats
pub fields_at : (f : Format) (x t : ℕ) → x ≤ ones f → t < hid f → (field_of f (x * hid f + t) ≡ x) × (fraction_of f (x * hid f + t) ≡ t)
fields_at f x t X H =
    let l : x * hid f + t < top f = omega (arith, mul-le-mul_right (hid f) X) in
    (ap (λ (z : ℕ). z / hid f) (mod-eq_of_lt l) ∙ digits_div x H, digits_mod x H)

module _ (f : Format) (m k : ℕ) (lo : hid f ≤ m) (hi : m ≤ 2 * hid f) (room : k + 2 < ones f) where
  abbrev pattern : ℕ
  pattern = k * hid f + m

  abbrev pub Read : Type 0
  Read = (field_of f pattern < ones f) × (least_floats f (field_of f pattern) (fraction_of f pattern) ≡ m * 2 ^ k)

  some : 0 < hid f
  some = pow_pos (prec f - 1)

  read_at : (x t : ℕ) → suc x < ones f → t < hid f → pattern ≡ suc x * hid f + t → (hid f + t) * 2 ^ x ≡ m * 2 ^ k → Read
  read_at x t X H e v =
      let at = fields_at f (suc x) t (omega arith) H in
      let field : field_of f pattern ≡ suc x = ap (field_of f) e ∙ at.0 in
      let fraction : fraction_of f pattern ≡ t = ap (fraction_of f) e ∙ at.1 in
      (omega (arith, field), (λ i. least_floats f (field i) (fraction i)) ∙ v)

  pub read_back : Read
  read_back =
      elim (cases_lt m (2 * hid f)) [
        | inl l ↦
            let e : hid f + (m - hid f) ≡ m = omega arith in
            read_at k (m - hid f) (omega arith) (omega arith) (omega arith) (ap (λ (z : ℕ). z * 2 ^ k) e)
        | inr g ↦
            let e : 2 * hid f ≡ m = omega arith in
            let v : (hid f + 0) * 2 ^ suc k ≡ 2 * hid f * 2 ^ k =
            ap (λ (z : ℕ). (hid f + 0) * z) (pow-succ' 2 k) ∙ sym (mul_assoc (hid f + 0) 2 (2 ^ k)) ∙ ap (λ (z : ℕ). z * 2 ^ k) {x = (hid f + 0) * 2} {y = 2 * hid f} (omega arith) in
            read_at (suc k) 0 (omega arith) some (omega arith) (v ∙ ap (λ (z : ℕ). z * 2 ^ k) e)
      ]

pub below_top : (f : Format) (b : ℕ) → b ≤ ones f * hid f → leb (top f) b ≡ false
below_top f b h = lt-leb (top f) b (omega (arith, h, mul_comm (hid f) (ones f), pow_pos (prec f - 1)))

-- ---- the pattern of the field suc x and the fraction t
module _ (f : Format) (x t : ℕ) (X : suc x < ones f) (H : t < hid f) where
  abbrev pub packed : ℕ
  packed = suc x * hid f + t

  room : packed ≤ ones f * hid f
  room = omega (arith, mul-le-mul_right (hid f) X)

  pub packed_not_nan : T (not (nan_bits f packed))
  packed_not_nan = below_nans f packed (le_trans (mod-le packed (top f)) room)

  pub packed_value : HasValue (of_bits f packed) false ((hid f + t) * 2 ^ x) (2 ^ low f)
  packed_value =
      let at = fields_at f (suc x) t (omega arith) H in
      let finite : field_of f packed < ones f = omega (arith, at.0) in
      subst (λ (s : Bool). HasValue (of_bits f packed) s ((hid f + t) * 2 ^ x) (2 ^ low f)) (below_top f packed room)
      (subst (λ (z : ℕ). HasValue (of_bits f packed) (leb (top f) packed) z (2 ^ low f)) (λ i. least_floats f (at.0 i) (at.1 i)) (pattern_value f packed finite))
