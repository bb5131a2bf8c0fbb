-- Tables: the value between two points, at them, and past the last.
use Rattle.std.proofs.Common.{◌≡◌, ◌+◌, ◌-◌, ◌*◌, ◌/◌, ◌^◌, ◌<◌, ◌≤◌, ℕ, zero, suc, ℤ, Bool, true, false, List, [], ◌∷◌, length, get_or, Some, refl, sym, ap, ◌∙◌, arith, inl, inr}
use Rattle.std.specs.Prelude.{nat_lt, slice_get, if◌then◌else◌}
use Rattle.std.proofs.Math.Nat.{suc-mul}
use Rattle.std.proofs.lemmas.Bool.{cases_lt}
use Rattle.std.proofs.lemmas.Bool.Decides.{nat_tests}
use Rattle.std.proofs.lemmas.Nat.{div-add-mod', mod_below, mul-le, pow_pos}
use Rattle.std.proofs.lemmas.Option.{slice_get-get_or, slice_get_within}
use Rattle.fixed_word.specs.Quotient.{floor_quotient}
use Rattle.fixed_table.specs.Interpolation.{interpolated, on_line}
use Rattle.fixed_table.proofs.Weights.{at_start}

below : (a b : ℕ) → a < b → nat_lt a b ≡ true
below a b h = grind (arith, nat_tests)

not_below : (a b : ℕ) → b ≤ a → nat_lt a b ≡ false
not_below a b h = grind (arith, nat_tests)

module _ (k : ℕ) where
  here : (a b : ℤ) (rest : List ℤ) (units : ℕ) → units < 2 ^ k → interpolated k (a ∷ (b ∷ rest)) units ≡ floor_quotient (on_line a b k units) (2 ^ k)
  here a b rest units h =
      ap (λ (t : Bool). if t then floor_quotient (on_line a b k units) (2 ^ k) else interpolated k (b ∷ rest) (units - 2 ^ k)) (below units (2 ^ k) h)

  further : (a b : ℤ) (rest : List ℤ) (units : ℕ) → 2 ^ k ≤ units → interpolated k (a ∷ (b ∷ rest)) units ≡ interpolated k (b ∷ rest) (units - 2 ^ k)
  further a b rest units h =
      ap (λ (t : Bool). if t then floor_quotient (on_line a b k units) (2 ^ k) else interpolated k (b ∷ rest) (units - 2 ^ k)) (not_below units (2 ^ k) h)

  pub between : (vs : List ℤ) (i part : ℕ) (d : ℤ) → i + 1 < length vs → part < 2 ^ k → interpolated k vs (i * 2 ^ k + part) ≡ floor_quotient (on_line (get_or vs i d) (get_or vs (i + 1) d) k part) (2 ^ k)
  between [] i part d there small = absurd (omega (arith, there))
  between (a ∷ []) i part d there small = absurd (omega (arith, there))
  between (a ∷ (b ∷ rest)) zero part d there small =
      let units : zero * 2 ^ k + part ≡ part = omega arith in
      ap (interpolated k (a ∷ (b ∷ rest))) units ∙ here a b rest part small
  between (a ∷ (b ∷ rest)) (suc i) part d there small =
      let more = suc-mul i (2 ^ k) in
      let next : suc i + 1 ≡ suc (i + 1) = omega arith in
      let left : suc i * 2 ^ k + part - 2 ^ k ≡ i * 2 ^ k + part = omega arith in
      further a b rest (suc i * 2 ^ k + part) (omega arith)
      ∙ ap (interpolated k (b ∷ rest)) left
      ∙ between (b ∷ rest) i part d (omega (arith, there)) small
      ∙ ap (λ (j : ℕ). floor_quotient (on_line (get_or (b ∷ rest) i d) (get_or (a ∷ (b ∷ rest)) j d) k part) (2 ^ k)) (sym next)

  pub past_last : (vs : List ℤ) (n units : ℕ) (d : ℤ) → length vs ≡ n + 1 → n * 2 ^ k ≤ units → interpolated k vs units ≡ get_or vs n d
  past_last [] n units d count far = absurd (omega (arith, count))
  past_last (a ∷ []) zero units d count far = refl
  past_last (a ∷ []) (suc n) units d count far = absurd (omega (arith, count))
  past_last (a ∷ (b ∷ rest)) zero units d count far = absurd (omega (arith, count))
  past_last (a ∷ (b ∷ rest)) (suc n) units d count far =
      let more = suc-mul n (2 ^ k) in
      further a b rest units (omega arith) ∙ past_last (b ∷ rest) n (units - 2 ^ k) d (omega (arith, count)) (omega arith)

-- ---- by what a slice gives
module _ (k i : ℕ) (values : List ℤ) where
  given : (j : ℕ) (v d : ℤ) → slice_get values j ≡ Some v → get_or values j d ≡ v
  given j v d e =
      let there = slice_get_within values j v e in
      let same : Some (get_or values j d) ≡ Some v = sym (slice_get-get_or values j d there) ∙ e in
      cc

  pub at_point : (v : ℤ) → slice_get values i ≡ Some v → interpolated k values (i * 2 ^ k) ≡ v
  at_point v e =
      let there = slice_get_within values i v e in
      let p = pow_pos k in
      elim (cases_lt i (length values - 1)) [
        | inl inner ↦
            let none : i * 2 ^ k ≡ i * 2 ^ k + 0 = omega arith in
            ap (interpolated k values) none
            ∙ between k values i 0 v (omega arith) p
            ∙ at_start (get_or values i v) (get_or values (i + 1) v) k 0 refl
            ∙ given i v v e
        | inr last ↦
            past_last k values i (i * 2 ^ k) v (omega arith) (omega arith) ∙ given i v v e
      ]

  pub on_the_line : (part : ℕ) (a b : ℤ) → slice_get values i ≡ Some a → slice_get values (i + 1) ≡ Some b → part < 2 ^ k → interpolated k values (i * 2 ^ k + part) ≡ floor_quotient (on_line a b k part) (2 ^ k)
  on_the_line part a b e f small =
      let there = slice_get_within values (i + 1) b f in
      between k values i part a there small
      ∙ ap (λ (x : ℤ). floor_quotient (on_line x (get_or values (i + 1) a) k part) (2 ^ k)) (given i a a e)
      ∙ ap (λ (x : ℤ). floor_quotient (on_line a x k part) (2 ^ k)) (given (i + 1) b a f)

-- ---- by the number of whole steps
module _ (k : ℕ) (values : List ℤ) where
  pub at_last : (n units : ℕ) (d : ℤ) → length values ≡ n + 1 → n ≤ units / 2 ^ k → interpolated k values units ≡ get_or values n d
  at_last n units d count far =
      let e = div-add-mod' units (2 ^ k) in
      let same : 2 ^ k ≤ 2 ^ k = omega arith in
      past_last k values n units d count (omega (arith, mul-le n (2 ^ k) (units / 2 ^ k) (2 ^ k) far same))

  pub at_inner : (units : ℕ) (d : ℤ) → units / 2 ^ k + 1 < length values → interpolated k values units ≡ floor_quotient (on_line (get_or values (units / 2 ^ k) d) (get_or values (units / 2 ^ k + 1) d) k (units - units / 2 ^ k * 2 ^ k)) (2 ^ k)
  at_inner units d there =
      let q = units / 2 ^ k in
      let e = div-add-mod' units (2 ^ k) in
      let b = mod_below units (2 ^ k) (pow_pos k) in
      let whole : q * 2 ^ k + (units - q * 2 ^ k) ≡ units = omega arith in
      ap (interpolated k values) (sym whole) ∙ between k values q (units - q * 2 ^ k) d there (omega arith)
