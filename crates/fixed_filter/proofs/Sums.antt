-- The partial sums of a filter.
use Rattle.std.proofs.Common.{◌≡◌, ◌+◌, ◌-◌, ◌-ℤ◌, ◌<◌, ◌≤◌, ℕ, zero, suc, ℤ, pos, true, false, List, Bool, Option, Some, None, length, get_or, take, refl, sym, ap, ◌∙◌, arith, add-one, inl, inr}
use Rattle.std.specs.Prelude.{if◌then◌else◌, not, reverse}
use Rattle.std.specs.Option.{option_or}
use Rattle.std.proofs.lemmas.Bool.{cases_lt}
use Rattle.std.proofs.lemmas.Int.{ints}
use Rattle.std.proofs.lemmas.List.{get_or-reverse, length-reverse, take_all}
use Rattle.std.proofs.lemmas.List.Sums.{fold_more}
use Rattle.fixed_word.specs.Format.{fits}
use Rattle.fixed_word.specs.Policies.{checked}
use Rattle.fixed_kernel.specs.Rows.{exact_add_prod, exact_add_prod_at, exact_mul_add}
use Rattle.fixed_policy.specs.DotProduct.{dot, places, pairs, with_product}
use Rattle.fixed_policy.proofs.Parts.{pairs_length, pair_at}
use Rattle.fixed_filter.specs.declared.reply.Reply.TheVariants.{Value, Overflow}
use Rattle.fixed_filter.specs.Replies.{accumulator, misses, least_below, overflow_or, filter_reply}

-- where a product moves down it is that of a sum of products in one fraction
pub moved_down : (c a b : ℤ) (f g h : ℕ) → f ≤ (g + h) → exact_mul_add a b c ((g + h) - f) ≡ exact_add_prod c a b f g h
moved_down c a b f g h l =
    let places : pos ((g + h) - f) ≡ (pos (g + h) -ℤ pos f) = omega (arith, ints) in
    ap (exact_add_prod_at c a b) places

-- what checked answers says whether the number fits
checked_some : (s : Bool) (n : ℕ) (y z : ℤ) → Some z ≡ checked s n (Some y) → (z ≡ y) × (not (fits s n y) ≡ false)
checked_some s n y z e = by_test (fits s n y) refl e
  where
    by_test : (b : Bool) → fits s n y ≡ b → Some z ≡ (if b then Some y else None) → (z ≡ y) × (not (fits s n y) ≡ false)
    by_test true t e = (cc, ap not t)
    by_test false t e = absurd (cc)

checked_none : (s : Bool) (n : ℕ) (y : ℤ) → None ≡ checked s n (Some y) → not (fits s n y) ≡ true
checked_none s n y e = by_test (fits s n y) refl e
  where
    by_test : (b : Bool) → fits s n y ≡ b → None ≡ (if b then Some y else None) → not (fits s n y) ≡ true
    by_test true t e = absurd (cc)
    by_test false t e = ap not t

-- the walk has come to t, with sum: each partial sum so far fits
pub record IsAt (signed : Bool) (n : ℕ) (s : ℤ) (ps : List (ℤ × ℤ)) (t : ℕ) (sum : ℤ) : Type 0 where
  pub value : sum ≡ accumulator s ps t
  pub fitted : least_below (misses signed n s ps) t ≡ None

-- ---- the least number that passes
least_none : (p : ℕ → Bool) (t : ℕ) → p t ≡ false → least_below p t ≡ None → least_below p (t + 1) ≡ None
least_none p t miss none = rw add-one (ap (λ (o : Option ℕ). option_or o (if p t then Some t else None)) none ∙ ap (λ (b : Bool). if b then Some t else None) miss)

least_found : (p : ℕ → Bool) (t : ℕ) → p t ≡ true → least_below p t ≡ None → least_below p (suc t) ≡ Some t
least_found p t hit none = ap (λ (o : Option ℕ). option_or o (if p t then Some t else None)) none ∙ ap (λ (b : Bool). if b then Some t else None) hit

-- it stays the least where more are looked at
least_stays : (p : ℕ → Bool) (t k : ℕ) → p t ≡ true → least_below p t ≡ None → t < k → least_below p k ≡ Some t
least_stays p t zero hit none h = absurd (omega arith)
least_stays p t (suc k) hit none h = elim (cases_lt t k) [
  | inl less ↦ ap (λ (o : Option ℕ). option_or o (if p k then Some k else None)) (least_stays p t k hit none less)
  | inr same ↦ let e : suc k ≡ suc t = omega arith in ap (least_below p) e ∙ least_found p t hit none
]

module _ {X Y : Type 0} (left : X → ℤ) (right : Y → ℤ) (signed : Bool) (n f g h : ℕ) (taps : List X) (past : List Y) (same : length taps ≡ length past) where
  -- one step on, by a tap and its sample
  module _ (sum : ℤ) (t : ℕ) (tap : X) (sample : Y) (there : t < length taps) (is_tap : tap ≡ get_or taps t tap) (is_sample : sample ≡ get_or past t sample) (a : IsAt signed n (places f g h) (pairs left right taps past) t sum) where
    step_is : exact_add_prod sum (left tap) (right sample) f g h ≡ accumulator (places f g h) (pairs left right taps past) (t + 1)
    step_is =
        let s = places f g h in
        let ps = pairs left right taps past in
        let in_pairs : t < length ps = omega (arith, pairs_length left right taps past same) in
        ap (λ (c : ℤ). with_product s c (left tap, right sample)) a.value
        ∙ ap (with_product s (dot s (pos 0) (take t ps))) (pair_at left right taps past same t tap sample there is_tap is_sample)
        ∙ sym (fold_more (with_product s) (pos 0) ps t (left tap, right sample) in_pairs)

    pub steps : (next : ℤ) → Some next ≡ checked signed n (Some (exact_add_prod sum (left tap) (right sample) f g h)) → IsAt signed n (places f g h) (pairs left right taps past) (t + 1) next
    steps next e =
        let p = checked_some signed n (exact_add_prod sum (left tap) (right sample) f g h) next e in
        let hit : misses signed n (places f g h) (pairs left right taps past) t ≡ false = sym (ap (λ (z : ℤ). not (fits signed n z)) step_is) ∙ p.1 in
        record { value = p.0 ∙ step_is; fitted = least_none (misses signed n (places f g h) (pairs left right taps past)) t hit a.fitted }

    pub stops : None ≡ checked signed n (Some (exact_add_prod sum (left tap) (right sample) f g h)) → Overflow t ≡ filter_reply signed n (places f g h) (pairs left right taps past)
    stops e =
        let p = checked_none signed n (exact_add_prod sum (left tap) (right sample) f g h) e in
        let miss : misses signed n (places f g h) (pairs left right taps past) t ≡ true = sym (ap (λ (z : ℤ). not (fits signed n z)) step_is) ∙ p in
        let long = pairs_length left right taps past same in
        sym (ap (overflow_or (accumulator (places f g h) (pairs left right taps past) (length (pairs left right taps past)))) (least_stays (misses signed n (places f g h) (pairs left right taps past)) t (length (pairs left right taps past)) miss a.fitted (omega arith)))

  pub ends : (sum : ℤ) (t : ℕ) → t ≡ length taps → IsAt signed n (places f g h) (pairs left right taps past) t sum → Value sum ≡ filter_reply signed n (places f g h) (pairs left right taps past)
  ends sum t all a =
      let ps = pairs left right taps past in
      let long : length ps ≡ t = pairs_length left right taps past same ∙ sym all in
      sym (ap (λ (k : ℕ). overflow_or (accumulator (places f g h) ps k) (least_below (misses signed n (places f g h) ps) k)) long ∙ ap (overflow_or (accumulator (places f g h) ps t)) a.fitted ∙ ap (λ (z : ℤ). Value z) (sym a.value))

-- ---- slices of as many samples as there are taps
module _ {X Y : Type 0} (taps : List X) (samples : List Y) (same : length taps ≡ length samples) where
  pub as_many : take (length taps) samples ≡ samples
  as_many = take_all (length taps) samples (omega (arith, same))

  pub of_slice : length taps ≡ length (take (length taps) samples)
  of_slice = same ∙ sym (ap length as_many)

  pub of_turned : length taps ≡ length (reverse (take (length taps) samples))
  of_turned = of_slice ∙ sym (length-reverse (take (length taps) samples))

  -- the sample that stands so far from the end
  pub from_end : (i : ℕ) (sample : Y) → i < length taps → sample ≡ get_or (take (length taps) samples) (length taps - 1 - i) sample → sample ≡ get_or (reverse (take (length taps) samples)) i sample
  from_end i sample there is =
      let window = take (length taps) samples in
      is ∙ ap (λ (n : ℕ). get_or window (n - 1 - i) sample) of_slice ∙ sym (get_or-reverse window i sample (omega (arith, of_slice)))
