-- Weighted sums of two words, and what is left when they are divided by both weights.
use Rattle.std.proofs.Common.{◌≡◌, ◌+◌, ◌-◌, ◌*◌, ◌^◌, ◌<◌, ◌≤◌, ◌≤ℤ◌, ◌<ℤ◌, ◌+ℤ◌, ◌*ℤ◌, ◌⊎◌, ℕ, suc, ℤ, pos, negsuc, Bool, true, false, refl, sym, ap, ◌∙◌, arith, inl, inr}
use Rattle.std.proofs.Math.Nat.{mul-add}
use Rattle.std.proofs.lemmas.Bool.{cases_lt}
use Rattle.std.proofs.lemmas.Int.{ints}
use Rattle.std.proofs.lemmas.Nat.{mul-le, pow_pos}
use borrow.Author.Differences.{up, down}
use Rattle.fixed_word.specs.Format.{InRange}
use Rattle.fixed_word.specs.Quotient.{floor_quotient}
use Rattle.fixed_word.proofs.QuotientLaws.{floor_quotient_is, floor_quotient_unique}
use Rattle.fixed_word.proofs.Wraps.{double, suc_times}
use Rattle.fixed_kernel.proofs.WholeRoom.{scaled_in}
use Rattle.fixed_table.specs.Interpolation.{on_line}

-- ---- products
times_split : (a : ℤ) (w r : ℕ) → a *ℤ pos (w + r) ≡ a *ℤ pos w +ℤ a *ℤ pos r
times_split (pos a) w r = omega (arith, ints, mul-add a w r)
times_split (negsuc a) w r = omega (arith, ints, mul-add (suc a) w r)

pub times_le : (a b : ℤ) (d : ℕ) → a ≤ℤ b → (a *ℤ pos d) ≤ℤ (b *ℤ pos d)
times_le a b d h =
    let u : up a + down b ≤ up b + down a = omega (arith, ints) in
    let r : d ≤ d = omega arith in
    omega (arith, ints, mul-le (up a + down b) d (up b + down a) d u r)

-- a product of numbers that are not in order is not either
times_less : (a b : ℤ) (d : ℕ) → (b +ℤ pos 1) ≤ℤ a → 0 < d → (a *ℤ pos d) ≤ℤ (b *ℤ pos d) → ⊥
times_less a b d h some l =
    let t = times_le (b +ℤ pos 1) a d h in
    let s = suc_times b d in
    omega (arith, ints)

cancel : (a b : ℤ) (d : ℕ) → 0 < d → (a *ℤ pos d) ≤ℤ (b *ℤ pos d) → a ≤ℤ b
cancel a b d some h =
    elim (cases_lt (up b + down a) (up a + down b)) [
      | inl less ↦ let s : (b +ℤ pos 1) ≤ℤ a = omega (arith, ints) in absurd (times_less a b d s some h)
      | inr fine ↦ omega (arith, ints)
    ]

floor_of : (a q : ℤ) (d : ℕ) → 0 < d → (a *ℤ pos d) <ℤ ((q +ℤ pos 1) *ℤ pos d) → a ≤ℤ q
floor_of a q d some h =
    elim (cases_lt (up q + down a) (up a + down q)) [
      | inl less ↦
          let s : (q +ℤ pos 1) ≤ℤ a = omega (arith, ints) in
          let t = times_le (q +ℤ pos 1) a d s in
          absurd (omega (arith, ints))
      | inr fine ↦ omega (arith, ints)
    ]

-- ---- the line
weighted_between : (a b : ℤ) (w r p : ℕ) → w + r ≡ p → a ≤ℤ b → ((a *ℤ pos p) ≤ℤ (a *ℤ pos w +ℤ b *ℤ pos r)) × ((a *ℤ pos w +ℤ b *ℤ pos r) ≤ℤ (b *ℤ pos p))
weighted_between a b w r p e h =
    let ea = ap (λ (n : ℕ). a *ℤ pos n) (sym e) ∙ times_split a w r in
    let eb = ap (λ (n : ℕ). b *ℤ pos n) (sym e) ∙ times_split b w r in
    let at_r = times_le a b r h in
    let at_w = times_le a b w h in
    (omega (arith, ints), omega (arith, ints))

-- the same where the second is the lower one
weighted_back : (a b : ℤ) (w r p : ℕ) → w + r ≡ p → b ≤ℤ a → ((b *ℤ pos p) ≤ℤ (a *ℤ pos w +ℤ b *ℤ pos r)) × ((a *ℤ pos w +ℤ b *ℤ pos r) ≤ℤ (a *ℤ pos p))
weighted_back a b w r p e h =
    let other : r + w ≡ p = omega arith in
    let i = weighted_between b a r w p other h in
    let low = i.0 in
    let high = i.1 in
    (omega (arith, ints), omega (arith, ints))

parts : (k part : ℕ) → part ≤ 2 ^ k → (2 ^ k - part) + part ≡ 2 ^ k
parts k part h = omega arith

either : (a b : ℤ) → (a ≤ℤ b) ⊎ (b ≤ℤ a)
either a b =
    elim (cases_lt (up b + down a) (up a + down b)) [
      | inl less ↦ inr (omega (arith, ints))
      | inr fine ↦ inl (omega (arith, ints))
    ]

-- the value lies between both ends
pub rises : (a b : ℤ) (k part : ℕ) → part ≤ 2 ^ k → a ≤ℤ b → (a ≤ℤ floor_quotient (on_line a b k part) (2 ^ k)) × (floor_quotient (on_line a b k part) (2 ^ k) ≤ℤ b)
rises a b k part small h =
    let p = pow_pos k in
    let q = floor_quotient (on_line a b k part) (2 ^ k) in
    let f = floor_quotient_is (on_line a b k part) (2 ^ k) p in
    let below = f.below in
    let above = f.above in
    let i = weighted_between a b (2 ^ k - part) part (2 ^ k) (parts k part small) h in
    let low = i.0 in
    let high = i.1 in
    (floor_of a q (2 ^ k) p (omega (arith, ints)), cancel q b (2 ^ k) p (omega (arith, ints)))

pub falls : (a b : ℤ) (k part : ℕ) → part ≤ 2 ^ k → b ≤ℤ a → (b ≤ℤ floor_quotient (on_line a b k part) (2 ^ k)) × (floor_quotient (on_line a b k part) (2 ^ k) ≤ℤ a)
falls a b k part small h =
    let p = pow_pos k in
    let q = floor_quotient (on_line a b k part) (2 ^ k) in
    let f = floor_quotient_is (on_line a b k part) (2 ^ k) p in
    let below = f.below in
    let above = f.above in
    let i = weighted_back a b (2 ^ k - part) part (2 ^ k) (parts k part small) h in
    let low = i.0 in
    let high = i.1 in
    (floor_of b q (2 ^ k) p (omega (arith, ints)), cancel q a (2 ^ k) p (omega (arith, ints)))

-- at the first end it is that end
pub at_start : (a b : ℤ) (k part : ℕ) → part ≡ 0 → floor_quotient (on_line a b k part) (2 ^ k) ≡ a
at_start a b k part e =
    let none : 2 ^ k - 0 ≡ 2 ^ k = omega arith in
    let zero_of_b : b *ℤ pos 0 ≡ pos 0 = times_zero b in
    let is : on_line a b k 0 ≡ a *ℤ pos (2 ^ k) = ap (λ (n : ℕ). a *ℤ pos n +ℤ b *ℤ pos 0) none ∙ (omega (arith, ints)) in
    let s = suc_times a (2 ^ k) in
    let p = pow_pos k in
    ap (λ (n : ℕ). floor_quotient (on_line a b k n) (2 ^ k)) e
    ∙ ap (λ (x : ℤ). floor_quotient x (2 ^ k)) is
    ∙ floor_quotient_unique (a *ℤ pos (2 ^ k)) a (2 ^ k) p (record { below = omega (arith, ints); above = omega (arith, ints) })
  where
    times_zero : (b : ℤ) → b *ℤ pos 0 ≡ pos 0
    times_zero b = omega (arith, ints)

-- ---- the word holds it
within : (s : Bool) (n : ℕ) (a b x : ℤ) → InRange s n a → InRange s n b → a ≤ℤ x → x ≤ℤ b → InRange s n x
within true n a b x i j l h = let u = i.0 in let v = j.1 in (omega (arith, ints), omega (arith, ints))
within false n a b x i j l h = let u = i.0 in let v = j.1 in (omega (arith, ints), omega (arith, ints))

pub value_fits : (s : Bool) (n k part : ℕ) (a b : ℤ) → part ≤ 2 ^ k → InRange s n a → InRange s n b → InRange s n (floor_quotient (on_line a b k part) (2 ^ k))
value_fits s n k part a b small i j =
    elim (either a b) [
      | inl h ↦ let r = rises a b k part small h in within s n a b (floor_quotient (on_line a b k part) (2 ^ k)) i j r.0 r.1
      | inr h ↦ let r = falls a b k part small h in within s n b a (floor_quotient (on_line a b k part) (2 ^ k)) j i r.0 r.1
    ]

pub sum_fits : (s t : Bool) (n m k part : ℕ) (a b x y : ℤ) → t ≡ s → 0 < n → m ≡ 2 * n → k ≤ n → part ≤ 2 ^ k → InRange s n a → InRange s n b → x ≡ a *ℤ pos (2 ^ k - part) → y ≡ b *ℤ pos part → InRange t m (x +ℤ y)
sum_fits s t n m k part a b x y e h l g small i j u v =
    let at_a = scaled_in s t n m k a a e h l g refl i in
    let at_b = scaled_in s t n m k b b e h l g refl j in
    let line = a *ℤ pos (2 ^ k - part) +ℤ b *ℤ pos part in
    rw (u, v) (elim (either a b) [
      | inl up_to ↦ let r = weighted_between a b (2 ^ k - part) part (2 ^ k) (parts k part small) up_to in within t m (a *ℤ pos (2 ^ k)) (b *ℤ pos (2 ^ k)) line at_a at_b r.0 r.1
      | inr down_to ↦ let r = weighted_back a b (2 ^ k - part) part (2 ^ k) (parts k part small) down_to in within t m (b *ℤ pos (2 ^ k)) (a *ℤ pos (2 ^ k)) line at_b at_a r.0 r.1
    ])

pub weight_fits : (s : Bool) (n w : ℕ) → 0 < n → w < 2 ^ (n - 1) → InRange s n (pos w)
weight_fits true n w h l = (omega (arith, ints), omega (arith, ints))
weight_fits false n w h l = let d = double n h in (omega (arith, ints), omega (arith, ints))
