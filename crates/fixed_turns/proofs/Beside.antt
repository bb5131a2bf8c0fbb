-- On which side of a direction in radians a point lies.
use Rattle.std.proofs.Common.{◌≡◌, ◌≢◌, ◌⊎◌, ◌+◌, ◌*◌, ◌^◌, ◌<◌, ◌≤◌, ◌<ℤ◌, ◌≤ℤ◌, ◌+ℤ◌, ◌*ℤ◌, unsigned_abs, ℕ, ℤ, Bool, true, false, not, pos, negsuc, neg_ℤ, zero, suc, inl, inr, refl, subst, sym, ap, ◌∙◌, arith}
use Rattle.std.proofs.lemmas.Int.{ints}
use Rattle.std.proofs.Math.IntN.{*ℤ_comm}
use Rattle.std.proofs.Math.Nat.{le_of_mul-le-mul_left, mul-le-mul_right, mul-le-mul_left}
use Rattle.fixed_word.specs.Format.{with_sign}
use Rattle.fixed_turns.specs.Angles.{is_below}
use Rattle.fixed_turns.specs.RadianAngles.{IsLeft, IsLeftBy, IsRight, IsRightBy, IsSide, IsSideWith}
use Rattle.fixed_turns.specs.Radians.{IsReduced, parts}
use Rattle.fixed_turns.specs.Series.{Fraction, cosine_series, sine_series}
use Rattle.fixed_turns.specs.Sines.{pi, sine_room}
use Rattle.fixed_turns.specs.inside.Rests.{IsBesidePi, IsClose, IsSplit, IsUnder, reach}
use Rattle.fixed_turns.proofs.RadianSines.{pi_high, pi_low}
use Rattle.fixed_turns.proofs.Reach.{room}
use Rattle.fixed_turns.proofs.TurnLaws.{negative_times, other_way}
use Rattle.fixed_turns.proofs.Turning.{no_sign}

-- ---- signs
signed_size : (b : Bool) (n : ℕ) → unsigned_abs (with_sign b n) ≡ n
signed_size true zero = refl
signed_size true (suc n) = refl
signed_size false n = refl

signed_times : (b : Bool) (m n : ℕ) → with_sign b m *ℤ pos n ≡ with_sign b (m * n)
signed_times true m n = negative_times (pos m) n
signed_times false m n = refl

times_signed : (b : Bool) (m n : ℕ) → pos m *ℤ with_sign b n ≡ with_sign b (m * n)
times_signed b m n = *ℤ_comm (pos m) (with_sign b n) ∙ signed_times b n m ∙ ap (with_sign b) (turned m n)
  where
    turned : (m n : ℕ) → n * m ≡ m * n
    turned m n = omega arith

-- ---- products v of sums, close to p k in units of 1 / e, keep their order
ordered : (b u : Bool) (m n d v w p q k e t s : ℕ) → 0 < e → v ≡ m * d → w ≡ n * d → with_sign b m ≤ℤ with_sign u n → v ≤ e * (k * p) + e * t → e * (k * p) ≤ v + e * t → w ≤ e * (k * q) + e * s → e * (k * q) ≤ w + e * s
    → with_sign b (k * p) ≤ℤ (with_sign u (k * q) +ℤ pos (t + s))
ordered true true m n d v w p q k e t s o ev ew le vl vh wl wh =
    let h : n ≤ m = omega (arith, ints, le) in
    let g = mul-le-mul_right d h in
    let f : e * (k * q) ≤ e * (k * p + (t + s)) = omega arith in
    let r = le_of_mul-le-mul_left f o in
    omega (arith, ints)
ordered false false m n d v w p q k e t s o ev ew le vl vh wl wh =
    let h : m ≤ n = omega (arith, ints, le) in
    let g = mul-le-mul_right d h in
    let f : e * (k * p) ≤ e * (k * q + (t + s)) = omega arith in
    let r = le_of_mul-le-mul_left f o in
    omega (arith, ints)
ordered true false m n d v w p q k e t s o ev ew le vl vh wl wh = omega (arith, ints)
ordered false true m n d v w p q k e t s o ev ew le vl vh wl wh =
    let a : m ≡ 0 = omega (arith, ints, le) in
    let b : n ≡ 0 = omega (arith, ints, le) in
    let g : v ≡ 0 = ev ∙ ap (λ (j : ℕ). j * d) a ∙ none d in
    let h : w ≡ 0 = ew ∙ ap (λ (j : ℕ). j * d) b ∙ none d in
    let f : e * (k * p + k * q) ≤ e * (t + s) = omega arith in
    let r = le_of_mul-le-mul_left f o in
    omega (arith, ints)
  where
    none : (d : ℕ) → 0 * d ≡ 0
    none d = omega arith

-- a product by a sum u, which is close to f
close_low : (a u n d g e k w : ℕ) → e * k ≡ w → u * d ≤ n * w + e * d → a * u * (d * g) ≤ e * (k * (a * (n * g))) + e * (a * (d * g))
close_low a u n d g e k w is l =
    let h = mul-le-mul_left (a * g) l in
    let x = ap (λ (j : ℕ). j * (a * n * g)) is in
    omega arith

close_high : (a u n d g e k w : ℕ) → e * k ≡ w → n * w ≤ (u + e) * d → e * (k * (a * (n * g))) ≤ a * u * (d * g) + e * (a * (d * g))
close_high a u n d g e k w is l =
    let h = mul-le-mul_left (a * g) l in
    let x = ap (λ (j : ℕ). j * (a * n * g)) is in
    omega arith

-- ---- (a, b) or (a, -b), and a direction by its sums
turn_den : (a d g : ℕ) → a * (g * d) ≡ a * (d * g)
turn_den a d g = omega arith

abbrev slack : ℕ → ℤ → Fraction → Fraction → ℕ
slack a y s c = (unsigned_abs (pos a) + unsigned_abs y) * (s.den * c.den)

across_is : (k a : ℕ) (t : Bool) (s c : Fraction) → pos k *ℤ (pos a *ℤ with_sign t (s.num * c.den)) ≡ with_sign t (k * (a * (s.num * c.den)))
across_is k a t s c = ap (λ (z : ℤ). pos k *ℤ z) (times_signed t a (s.num * c.den)) ∙ times_signed t k (a * (s.num * c.den))

along_is : (k b : ℕ) (u : Bool) (s c : Fraction) → pos k *ℤ (with_sign u b *ℤ pos (c.num * s.den)) ≡ with_sign u (k * (b * (c.num * s.den)))
along_is k b u s c = ap (λ (z : ℤ). pos k *ℤ z) (signed_times u b (c.num * s.den)) ∙ times_signed u k (b * (c.num * s.den))

slack_is : (a b : ℕ) (u : Bool) (s c : Fraction) → slack a (with_sign u b) s c ≡ a * (s.den * c.den) + b * (s.den * c.den)
slack_is a b u s c = ap (λ (n : ℕ). (a + n) * (s.den * c.den)) (signed_size u b) ∙ shared a b (s.den * c.den)
  where
    shared : (a b d : ℕ) → (a + b) * d ≡ a * d + b * d
    shared a b d = omega arith

not_under : (a : ℕ) → pos 0 ≤ℤ pos a
not_under a = omega (arith, ints)

pub left_of : (bits a b v w : ℕ) (t u : Bool) (s c : Fraction) → with_sign t (a * v) ≤ℤ with_sign u (b * w) → IsClose (reach bits) v s → IsClose (reach bits) w c → IsLeft (sine_room bits) t (pos a) (with_sign u b) s c
left_of bits a b v w t u s c le x y =
    let r = room bits in
    let e = reach bits in
    let k = 2 ^ sine_room bits in
    let d = s.den * c.den in
    let yl = close_low b w c.num c.den s.den e k (2 ^ 64) r.1.0 y.below in
    let yh = close_high b w c.num c.den s.den e k (2 ^ 64) r.1.0 y.above in
    let o = ordered t u (a * v) (b * w) d (a * v * d) (b * w * d) (a * (s.num * c.den)) (b * (c.num * s.den)) k e (a * d) (b * d) r.0 refl refl le
    (close_low a v s.num s.den c.den e k (2 ^ 64) r.1.0 x.below) (close_high a v s.num s.den c.den e k (2 ^ 64) r.1.0 x.above)
    (rw (turn_den (b * w) s.den c.den, turn_den b s.den c.den) at yl) (rw (turn_den (b * w) s.den c.den, turn_den b s.den c.den) at yh) in
    (not_under a, rw (across_is k a t s c, along_is k b u s c, slack_is a b u s c) o)

pub right_of : (bits a b v w : ℕ) (t u : Bool) (s c : Fraction) → with_sign u (b * w) ≤ℤ with_sign t (a * v) → IsClose (reach bits) v s → IsClose (reach bits) w c → IsRight (sine_room bits) t (pos a) (with_sign u b) s c
right_of bits a b v w t u s c le x y =
    let r = room bits in
    let e = reach bits in
    let k = 2 ^ sine_room bits in
    let d = s.den * c.den in
    let yl = close_low b w c.num c.den s.den e k (2 ^ 64) r.1.0 y.below in
    let yh = close_high b w c.num c.den s.den e k (2 ^ 64) r.1.0 y.above in
    let o = ordered u t (b * w) (a * v) d (b * w * d) (a * v * d) (b * (c.num * s.den)) (a * (s.num * c.den)) k e (b * d) (a * d) r.0 refl refl le
    (rw (turn_den (b * w) s.den c.den, turn_den b s.den c.den) at yl) (rw (turn_den (b * w) s.den c.den, turn_den b s.den c.den) at yh)
    (close_low a v s.num s.den c.den e k (2 ^ 64) r.1.0 x.below) (close_high a v s.num s.den c.den e k (2 ^ 64) r.1.0 x.above) in
    let more : slack a (with_sign u b) s c ≡ b * d + a * d = slack_is a b u s c ∙ other_sum (a * d) (b * d) in
    (not_under a, rw (across_is k a t s c, along_is k b u s c, more) o)
  where
    other_sum : (m n : ℕ) → m + n ≡ n + m
    other_sum m n = omega arith

-- the sign of a rest that may be 0
pub rest_sign : (t below : Bool) (x v a : ℕ) → (t ≡ below) ⊎ (x ≡ 0) → (x ≡ 0 → v ≡ 0) → with_sign t (a * v) ≡ with_sign below (a * v)
rest_sign t below x v a (inl e) none = ap (λ (b : Bool). with_sign b (a * v)) e
rest_sign t below x v a (inr z) none =
    let e : a * v ≡ 0 = ap (λ (j : ℕ). a * j) (none z) ∙ times_none a in
    no_sign t (a * v) e ∙ sym (no_sign below (a * v) e)
  where
    times_none : (a : ℕ) → a * 0 ≡ 0
    times_none a = omega arith

-- ---- a direction of quarters and a rest
reduced : (p h g n rest : ℕ) (t : Bool) → n ≤ 2 → pos (2 * 10 ^ 39 * h) ≡ pos (n * (p * 2 ^ g)) +ℤ with_sign t rest → rest ≤ 2 * 10 ^ 39 * 2 ^ g → IsReduced p (pos h) g (pos 0) n t rest
reduced p h g n rest t few is small =
    let e : pos 4 *ℤ pos 0 +ℤ pos n ≡ pos n = omega (arith, ints) in
    record { is = is ∙ ap (λ (z : ℤ). z *ℤ pos (p * 2 ^ g) +ℤ with_sign t rest) (sym e); quarters = omega arith; small = small }

-- what holds by each split
pub by_split : (side : ℕ → Bool → ℤ → ℤ → Fraction → Fraction → Type 0) (x y : ℤ) (h g n v : ℕ) (below : Bool) → n ≤ 2 → ((p : ℕ) → IsBesidePi p → IsSplit p h g n below v)
    → ((t : Bool) (f : Fraction) → IsUnder 2 v f → (t ≡ below) ⊎ (v ≡ 0) → (i j : ℕ) → side n t x y (sine_series f (i + 10)) (cosine_series f (j + 10))) → IsSide side x y h g
by_split side x y h g n v below few split holds = record { low = with_p pi (split pi pi_low); high = with_p (pi + 1) (split (pi + 1) pi_high) }
  where
    with_p : (p : ℕ) → IsSplit p h g n below v → IsSideWith side p x y h g
    with_p p s = record { q = n; below = s.sign; rest = s.rest; angle = reduced p h g n s.rest s.sign few s.is s.small; holds = holds s.sign (parts s.rest g) s.under s.sure }

-- ---- by quarters
is_under : (x : ℕ) (v : ℤ) → v ≡ with_sign true x → true ≡ is_below v → v <ℤ pos 0
is_under x (pos n) e b = absurd (cc)
is_under x (negsuc n) e b = omega (arith, ints)

pub is_off : (b : Bool) → not b ≡ true → b ≡ false
is_off true e = absurd (cc)
is_off false e = refl

pub not_left : (x : ℕ) (l : Bool) (v : ℤ) → l ≡ false → v ≡ with_sign l x → v ≡ pos x
not_left x true v f e = absurd (cc)
not_left x false v f e = e

pub left_none : (k n x : ℕ) (l t : Bool) (v y : ℤ) (s c : Fraction) → n ≡ 0 → v ≡ with_sign l x → l ≡ is_below v → (l ≡ true) ⊎ ((l ≡ false) × IsLeft k t (pos x) y s c) → IsLeftBy k n t v y s c
unfolding IsLeftBy
left_none k zero x l t v y s c z e b (inl on) = inl (is_under x v (e ∙ ap (λ (d : Bool). with_sign d x) on) (sym on ∙ b))
left_none k zero x l t v y s c z e b (inr (off, h)) = inr (subst (λ (w : ℤ). IsLeft k t w y s c) (sym (not_left x l v off e)) h)
left_none k (suc n) x l t v y s c z e b h = absurd (omega arith)

pub right_none : (k n x : ℕ) (l t : Bool) (v y : ℤ) (s c : Fraction) → n ≡ 0 → v ≡ with_sign l x → l ≡ false → IsRight k t (pos x) y s c → IsRightBy k n t v y s c
unfolding IsRightBy
right_none k zero x l t v y s c z e off h = subst (λ (w : ℤ). IsRight k t w y s c) (sym (not_left x l v off e)) h
right_none k (suc n) x l t v y s c z e off h = absurd (omega arith)

pub left_one : (k n x : ℕ) (l t : Bool) (v y : ℤ) (s c : Fraction) → n ≡ 1 → v ≡ with_sign l x → IsLeft k t y (with_sign (not l) x) s c → IsLeftBy k n t v y s c
unfolding IsLeftBy
left_one k zero x l t v y s c z e h = absurd (omega arith)
left_one k (suc zero) x l t v y s c z e h = subst (λ (w : ℤ). IsLeft k t y w s c) (other_way l x ∙ ap neg_ℤ (sym e)) h
left_one k (suc (suc n)) x l t v y s c z e h = absurd (omega arith)

pub right_one : (k n x : ℕ) (l t : Bool) (v y : ℤ) (s c : Fraction) → n ≡ 1 → v ≡ with_sign l x → IsRight k t y (with_sign (not l) x) s c → IsRightBy k n t v y s c
unfolding IsRightBy
right_one k zero x l t v y s c z e h = absurd (omega arith)
right_one k (suc zero) x l t v y s c z e h = subst (λ (w : ℤ). IsRight k t y w s c) (other_way l x ∙ ap neg_ℤ (sym e)) h
right_one k (suc (suc n)) x l t v y s c z e h = absurd (omega arith)

-- minus a number that is not above 0
turned_over : (x : ℕ) (l : Bool) (v : ℤ) → (l ≡ true) ⊎ (x ≡ 0) → v ≡ with_sign l x → pos x ≡ neg_ℤ v
turned_over x true v h e = let d = ap neg_ℤ e in omega (arith, ints)
turned_over x false v (inl on) e = absurd (cc)
turned_over x false v (inr none) e = let d = ap neg_ℤ e in omega (arith, ints)

pub left_two : (k n x y : ℕ) (l t : Bool) (v : ℤ) (s c : Fraction) → n ≤ 2 → n ≢ 0 → n ≢ 1 → v ≡ with_sign l x → (l ≡ true) ⊎ (x ≡ 0) → IsLeft k t (pos x) (with_sign true y) s c → IsLeftBy k n t v (pos y) s c
unfolding IsLeftBy
left_two k zero x y l t v s c few z o e off h = absurd (z refl)
left_two k (suc zero) x y l t v s c few z o e off h = absurd (o refl)
left_two k (suc (suc (suc n))) x y l t v s c few z o e off h = absurd (omega arith)
left_two k (suc (suc zero)) x y l t v s c few z o e off h = subst (λ (w : ℤ). IsLeft k t w (with_sign true y) s c) (turned_over x l v off e) h

pub right_two : (k n x y : ℕ) (l t : Bool) (v : ℤ) (s c : Fraction) → n ≤ 2 → n ≢ 0 → n ≢ 1 → v ≡ with_sign l x → ((l ≡ false) × (x ≢ 0)) ⊎ (((l ≡ true) ⊎ (x ≡ 0)) × IsRight k t (pos x) (with_sign true y) s c) → IsRightBy k n t v (pos y) s c
unfolding IsRightBy
right_two k zero x y l t v s c few z o e h = absurd (z refl)
right_two k (suc zero) x y l t v s c few z o e h = absurd (o refl)
right_two k (suc (suc (suc n))) x y l t v s c few z o e h = absurd (omega arith)
right_two k (suc (suc zero)) x y l t v s c few z o e (inl (off, some)) = inl (let d = not_left x l v off e in omega (arith, ints, some))
right_two k (suc (suc zero)) x y l t v s c few z o e (inr (off, h)) = inr (subst (λ (w : ℤ). IsRight k t w (with_sign true y) s c) (turned_over x l v off e) h)
