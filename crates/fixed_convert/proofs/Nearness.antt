-- Which of two numbers side by side is a rounded quotient, by the one that is rounded down.
use Rattle.std.proofs.Common.{◌≡◌, ◌≢◌, ◌+◌, ◌*◌, ◌/◌, ◌%◌, ◌<◌, ◌≤◌, ◌≤ℤ◌, ◌<ℤ◌, ◌+ℤ◌, ◌-ℤ◌, ◌*ℤ◌, ℕ, ℤ, suc, Bool, true, false, pos, negsuc, neg_ℤ, nat_abs, refl, ap, sym, ◌∙◌, arith}
use Rattle.std.specs.Prelude.{int_lt, if◌then◌else◌}
use Rattle.std.specs.Int.Signed.{lt_z}
use Rattle.std.proofs.lemmas.Int.{ints}
use Rattle.std.proofs.lemmas.Nat.{div-add-mod', mod_below}
use Rattle.fixed_word.specs.Quotient.{floor_quotient, truncated_quotient}
use Rattle.fixed_word.specs.declared.rounding.Rounding.TheVariants.{Even}
use Rattle.fixed_word.proofs.QuotientLaws.{floor_quotient_unique, floor_unique}
use Rattle.fixed_word.proofs.Sides.{lt_no}
use Rattle.fixed_word.proofs.Wraps.{neg-times, suc_times}
use Rattle.fixed_kernel.specs.Rounded.{rounded}
use Rattle.fixed_kernel.proofs.RoundedLaws.{rounded_is, rounded_unique}
use Rattle.std.proofs.Math.Nat.{div-mul-le_self, lt-div-mul-add}
use Rattle.fixed_convert.specs.WholeNumber.{nearest_or_further}
use Rattle.fixed_convert.proofs.Moves.{floor_near}

abbrev pub next_if : Bool → ℤ → ℤ
next_if b low = if b then low +ℤ pos 1 else low

less_of : (a b : ℤ) → lt_z a b ≡ true → a <ℤ b
less_of a b e = grind (arith, ints)

not_less_of : (a b : ℤ) → lt_z a b ≡ false → b ≤ℤ a
not_less_of a b e = grind (arith, ints)

-- ---- toward zero

-- both are the least multiple that is at least x
same_multiple : (x p q : ℤ) (d : ℕ) → 0 < d → x ≤ℤ (p *ℤ pos d) → (p *ℤ pos d) <ℤ (x +ℤ pos d) → x ≤ℤ (q *ℤ pos d) → (q *ℤ pos d) <ℤ (x +ℤ pos d) → p ≡ q
same_multiple x p q d h a b c e =
    let s = suc_times p d in
    let t = suc_times q d in
    floor_unique (x +ℤ pos d -ℤ pos 1) p q d (record { below = omega (arith, ints); above = omega (arith, ints) }) (record { below = omega (arith, ints); above = omega (arith, ints) })

truncated_near : (a d : ℕ) → 0 < d → (negsuc a ≤ℤ (neg_ℤ (pos (suc a / d)) *ℤ pos d)) × ((neg_ℤ (pos (suc a / d)) *ℤ pos d) <ℤ (negsuc a +ℤ pos d))
truncated_near a d h =
    let e = div-add-mod' (suc a) d in
    let m = mod_below (suc a) d h in
    let t = neg-times (suc a / d) d in
    (omega (arith, ints), omega (arith, ints))

pub zero_past : (x low : ℤ) (d : ℕ) (b : Bool) → 0 < d → low ≡ floor_quotient x d → x <ℤ pos 0 → lt_z (low *ℤ pos d) x ≡ b → truncated_quotient x (pos d) ≡ next_if b low
zero_past (pos a) low d b h e l t = absurd (omega (arith, ints))
zero_past (negsuc a) low d true h e l t =
    let n = floor_near (negsuc a) d h in
    let p : (low *ℤ pos d) ≤ℤ negsuc a = rw e n.0 in
    let q : negsuc a <ℤ (low *ℤ pos d +ℤ pos d) = rw e n.1 in
    let u = less_of (low *ℤ pos d) (negsuc a) t in
    let m = truncated_near a d h in
    let s = suc_times low d in
    same_multiple (negsuc a) (neg_ℤ (pos (suc a / d))) (low +ℤ pos 1) d h m.0 m.1 (omega (arith, ints)) (omega (arith, ints))
zero_past (negsuc a) low d false h e l t =
    let n = floor_near (negsuc a) d h in
    let p : (low *ℤ pos d) ≤ℤ negsuc a = rw e n.0 in
    let u = not_less_of (low *ℤ pos d) (negsuc a) t in
    let m = truncated_near a d h in
    same_multiple (negsuc a) (neg_ℤ (pos (suc a / d))) low d h m.0 m.1 u (omega (arith, ints))

pub zero_same : (x : ℤ) (d : ℕ) → pos 0 ≤ℤ x → truncated_quotient x (pos d) ≡ floor_quotient x d
zero_same (pos a) d h = refl
zero_same (negsuc a) d h = absurd (omega (arith, ints))

-- ---- to the nearest

abbrev pub parity_of : ℤ → ℤ
parity_of low = low -ℤ floor_quotient low 2 *ℤ pos 2

even_twice : (q h : ℤ) → q ≡ h *ℤ pos 2 → nat_abs q % 2 ≡ 0
even_twice q (pos a) e = omega (arith, ints)
even_twice q (negsuc a) e = omega (arith, ints)

pub above_zero : (d : ℕ) → 0 < d → pos d ≢ pos 0
above_zero d h = λ e. omega (arith, ints)

pub even_past : (x low : ℤ) (d : ℕ) (b : Bool) → 0 < d → low ≡ floor_quotient x d → lt_z (pos d) (((x -ℤ low *ℤ pos d) +ℤ (x -ℤ low *ℤ pos d)) +ℤ parity_of low) ≡ b → rounded x (pos d) Even ≡ next_if b low
even_past x low d true h e t =
    let n = floor_near x d h in
    let p : (low *ℤ pos d) ≤ℤ x = rw e n.0 in
    let q : x <ℤ (low *ℤ pos d +ℤ pos d) = rw e n.1 in
    let k = floor_near low 2 (omega arith) in
    let o = k.0 in
    let u = less_of (pos d) (((x -ℤ low *ℤ pos d) +ℤ (x -ℤ low *ℤ pos d)) +ℤ parity_of low) t in
    let v = k.1 in
    let s = suc_times low d in
    let r = suc_times (floor_quotient low 2) 2 in
    rounded_unique x (pos d) (low +ℤ pos 1) Even (above_zero d h) (record {
      near = omega (arith, ints);
      tie = λ i. even_twice (low +ℤ pos 1) (floor_quotient low 2 +ℤ pos 1) (omega (arith, ints));
    })
even_past x low d false h e t =
    let n = floor_near x d h in
    let p : (low *ℤ pos d) ≤ℤ x = rw e n.0 in
    let k = floor_near low 2 (omega arith) in
    let o = k.0 in
    let v = k.1 in
    let u = not_less_of (pos d) (((x -ℤ low *ℤ pos d) +ℤ (x -ℤ low *ℤ pos d)) +ℤ parity_of low) t in
    rounded_unique x (pos d) low Even (above_zero d h) (record {
      near = omega (arith, ints);
      tie = λ i. even_twice low (floor_quotient low 2) (omega (arith, ints));
    })

-- by one quotient that is rounded down: a half is added, or a little less

pub double_out : (q d : ℕ) → q * (2 * d) ≡ 2 * (q * d)
double_out q d = omega arith

times_twice : (q : ℤ) (d : ℕ) → q *ℤ pos (2 * d) ≡ q *ℤ pos d +ℤ q *ℤ pos d
times_twice (pos a) d = omega (arith, ints, double_out a d)
times_twice (negsuc a) d = omega (arith, ints, double_out (suc a) d)

pub even_half : (x low : ℤ) (d : ℕ) → 0 < d → low ≡ floor_quotient x d
    → floor_quotient (((x +ℤ x) +ℤ (parity_of low -ℤ pos 1)) +ℤ pos d) (2 * d) ≡ rounded x (pos d) Even
even_half x low d h e = go (lt_z (pos d) (((x -ℤ low *ℤ pos d) +ℤ (x -ℤ low *ℤ pos d)) +ℤ parity_of low)) refl
  where
    y : ℤ
    y = ((x +ℤ x) +ℤ (parity_of low -ℤ pos 1)) +ℤ pos d

    go : (b : Bool) → lt_z (pos d) (((x -ℤ low *ℤ pos d) +ℤ (x -ℤ low *ℤ pos d)) +ℤ parity_of low) ≡ b → floor_quotient y (2 * d) ≡ rounded x (pos d) Even
    go true t =
        let n = floor_near x d h in
        let p : (low *ℤ pos d) ≤ℤ x = rw e n.0 in
        let q : x <ℤ (low *ℤ pos d +ℤ pos d) = rw e n.1 in
        let k = floor_near low 2 (omega arith) in
        let o = k.0 in
        let v = k.1 in
        let u = less_of (pos d) (((x -ℤ low *ℤ pos d) +ℤ (x -ℤ low *ℤ pos d)) +ℤ parity_of low) t in
        let w = times_twice low d in
        let s = suc_times low (2 * d) in
        let z = suc_times (low +ℤ pos 1) (2 * d) in
        floor_quotient_unique y (low +ℤ pos 1) (2 * d) (omega arith) (record { below = omega (arith, ints); above = omega (arith, ints) })
        ∙ sym (even_past x low d true h e t)
    go false t =
        let n = floor_near x d h in
        let p : (low *ℤ pos d) ≤ℤ x = rw e n.0 in
        let k = floor_near low 2 (omega arith) in
        let o = k.0 in
        let v = k.1 in
        let u = not_less_of (pos d) (((x -ℤ low *ℤ pos d) +ℤ (x -ℤ low *ℤ pos d)) +ℤ parity_of low) t in
        let w = times_twice low d in
        let s = suc_times low (2 * d) in
        floor_quotient_unique y low (2 * d) (omega arith) (record { below = omega (arith, ints); above = omega (arith, ints) })
        ∙ sym (even_past x low d false h e t)

pub further_half : (x : ℤ) (d : ℕ) → 0 < d
    → floor_quotient (((x +ℤ x) +ℤ (if int_lt x (pos 0) then negsuc 0 else pos 0)) +ℤ pos d) (2 * d) ≡ nearest_or_further x d
further_half (pos a) d h =
    let t : int_lt (pos a) (pos 0) ≡ false = lt_no (pos a) (pos 0) (omega (arith, ints)) in
    let e : ((pos a +ℤ pos a) +ℤ (if int_lt (pos a) (pos 0) then negsuc 0 else pos 0)) +ℤ pos d ≡ pos (2 * a + d) = rw t (omega (arith, ints)) in
    ap (λ (y : ℤ). floor_quotient y (2 * d)) e
further_half (negsuc a) d h =
    let q = (2 * suc a + d) / (2 * d) in
    let l = div-mul-le_self (2 * suc a + d) (2 * d) in
    let u = lt-div-mul-add {a = 2 * suc a + d} {b = 2 * d} (omega arith) in
    let t = neg-times q (2 * d) in
    let s = suc_times (neg_ℤ (pos q)) (2 * d) in
    floor_quotient_unique (((negsuc a +ℤ negsuc a) +ℤ negsuc 0) +ℤ pos d) (neg_ℤ (pos q)) (2 * d) (omega arith) (record { below = omega (arith, ints); above = omega (arith, ints) })

-- ---- sizes

pub even_size : (x : ℤ) (d : ℕ) → 0 < d → nat_abs (rounded x (pos d) Even *ℤ pos d) ≤ nat_abs x + d
even_size x d h =
    let i = rounded_is x (pos d) Even (above_zero d h) in
    let n = i.near in
    omega (arith, ints)

half_up_size : (a d : ℕ) → (2 * a + d) / (2 * d) * d ≤ a + d
half_up_size a d =
    let l = div-mul-le_self (2 * a + d) (2 * d) in
    let e = double_out ((2 * a + d) / (2 * d)) d in
    omega arith

pub further_size : (x : ℤ) (d : ℕ) → nat_abs (nearest_or_further x d *ℤ pos d) ≤ nat_abs x + d
further_size (pos a) d = omega (arith, ints, half_up_size a d)
further_size (negsuc a) d =
    let t = neg-times ((2 * suc a + d) / (2 * d)) d in
    omega (arith, ints, half_up_size (suc a) d)
