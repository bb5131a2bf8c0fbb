-- The digits of a number in a base, from the last on.
use Rattle.std.proofs.Common.{◌≡◌, ◌==◌, ◌+◌, ◌-◌, ◌*◌, ◌/◌, ◌%◌, ◌^◌, ◌<◌, ◌≤◌, ◌++◌, ℕ, zero, suc, set, drop, length, Bool, true, false, List, [], ◌∷◌, replicate, if◌then◌else◌, refl, sym, ap, ◌∙◌, add-zero, append-nil, append_assoc, div-one, mul_assoc, pow-add, pow-suc, zero-add, arith}
use Rattle.std.specs.Fmt.{digit_glyph, digits, digits_onto}
use Rattle.std.proofs.Math.Nat.{div-div-eq-div-mul, one-le-pow, pow-zero}
use Rattle.std.proofs.lemmas.Bool.Decides.{nat_tests}
use Rattle.std.proofs.lemmas.List.{drop-set, drop_all}
use Rattle.std.proofs.lemmas.Nat.{div-add-mod', div-mul-add, mod-mul-add}
use Rattle.fixed_decimal.proofs.Padded.{replicate_end}
use Rattle.fixed_decimal.proofs.Parts.{joined_quotient}
use Rattle.fixed_radix.specs.Bases.{base_text, last_digits}

if_append : (c : Bool) (x y t : List ℕ) → (if c then x else y) ++ t ≡ (if c then x ++ t else y ++ t)
if_append true x y t = refl
if_append false x y t = refl

onto_append : (k b : ℕ) (u : Bool) (n : ℕ) (acc t : List ℕ) → digits_onto k b u n acc ++ t ≡ digits_onto k b u n (acc ++ t)
onto_append zero b u n acc t = refl
onto_append (suc k) b u n acc t =
    let g = digit_glyph u (n % b) in
    if_append (n / b == 0) (g ∷ acc) (digits_onto k b u (n / b) (g ∷ acc)) t
    ∙ ap (λ (y : List ℕ). if n / b == 0 then g ∷ (acc ++ t) else y) (onto_append k b u (n / b) (g ∷ acc) t)

-- the digits of what is left, before those that stand
abbrev pub before : ℕ → ℕ → Bool → ℕ → List ℕ → List ℕ
before k b u n acc = if n == 0 then acc else digits_onto k b u n acc

pub digits_start : (b : ℕ) (u : Bool) (n : ℕ) (t : List ℕ) → digits b u n ++ t ≡ before 63 b u (n / b) (digit_glyph u (n % b) ∷ t)
unfolding digits
digits_start b u n t = onto_append 64 b u n [] t

pub before_step : (k b : ℕ) (u : Bool) (n : ℕ) (acc : List ℕ) → 0 < n → before (suc k) b u n acc ≡ before k b u (n / b) (digit_glyph u (n % b) ∷ acc)
before_step k b u n acc h =
    let e : n == 0 ≡ false = grind (arith, nat_tests) in
    ap (λ c. if c then acc else digits_onto (suc k) b u n acc) e

pub places_step : (b : ℕ) (u : Bool) (n k : ℕ) (t : List ℕ) → last_digits b u n (suc k) ++ t ≡ last_digits b u (n / b) k ++ (digit_glyph u (n % b) ∷ t)
unfolding last_digits
places_step b u n k t = append_assoc (last_digits b u (n / b) k) (digit_glyph u (n % b) ∷ []) t

pub places_none : (b : ℕ) (u : Bool) (n : ℕ) → last_digits b u n 0 ≡ []
unfolding last_digits
places_none b u n = refl

-- ---- a digit that is put before a place
set_here : (buf : List ℕ) (at g d : ℕ) → 0 < at → at ≤ length buf → g ≡ d → drop (at - 1) (set buf (at - 1) g) ≡ d ∷ drop at buf
set_here buf at g d pos within e =
    let back : at - 1 + 1 ≡ at = omega arith in
    drop-set buf (at - 1) g (omega arith) ∙ ap (λ x. x ∷ drop (at - 1 + 1) buf) e ∙ ap (λ k. d ∷ drop k buf) back

pub place_put : (b : ℕ) (u : Bool) (n at start g : ℕ) (buf : List ℕ) → start < at → at ≤ length buf → g ≡ digit_glyph u (n % b)
    → last_digits b u n (at - start) ++ drop at buf ≡ last_digits b u (n / b) (at - 1 - start) ++ drop (at - 1) (set buf (at - 1) g)
place_put b u n at start g buf lt within e =
    let k : ℕ = at - 1 - start in
    let more : at - start ≡ suc k = omega arith in
    ap (λ j. last_digits b u n j ++ drop at buf) more ∙ places_step b u n k (drop at buf)
    ∙ ap (λ (l : List ℕ). last_digits b u (n / b) k ++ l) (sym (set_here buf at g (digit_glyph u (n % b)) (omega arith) within e))

pub whole_put : (b : ℕ) (u : Bool) (n at end g : ℕ) (buf : List ℕ) → 0 < n → end < at + 64 → 0 < at → at ≤ length buf → g ≡ digit_glyph u (n % b)
    → before (at + 64 - end) b u n (drop at buf) ≡ before (at - 1 + 64 - end) b u (n / b) (drop (at - 1) (set buf (at - 1) g))
whole_put b u n at end g buf some room pos within e =
    let k : ℕ = at - 1 + 64 - end in
    let more : at + 64 - end ≡ suc k = omega arith in
    ap (λ j. before j b u n (drop at buf)) more ∙ before_step k b u n (drop at buf) some
    ∙ ap (λ (l : List ℕ). before k b u (n / b) l) (sym (set_here buf at g (digit_glyph u (n % b)) pos within e))

pub first_put : (b : ℕ) (u : Bool) (n end g : ℕ) (buf : List ℕ) → 0 < end → end ≤ length buf → g ≡ digit_glyph u (n % b)
    → digits b u n ++ drop end buf ≡ before (end - 1 + 64 - end) b u (n / b) (drop (end - 1) (set buf (end - 1) g))
first_put b u n end g buf pos within e =
    let k : 63 ≡ end - 1 + 64 - end = omega arith in
    digits_start b u n (drop end buf) ∙ ap (λ j. before j b u (n / b) (digit_glyph u (n % b) ∷ drop end buf)) k
    ∙ ap (λ (l : List ℕ). before (end - 1 + 64 - end) b u (n / b) l) (sym (set_here buf end g (digit_glyph u (n % b)) pos within e))

pub text_put : (b : ℕ) (u : Bool) (n p r : ℕ) (old one new : List ℕ) → (p ≡ 0 → ⊥) → p ≤ 64 → length old ≡ 130 → length one ≡ 130
    → drop (130 - p) one ≡ last_digits b u n p ++ drop 130 old → drop r new ≡ digits b u (n / b ^ p) ++ drop (129 - p) (set one (129 - p) 46) → drop r new ≡ base_text b u n p
text_put b u n zero r old one new some few lo l1 e1 e2 = absurd (some refl)
text_put b u n (suc p) r old one new some few lo l1 e1 e2 =
    let next : 129 - suc p + 1 ≡ 130 - suc p = omega arith in
    e2 ∙ ap (λ (l : List ℕ). digits b u (n / b ^ suc p) ++ l) (
    drop-set one (129 - suc p) 46 (omega arith) ∙ ap (λ k. 46 ∷ drop k one) next
    ∙ ap (λ (l : List ℕ). 46 ∷ l) (e1 ∙ ap (λ (l : List ℕ). last_digits b u n (suc p) ++ l) (drop_all 130 old (omega arith)) ∙ append-nil (last_digits b u n (suc p))))

-- ---- zeros behind the digits
-- digits before digits
places_join : (b : ℕ) (u : Bool) (n p j : ℕ) → last_digits b u n (j + p) ≡ last_digits b u (n / b ^ j) p ++ last_digits b u n j
unfolding last_digits
places_join b u n p zero = rw (zero-add p, pow-zero b, div-one n) (sym (append-nil (last_digits b u n p)))
places_join b u n p (suc j) =
    let e : suc j + p ≡ suc (j + p) = omega arith in
    let turned : b * b ^ j ≡ b ^ suc j = omega (arith, pow-suc b j) in
    let d : n / b / b ^ j ≡ n / b ^ suc j = div-div-eq-div-mul n b (b ^ j) ∙ ap (λ k. n / k) turned in
    rw e (ap (λ ds. ds ++ (digit_glyph u (n % b) ∷ [])) (places_join b u (n / b) p j)
    ∙ append_assoc (last_digits b u (n / b / b ^ j) p) (last_digits b u (n / b) j) (digit_glyph u (n % b) ∷ [])
    ∙ ap (λ k. last_digits b u k p ++ (last_digits b u (n / b) j ++ (digit_glyph u (n % b) ∷ []))) d)

-- j zeros behind a number
zero_step : (b n j : ℕ) → 0 < b → (n * b ^ suc j / b ≡ n * b ^ j) × (n * b ^ suc j % b ≡ 0)
zero_step b n j h =
    let e : n * b ^ suc j ≡ n * b ^ j * b + 0 = ap (λ k. n * k) (pow-suc b j) ∙ sym (mul_assoc n (b ^ j) b) ∙ sym (add-zero (n * b ^ j * b)) in
    (ap (λ k. k / b) e ∙ div-mul-add (n * b ^ j) b 0 h, ap (λ k. k % b) e ∙ mod-mul-add (n * b ^ j) b 0 h)

zeros : (b : ℕ) (u : Bool) (n j : ℕ) → 0 < b → last_digits b u (n * b ^ j) j ≡ replicate j 48
unfolding last_digits
zeros b u n zero h = refl
zeros b u n (suc j) h =
    let s = zero_step b n j h in
    let glyph : digit_glyph u 0 ≡ 48 = refl in
    rw (s.0, s.1) (ap (λ (l : List ℕ). l ++ 48 ∷ []) (zeros b u n j h) ∙ replicate_end j 48)

whole_same : (b n p j : ℕ) → 0 < b → n * b ^ j / b ^ (p + j) ≡ n / b ^ p
whole_same b n p j h =
    let t = one-le-pow j b h in
    let w = one-le-pow p b h in
    let none : n + 0 / b ^ j ≡ n = let z : 0 * b ^ j + 0 ≡ 0 = omega arith in ap (λ m. n + m) (ap (λ m. m / b ^ j) (sym z) ∙ div-mul-add 0 (b ^ j) 0 t) ∙ add-zero n in
    ap (λ m. m / b ^ (p + j)) (sym (add-zero (n * b ^ j))) ∙ ap (λ m. (n * b ^ j + 0) / m) (pow-add b p j) ∙ (joined_quotient n 0 (b ^ p) (b ^ j) w t).0 ∙ ap (λ m. m / b ^ p) none

last_longer : (b : ℕ) (u : Bool) (n p j : ℕ) → 0 < b → last_digits b u (n * b ^ j) (j + p) ≡ last_digits b u n p ++ replicate j 48
last_longer b u n p j h =
    let t = one-le-pow j b h in
    let whole : n * b ^ j / b ^ j ≡ n = ap (λ m. m / b ^ j) (sym (add-zero (n * b ^ j))) ∙ div-mul-add n (b ^ j) 0 t in
    places_join b u (n * b ^ j) p j ∙ ap (λ m. last_digits b u m p ++ last_digits b u (n * b ^ j) j) whole ∙ ap (λ (l : List ℕ). last_digits b u n p ++ l) (zeros b u n j h)

pub text_longer : (b : ℕ) (u : Bool) (n p j : ℕ) → 0 < b → base_text b u (n * b ^ j) (suc p + j) ≡ base_text b u n (suc p) ++ replicate j 48
text_longer b u n p j h =
    let turned : j + suc p ≡ suc (p + j) = omega arith in
    let same : suc p + j ≡ suc (p + j) = omega arith in
    ap (base_text b u (n * b ^ j)) same
    ∙ ap (λ m. digits b u m ++ 46 ∷ last_digits b u (n * b ^ j) (suc (p + j))) (ap (λ k. n * b ^ j / b ^ k) (sym same) ∙ whole_same b n (suc p) j h)
    ∙ ap (λ (l : List ℕ). digits b u (n / b ^ suc p) ++ 46 ∷ l) (ap (last_digits b u (n * b ^ j)) (sym turned) ∙ last_longer b u n (suc p) j h)
    ∙ sym (append_assoc (digits b u (n / b ^ suc p)) (46 ∷ last_digits b u n (suc p)) (replicate j 48))
