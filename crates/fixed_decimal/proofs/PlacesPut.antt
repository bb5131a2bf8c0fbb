-- Digits that are put into a buffer, and the number that they show.
use Rattle.std.proofs.Common.{◌≡◌, ◌+◌, ◌-◌, ◌*◌, ◌/◌, ◌%◌, ◌^◌, ◌<◌, ◌≤◌, ◌<ℤ◌, ◌*ℤ◌, ◌++◌, unsigned_abs, ℕ, ℤ, zero, suc, pos, negsuc, nat_abs, Bool, true, false, List, ◌∷◌, length, drop, length-append, length-drop, drop-drop, sym, ap, ◌∙◌, add-mul, mul_assoc, mul_comm, mul_right_comm, zero-add, pow-add, pow-suc, arith}
use Rattle.std.proofs.Math.Nat.{div-div-eq-div-mul, one-le-pow, mul-lt-mul_of_pos_right}
use Rattle.std.proofs.lemmas.Nat.{div-add-mod', div-mul-add, div_below, mod_below}
use Rattle.fixed_word.specs.Decimal.{natural_text}
use Rattle.fixed_word.specs.declared.rounding.Rounding.{Rounding}
use Rattle.fixed_word.specs.declared.rounding.Rounding.TheVariants.{Down, Zero, Even}
use Rattle.fixed_kernel.specs.inside.Steps.{rounding_step}
use Rattle.std.proofs.lemmas.Int.{ints}
use Rattle.fixed_word.specs.Format.{with_sign}
use Rattle.fixed_kernel.specs.Rounded.{rounded}
use Rattle.fixed_kernel.proofs.Alikes.{abs_signed, signed_times}
use Rattle.fixed_kernel.proofs.Stepped.{stepped_small}
use Rattle.fixed_decimal.proofs.Decided.{rounded_by_step}
use Rattle.fixed_digits.proofs.Placed.{length_natural_u64}
use Rattle.fixed_decimal.specs.Text.{magnitude_text, places_text, text_of}
use Rattle.fixed_decimal.specs.inside.Stepped.{stepped}
use Rattle.fixed_decimal.proofs.Halved.{moved}
use Rattle.fixed_decimal.proofs.Shown.{led, length_places, places_behind, places_join}

-- behind a byte that is lost
pub placed_behind : (new old ds : List ℕ) (r end count b : ℕ) → drop r new ≡ (b ∷ ds) ++ drop end old → length ds ≡ count → r ≤ end → end ≤ length old → length new ≡ length old → drop (end - count) new ≡ ds ++ drop end old
placed_behind new old ds r end count b e long le within same =
    let l = ap length e in
    let a = length-append (b ∷ ds) (drop end old) in
    let d = length-drop r new in
    let f = length-drop end old in
    let at : end - count ≡ r + 1 = omega arith in
    ap (λ k. drop k new) at ∙ sym (drop-drop 1 r new) ∙ ap (drop 1) e

pub put_is : (new old : List ℕ) (r end n count : ℕ) → n < 10 ^ count → drop r new ≡ natural_text (10 ^ count + n) ++ drop end old → r ≤ end → end ≤ length old → length new ≡ length old → drop (end - count) new ≡ places_text n count ++ drop end old
put_is new old r end n count lt e le within same =
    placed_behind new old (places_text n count) r end count 49 (e ∙ ap (λ ds. ds ++ drop end old) (led n count lt)) (length_places n count) le within same

-- the last digits are those of the remainder
pub places_rest : (n p : ℕ) → places_text (n % 10 ^ p) p ≡ places_text n p
places_rest n p = sym (places_behind (n / 10 ^ p) (n % 10 ^ p) p) ∙ ap (λ k. places_text k p) (div-add-mod' n (10 ^ p))

-- ---- the whole number in front of the rounded part
step_small : (k : Rounding) (b : Bool) (q r d : ℕ) → rounding_step k b q r d ≤ 1
step_small Down true q zero d = omega arith
step_small Down true q (suc r) d = omega arith
step_small Down false q r d = omega arith
step_small Zero b q r d = omega arith
step_small Even b q r d = grind arith

pub part_small : (k : Rounding) (b : Bool) (x p d : ℕ) → x < d → stepped k b (x * 10 ^ p) d ≤ 10 ^ p
part_small k b x p d lt =
    let t = one-le-pow p 10 (omega arith) in
    let s = step_small k b (x * 10 ^ p / d) (x * 10 ^ p % d) d in
    let m : x * 10 ^ p < d * 10 ^ p = mul-lt-mul_of_pos_right lt t in
    let c : d * 10 ^ p ≡ 10 ^ p * d = mul_comm d (10 ^ p) in
    let q = div_below (x * 10 ^ p) d (10 ^ p) (omega arith) (omega arith) in
    omega arith

ten_even : (q j : ℕ) → 1 ≤ j → (q * 10 ^ j) % 2 ≡ 0
ten_even q zero h = absurd (omega arith)
ten_even q (suc j) h =
    let e : q * 10 ^ suc j ≡ q * 10 ^ j * 10 = ap (λ n. q * n) (pow-suc 10 j) ∙ sym (mul_assoc q (10 ^ j) 10) in
    omega arith

pub cut : (k : Rounding) (b : Bool) (x j d : ℕ) → 0 < d → 1 ≤ j → stepped k b (x * 10 ^ j) d ≡ x / d * 10 ^ j + stepped k b (x % d * 10 ^ j) d
cut k b x j d h one =
    let s = div-add-mod' x d in
    let even = ten_even (x / d) j one in
    let mv = moved k b (x / d * 10 ^ j) 0 (x % d * 10 ^ j) d h (omega arith) in
    let e : x * 10 ^ j ≡ x / d * 10 ^ j * d + x % d * 10 ^ j = ap (λ n. n * 10 ^ j) (sym s) ∙ add-mul (x / d * d) (x % d) (10 ^ j) ∙ ap (λ n. n + x % d * 10 ^ j) (mul_right_comm (x / d) d (10 ^ j)) in
    let z : 0 * d + x % d * 10 ^ j ≡ x % d * 10 ^ j = omega arith in
    let t : stepped k b (x % d * 10 ^ j) d ≡ mv.0 = ap (λ n. stepped k b n d) (sym z) ∙ mv.2 ∙ zero-add mv.0 in
    ap (λ n. stepped k b n d) e ∙ mv.1 ∙ ap (λ n. x / d * 10 ^ j + n) (sym t)

-- what is in front of the last digits
pub front_sum : (q t j : ℕ) → (q * 10 ^ j + t) / 10 ^ j ≡ q + t / 10 ^ j
front_sum q t j =
    let p = one-le-pow j 10 (omega arith) in
    let s = div-add-mod' t (10 ^ j) in
    let b = mod_below t (10 ^ j) p in
    let a = add-mul q (t / 10 ^ j) (10 ^ j) in
    let e : q * 10 ^ j + t ≡ (q + t / 10 ^ j) * 10 ^ j + t % 10 ^ j = omega arith in
    ap (λ n. n / 10 ^ j) e ∙ div-mul-add (q + t / 10 ^ j) (10 ^ j) (t % 10 ^ j) b

-- ---- 18 digits before j others
pub record IsCut (k : Rounding) (b : Bool) (part f p j scaled more : ℕ) : Type 0 where
  pub places : p ≡ j + 18
  pub one : 1 ≤ j
  pub product : scaled ≡ part * 10 ^ 18
  pub carried : more ≡ stepped k b (scaled % 2 ^ f * 10 ^ j) (2 ^ f) / 10 ^ j

whole_is : (k : Rounding) (b : Bool) (part f p j scaled more : ℕ) → IsCut k b part f p j scaled more
    → (stepped k b (part * 10 ^ p) (2 ^ f) ≡ scaled / 2 ^ f * 10 ^ j + stepped k b (scaled % 2 ^ f * 10 ^ j) (2 ^ f)) × (stepped k b (part * 10 ^ p) (2 ^ f) / 10 ^ j ≡ scaled / 2 ^ f + more)
whole_is k b part f p j scaled more i =
    let two = one-le-pow f 2 (omega arith) in
    let e : part * 10 ^ p ≡ scaled * 10 ^ j = ap (λ n. part * 10 ^ n) (i.places ∙ omega arith) ∙ ap (λ n. part * n) (pow-add 10 18 j) ∙ sym (mul_assoc part (10 ^ 18) (10 ^ j)) ∙ ap (λ n. n * 10 ^ j) (sym i.product) in
    let c = ap (λ n. stepped k b n (2 ^ f)) e ∙ cut k b scaled j (2 ^ f) two i.one in
    (c, ap (λ n. n / 10 ^ j) c ∙ front_sum (scaled / 2 ^ f) (stepped k b (scaled % 2 ^ f * 10 ^ j) (2 ^ f)) j ∙ ap (λ n. scaled / 2 ^ f + n) (sym i.carried))

pub carry_cut : (k : Rounding) (b : Bool) (part f p j scaled more : ℕ) → IsCut k b part f p j scaled more → (scaled / 2 ^ f + more) / 10 ^ 18 ≡ stepped k b (part * 10 ^ p) (2 ^ f) / 10 ^ p
carry_cut k b part f p j scaled more i =
    ap (λ n. n / 10 ^ 18) (sym (whole_is k b part f p j scaled more i).1)
    ∙ div-div-eq-div-mul (stepped k b (part * 10 ^ p) (2 ^ f)) (10 ^ j) (10 ^ 18)
    ∙ ap (λ n. stepped k b (part * 10 ^ p) (2 ^ f) / n) (sym (pow-add 10 j 18) ∙ ap (λ n. 10 ^ n) (sym i.places))

pub digits_cut : (k : Rounding) (b : Bool) (part f p j scaled more : ℕ) → IsCut k b part f p j scaled more
    → places_text (scaled / 2 ^ f + more) 18 ++ places_text (stepped k b (scaled % 2 ^ f * 10 ^ j) (2 ^ f)) j ≡ places_text (stepped k b (part * 10 ^ p) (2 ^ f)) p
digits_cut k b part f p j scaled more i =
    let n = stepped k b (part * 10 ^ p) (2 ^ f) in
    let t = stepped k b (scaled % 2 ^ f * 10 ^ j) (2 ^ f) in
    let w = whole_is k b part f p j scaled more i in
    ap (λ x. places_text x 18 ++ places_text t j) (sym w.1)
    ∙ ap (λ ds. places_text (n / 10 ^ j) 18 ++ ds) (sym (places_behind (scaled / 2 ^ f) t j) ∙ ap (λ x. places_text x j) (sym w.0))
    ∙ sym (places_join n 18 j) ∙ ap (places_text n) (sym i.places)

-- ---- the whole text
pub text_parts : (k : Rounding) (b : Bool) (m f p : ℕ) → 1 ≤ p → magnitude_text (stepped k b (m * 10 ^ p) (2 ^ f)) p ≡ natural_text (m / 2 ^ f + stepped k b (m % 2 ^ f * 10 ^ p) (2 ^ f) / 10 ^ p) ++ 46 ∷ places_text (stepped k b (m % 2 ^ f * 10 ^ p) (2 ^ f)) p
text_parts k b m f zero one = absurd (omega arith)
text_parts k b m f (suc p) one =
    let two = one-le-pow f 2 (omega arith) in
    let t = stepped k b (m % 2 ^ f * 10 ^ suc p) (2 ^ f) in
    let c = cut k b m (suc p) (2 ^ f) two one in
    ap (λ n. natural_text (n / 10 ^ suc p) ++ 46 ∷ places_text n (suc p)) c
    ∙ ap (λ n. natural_text n ++ 46 ∷ places_text (m / 2 ^ f * 10 ^ suc p + t) (suc p)) (front_sum (m / 2 ^ f) t (suc p))
    ∙ ap (λ ds. natural_text (m / 2 ^ f + t / 10 ^ suc p) ++ 46 ∷ ds) (places_behind (m / 2 ^ f) t (suc p))

pub whole_small : (k : Rounding) (b : Bool) (m f p : ℕ) → 1 ≤ p → m / 2 ^ f + stepped k b (m % 2 ^ f * 10 ^ p) (2 ^ f) / 10 ^ p ≤ m
whole_small k b m f p one =
    let two = one-le-pow f 2 (omega arith) in
    let ten = one-le-pow p 10 (omega arith) in
    let s = stepped_small k b (m * 10 ^ p) (2 ^ f) two in
    let e = ap (λ n. n / 10 ^ p) (cut k b m p (2 ^ f) two one) ∙ front_sum (m / 2 ^ f) (stepped k b (m % 2 ^ f * 10 ^ p) (2 ^ f)) p in
    let a = add-mul m 1 (10 ^ p) in
    let q = div_below (stepped k b (m * 10 ^ p) (2 ^ f)) (10 ^ p) (m + 1) ten (omega arith) in
    omega arith

-- where a text begins that ends a buffer of 86 bytes
pub begins : (new rest : List ℕ) (n r : ℕ) → length new ≡ 86 → r ≤ 86 → n < 2 ^ 64 → drop r new ≡ natural_text n ++ rest → length rest ≤ 65 → 1 ≤ r
begins new rest n r long le small e few =
    let l = length_natural_u64 n small in
    let a = length-append (natural_text n) rest in
    let d = length-drop r new in
    let f = ap length e in
    omega arith

-- ---- the text of a number below 0
pub text_below : (a : ℤ) (m f p : ℕ) (r : Rounding) → a <ℤ pos 0 → m ≡ unsigned_abs a → text_of a f p r ≡ 45 ∷ magnitude_text (stepped r true (m * 10 ^ p) (2 ^ f)) p
text_below (pos n) m f p r h e = absurd (omega (arith, ints))
text_below (negsuc n) m f p r h e =
    let size : m ≡ suc n = e in
    let x : negsuc n *ℤ pos (10 ^ p) ≡ with_sign true (suc n * 10 ^ p) = signed_times true (suc n) (10 ^ p) in
    ap (λ (z : ℤ). 45 ∷ magnitude_text (nat_abs (rounded z (pos (2 ^ f)) r)) p) x
    ∙ ap (λ (z : ℤ). 45 ∷ magnitude_text (nat_abs z) p) (rounded_by_step r true (suc n * 10 ^ p) (2 ^ f) (one-le-pow f 2 (omega arith)))
    ∙ ap (λ k. 45 ∷ magnitude_text k p) (abs_signed true (stepped r true (suc n * 10 ^ p) (2 ^ f)))
    ∙ ap (λ k. 45 ∷ magnitude_text (stepped r true (k * 10 ^ p) (2 ^ f)) p) (sym size)
