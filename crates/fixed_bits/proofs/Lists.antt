-- Lists of the digits of a number, and the lists that stand for a number.
use Rattle.std.proofs.Common.{◌≡◌, ◌+◌, ◌*◌, ◌/◌, ◌%◌, ◌^◌, ◌<◌, ◌+ℤ◌, ◌*ℤ◌, ℕ, ℤ, zero, suc, pos, List, [], ◌∷◌, length, get_or, refl, ap, sym, subst, ◌∙◌, arith, inl, inr}
use Rattle.std.specs.List.{All}
use Rattle.std.proofs.lemmas.Int.{ints}
use Rattle.std.proofs.lemmas.Grind.{same_number_lists}
use Rattle.std.proofs.lemmas.Nat.{div-add-mod', mod-mul-add, div-mul-add, mod_below, mul-add-lt}
use Rattle.std.proofs.lemmas.Nat.Bits.{bit_at-suc, bit_at_cat_low}
use Rattle.std.proofs.Math.Nat.{pow-suc, pow-zero, mul_comm}
use Rattle.std.specs.Int.{bit_at}
use Rattle.fixed_word.specs.Format.{IsWidth, modulo}
use Rattle.fixed_word.proofs.Wraps.{modulo_is, modulo_unique, plus_times}
use Rattle.fixed_bits.specs.Digits.{number_of, lowest_digits, IsDigitList}

pub length_lowest : (b k x : ℕ) → length (lowest_digits b k x) ≡ k
unfolding lowest_digits
length_lowest b zero x = refl
length_lowest b (suc k) x = ap suc (length_lowest b k (x / b))

-- the digit in place i
pub digit_at : (k x i : ℕ) → i < k → get_or (lowest_digits 2 k x) i 0 ≡ bit_at x i
unfolding lowest_digits
digit_at zero x i h = absurd (omega arith)
digit_at (suc k) x zero h = omega arith
digit_at (suc k) x (suc i) h = digit_at k (x / 2) i (omega arith) ∙ sym (bit_at-suc x i)

-- a list with the same digits
pub same_digits : (k x : ℕ) (ds : List ℕ) → length ds ≡ k → ((i : ℕ) → i < k → bit_at x i ≡ get_or ds i 0) → lowest_digits 2 k x ≡ ds
same_digits k x ds e h = same_number_lists (lowest_digits 2 k x) ds (length_lowest 2 k x ∙ sym e)
    (λ i b. let s : i < k = omega (arith, length_lowest 2 k x) in digit_at k x i s ∙ h i s)

-- what lies past k digits does not show
pub lowest_mod : (k x : ℕ) → lowest_digits 2 k (x % 2 ^ k) ≡ lowest_digits 2 k x
lowest_mod k x = same_digits k (x % 2 ^ k) (lowest_digits 2 k x) (length_lowest 2 k x)
    (λ i h. sym (digit_at k x i h ∙ ap (λ (n : ℕ). bit_at n i) (sym (div-add-mod' x (2 ^ k))) ∙ bit_at_cat_low (x / 2 ^ k) k (x % 2 ^ k) i h))

-- ---- the list of a number is the one that stands for it

pub number_lowest : (b k x : ℕ) → 0 < b → (q : ℕ) × (x ≡ number_of b (lowest_digits b k x) + q * b ^ k)
unfolding lowest_digits
number_lowest b zero x h = (x, rw (pow-zero b) (omega arith))
number_lowest b (suc k) x h =
    let r = number_lowest b k (x / b) h in
    let n = number_of b (lowest_digits b k (x / b)) in
    let e : x / b ≡ n + r.0 * b ^ k = r.1 in
    (r.0, digit_sum b x n r.0 (b ^ k) (b ^ suc k) e (pow-suc b k))
  where
    digit_sum : (b x n q p p' : ℕ) → x / b ≡ n + q * p → p' ≡ p * b → x ≡ x % b + b * n + q * p'
    digit_sum b x n q p p' e d = rw d (sym (div-add-mod' x b) ∙ rw e (grind arith))

pub all_lowest : (b k x : ℕ) → 0 < b → All (λ d. d < b) (lowest_digits b k x)
unfolding lowest_digits
all_lowest b zero x h i d l = absurd (omega arith)
all_lowest b (suc k) x h zero d l = mod_below x b h
all_lowest b (suc k) x h (suc i) d l = all_lowest b k (x / b) h i d (omega arith)

all_rest : (b x : ℕ) (xs : List ℕ) → All (λ d. d < b) (x ∷ xs) → All (λ d. d < b) xs
all_rest b x xs h i d l = h (suc i) d (omega arith)

pub number_below : (b : ℕ) (ds : List ℕ) → 0 < b → All (λ d. d < b) ds → number_of b ds < b ^ length ds
number_below b [] h a = rw (pow-zero b) (omega arith)
number_below b (d ∷ ds) h a =
    let r = number_below b ds h (all_rest b d ds a) in
    let f : d < b = a 0 0 (omega arith) in
    below b d (number_of b ds) (b ^ length ds) (b ^ suc (length ds)) f r (pow-suc b (length ds))
  where
    below : (b d n p p' : ℕ) → d < b → n < p → p' ≡ p * b → d + b * n < p'
    below b d n p p' f r e = rw e (let t = mul-add-lt n b d p r f in grind (arith, mul_comm n b))

-- the digits of a list's number are the list
pub lowest_number : (b : ℕ) (ds : List ℕ) → All (λ d. d < b) ds → lowest_digits b (length ds) (number_of b ds) ≡ ds
unfolding lowest_digits
lowest_number b [] h = refl
lowest_number b (d ∷ ds) h =
    let f : d < b = h 0 0 (omega arith) in
    let e : d + b * number_of b ds ≡ number_of b ds * b + d = swapped b d (number_of b ds) in
    rw e (rw (mod-mul-add (number_of b ds) b d f, div-mul-add (number_of b ds) b d f) (ap {B = List ℕ} (λ r. d ∷ r) (lowest_number b ds (all_rest b d ds h))))
  where
    swapped : (b d n : ℕ) → d + b * n ≡ n * b + d
    swapped b d n = grind (arith, mul_comm b n)

-- what stands for a is its list
pub stands_alone : (b k m : ℕ) (a : ℤ) (ds : List ℕ) → 0 < b → b ^ k ≡ m → IsDigitList b k a ds → lowest_digits b k (modulo a m) ≡ ds
stands_alone b k m a ds h e l =
    let size : length ds ≡ k = l.size in
    let below : number_of b ds < b ^ k = subst (λ (n : ℕ). number_of b ds < b ^ n) size (number_below b ds h l.digits) in
    let sum = l.sum in
    let s : a ≡ sum.0 *ℤ pos (b ^ k) +ℤ pos (number_of b ds) = omega (arith, ints, sum.1) in
    let r : modulo a (b ^ k) ≡ number_of b ds = modulo_unique a sum.0 (b ^ k) (number_of b ds) below s in
    rw (← e) (rw r (subst (λ (n : ℕ). lowest_digits b n (number_of b ds) ≡ ds) size (lowest_number b ds l.digits)))

-- and it does stand for a
pub list_stands : (b k m : ℕ) (a : ℤ) → 0 < b → 0 < m → b ^ k ≡ m → IsDigitList b k a (lowest_digits b k (modulo a m))
list_stands b k m a h p e =
    let d = modulo_is a m p in
    let r = number_lowest b k (modulo a m) h in
    record {
      size = length_lowest b k (modulo a m);
      digits = all_lowest b k (modulo a m) h;
      sum = rw e (d.0 +ℤ pos r.0, joined a d.0 (modulo a m) (number_of b (lowest_digits b k (modulo a m))) r.0 m d.1 (rw e at r.1));
    }
  where
    joined : (a q : ℤ) (x n j m : ℕ) → a ≡ q *ℤ pos m +ℤ pos x → x ≡ n + j * m → a ≡ pos n +ℤ (q +ℤ pos j) *ℤ pos m
    joined a q x n j m e f = omega (arith, ints, plus_times q (pos j) m)

pub byte_base : (n : ℕ) → IsWidth n → 256 ^ (n / 8) ≡ 2 ^ n
byte_base n (inl e) = rw e refl
byte_base n (inr (inl e)) = rw e refl
byte_base n (inr (inr (inl e))) = rw e refl
byte_base n (inr (inr (inr e))) = rw e refl

-- a number below base ^ k is that of its digits
pub number_again : (b k x : ℕ) → 0 < b → x < b ^ k → number_of b (lowest_digits b k x) ≡ x
number_again b k x h l =
    let r = number_lowest b k x h in
    let t = number_below b (lowest_digits b k x) h (all_lowest b k x h) in
    let s : number_of b (lowest_digits b k x) < b ^ k = subst (λ (n : ℕ). number_of b (lowest_digits b k x) < b ^ n) (length_lowest b k x) t in
    same (number_of b (lowest_digits b k x)) r.0 (b ^ k) x r.1 s l
  where
    same : (n q p x : ℕ) → x ≡ n + q * p → n < p → x < p → n ≡ x
    same n zero p x e s l = omega arith
    same n (suc q) p x e s l = absurd (grind arith)

-- so two with the same digits are equal
pub same_number : (b k x y : ℕ) → 0 < b → x < b ^ k → y < b ^ k → lowest_digits b k x ≡ lowest_digits b k y → x ≡ y
same_number b k x y h f g e = sym (number_again b k x h f) ∙ ap (number_of b) e ∙ number_again b k y h g
