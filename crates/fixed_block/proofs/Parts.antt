-- The parts of products above an unsigned word, and their sums.
use Rattle.std.proofs.Common.{◌≡◌, ◌+◌, ◌-◌, ◌*◌, ◌/◌, ◌^◌, ◌<◌, ◌≤◌, ◌&&◌, ◌≤ℤ◌, ◌+ℤ◌, ℕ, ℤ, Bool, true, false, List, IsTrue, map, take, length, get_or, pos, negsuc, nat_abs, refl, ap, sym, ◌∙◌, arith, rules, mul-le-mul, mul-le-mul_right}
use Rattle.std.specs.Prelude.{◌↔◌}
use Rattle.std.specs.List.{list_all}
use Rattle.std.proofs.lemmas.Bool.{false≢true}
use Rattle.std.proofs.lemmas.Int.{ints}
use Rattle.std.proofs.lemmas.List.{take_all}
use Rattle.std.proofs.lemmas.Nat.{pow_pos}
use Rattle.std.proofs.Math.Nat.{div-eq_of_lt, div-le_of_le-mul, lt-div-mul-add, pow-le-pow_right}
use Rattle.fixed_word.specs.Format.{IsWidth, InRange, fits}
use Rattle.fixed_word.specs.Quotient.{floor_quotient}
use Rattle.fixed_word.proofs.Nearest.{fits_is}
use Rattle.fixed_kernel.specs.inside.Size.{IsProduct}
use Rattle.fixed_kernel.proofs.WholeRoom.{square}
use Rattle.fixed_block.proofs.Sums.{sum_size}
use Rattle.fixed_block.proofs.Tested.{each_at, one_passed}

-- one part
part_size : (n : ℕ) (x : ℤ) → IsProduct false n x → (pos 0 ≤ℤ floor_quotient x (2 ^ n)) × (nat_abs (floor_quotient x (2 ^ n)) ≤ 2 ^ n)
part_size n (pos a) p =
    let size = p.1 in
    let less : 2 ^ n - 1 ≤ 2 ^ n = omega arith in
    let square = mul-le-mul less less in
    (omega (arith, ints), div-le_of_le-mul (2 ^ n) (omega (arith, size, square)))
part_size n (negsuc a) p = let low = p.0 in absurd (omega (arith, ints))

part_none : (n : ℕ) (x : ℤ) → IsProduct false n x → IsTrue (fits false n x) ↔ (floor_quotient x (2 ^ n) ≡ pos 0)
part_none n (pos a) p = (λ t. there t, λ e. back e)
  where
    there : IsTrue (fits false n (pos a)) → pos (a / 2 ^ n) ≡ pos 0
    there t = let high = ((fits_is false n (pos a)).0 t).1 in ap pos (div-eq_of_lt (omega (arith, ints, pow_pos n)))

    back : pos (a / 2 ^ n) ≡ pos 0 → IsTrue (fits false n (pos a))
    back e =
        let none : a / 2 ^ n ≡ 0 = omega (arith, ints) in
        let less : a < a / 2 ^ n * 2 ^ n + 2 ^ n = lt-div-mul-add (pow_pos n) in
        let small : a < 2 ^ n = omega (arith, rw none at less) in
        (fits_is false n (pos a)).1 (omega (arith, ints), omega (arith, ints))
part_none n (negsuc a) p = let low = p.0 in absurd (omega (arith, ints))

-- the sum of the parts of i products at the front, which is 0 where all of them fit
pub record IsPast (s : Bool) (n : ℕ) (rows : List ℤ) (i : ℕ) (sum : ℤ) : Type 0 where
  pub low : pos 0 ≤ℤ sum
  pub high : nat_abs sum ≤ i * 2 ^ n
  pub none : IsTrue (list_all (fits s n) (take i rows)) ↔ (sum ≡ pos 0)

pub past_start : (s : Bool) (n : ℕ) (rows : List ℤ) (sum : ℤ) → sum ≡ pos 0 → IsPast s n rows 0 sum
past_start s n rows sum e = record { low = omega (arith, ints); high = omega (arith, ints); none = (λ t. e, λ z. search rules) }

both : (a b : Bool) (sum part : ℤ) → pos 0 ≤ℤ sum → pos 0 ≤ℤ part → IsTrue a ↔ (sum ≡ pos 0) → IsTrue b ↔ (part ≡ pos 0) → IsTrue (a && b) ↔ (sum +ℤ part ≡ pos 0)
both true true sum part l k f g =
    let z = f.0 (search rules) in
    let y = g.0 (search rules) in
    (λ t. omega (arith, ints), λ e. search rules)
both true false sum part l k f g = (λ t. absurd (search rules), λ e. g.1 (omega (arith, ints)))
both false b sum part l k f g = (λ t. absurd (search rules), λ e. f.1 (omega (arith, ints)))

next : (n : ℕ) (rows : List ℤ) (i : ℕ) (d x sum : ℤ) → IsPast false n rows i sum → (i < length rows) × (get_or rows i d ≡ x) → IsProduct false n x → IsPast false n rows (i + 1) (sum +ℤ floor_quotient x (2 ^ n))
next n rows i d x sum past row size =
    let part = part_size n x size in
    let more = one_passed (fits false n) rows i d x _ _ refl row refl in
    record {
      low = let low = part.0 in omega (arith, ints);
      high = sum_size sum (floor_quotient x (2 ^ n)) i (2 ^ n) past.high part.1;
      none = rw (sym more) (both _ _ sum _ past.low part.0 past.none (part_none n x size));
    }

pub past_next : {A : Type 0} (value : A → ℤ) (r : ℤ → ℤ) (block : List A) (s : Bool) (n i k : ℕ) (x : A) (sum product part : ℤ) → s ≡ false → k ≡ n → IsPast s n (map r (map value block)) i sum → x ≡ get_or block i x → i < length block
    → product ≡ r (value x) → IsProduct s n (r (value x)) → part ≡ floor_quotient product (2 ^ k) → IsPast s n (map r (map value block)) (i + 1) (sum +ℤ part)
past_next value r block true n i k x sum product part e w past here lt same size is = absurd (cc)
past_next value r block false n i k x sum product part e w past here lt same size is = rw (is, same, w) (next n (map r (map value block)) i (value x) (r (value x)) sum past (each_at value r block i x here lt) size)

room : (n m i : ℕ) (sum : ℤ) → IsWidth n → m ≡ 2 * n → i ≤ 64 → pos 0 ≤ℤ sum → nat_abs sum ≤ i * 2 ^ n → InRange false m sum
room n m i sum w l few low high =
    let wide : 7 ≤ n = grind arith in
    let power : 2 ^ 7 ≤ 2 ^ n = pow-le-pow_right (omega arith) wide in
    let more : i + 1 ≤ 2 ^ n = omega arith in
    let all = mul-le-mul_right (2 ^ n) more in
    let whole = square n m l in
    (low, omega (arith, ints))

pub past_room : (s t : Bool) (n m : ℕ) (rows : List ℤ) (i : ℕ) (sum : ℤ) → s ≡ false → t ≡ s → IsWidth n → m ≡ 2 * n → i ≤ 64 → IsPast s n rows i sum → InRange t m sum
past_room s t n m rows i sum e f w l few past = rw (f ∙ e) (room n m i sum w l few past.low past.high)

same : (a b : Bool) (P : Type 0) → IsTrue a ↔ P → IsTrue b ↔ P → a ≡ b
same true true P f g = refl
same true false P f g = absurd (false≢true (g.1 (f.0 refl)))
same false true P f g = absurd (false≢true (f.1 (g.0 refl)))
same false false P f g = refl

pub past_none : (s : Bool) (n : ℕ) (rows : List ℤ) (i : ℕ) (sum : ℤ) (b : Bool) → IsPast s n rows i sum → length rows ≤ i → IsTrue b ↔ (sum ≡ pos 0) → b ≡ list_all (fits s n) rows
past_none s n rows i sum b past long is = same b _ (sum ≡ pos 0) is past.none ∙ ap (list_all (fits s n)) (take_all i rows long)
