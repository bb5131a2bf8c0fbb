-- Filters whose partial sums fit, whatever the order of the samples: the sum of the magnitudes of the taps times the
-- greatest magnitude of a sample bounds them.
use Rattle.std.proofs.Common.{◌≡◌, ◌+◌, ◌-◌, ◌*◌, ◌/◌, ◌^◌, ◌<◌, ◌≤◌, ◌≤ℤ◌, ◌+ℤ◌, ◌-ℤ◌, ◌*ℤ◌, ℕ, zero, suc, ℤ, pos, negsuc, neg_ℤ, true, false, Bool, List, [], ◌∷◌, Option, Some, None, length, get_or, take, refl, sym, ap, subst, ◌∙◌, arith}
use Rattle.std.specs.Prelude.{IfSome, IsTrue, nat_le, not, drop, reverse, slice_range, unsigned_abs, if◌then◌else◌}
use Rattle.std.specs.List.{All, sum_by}
use Rattle.std.specs.Option.{option_or}
use Rattle.std.proofs.Math.Nat.{add-mul, le-div_iff_mul-le, lt-div-mul-add, lt_of_mul-lt-mul_right, mul-le-mul_left}
use Rattle.std.proofs.lemmas.Int.{ints, unsigned_abs-mul}
use Rattle.std.proofs.lemmas.List.{length-take, length-take-le, length-drop, length-reverse, reverse-append}
use Rattle.std.proofs.lemmas.List.Elements.{All-append, All-cons, All-drop, All-head, All-more, All-nil, All-tail, All-take, All-weaker}
use Rattle.std.proofs.lemmas.List.Sums.{fold_more, sum_by-cons, sum_by_more}
use Rattle.std.proofs.lemmas.Nat.{pow_pos}
use Rattle.fixed_word.specs.Format.{IsWidth, InRange, fits, highest, wrap}
use Rattle.fixed_word.specs.Quotient.{floor_quotient}
use Rattle.fixed_word.proofs.Nearest.{fits_is}
use Rattle.fixed_word.proofs.Wraps.{width_pos, wrap_alike, wrap_congruent, wrap_same}
use Rattle.fixed_kernel.specs.Rows.{exact_mul_add}
use Rattle.fixed_policy.specs.DotProduct.{dot, pairs, products, with_product}
use Rattle.fixed_policy.proofs.Losses.{loss_bounds}
use Rattle.fixed_policy.proofs.Parts.{pair_at, pairs_length}
use Rattle.fixed_filter.specs.declared.reply.Reply.TheVariants.{Value}
use Rattle.fixed_filter.specs.Replies.{accumulator, filter_reply, misses, least_below, overflow_or}
use Rattle.fixed_filter.specs.inside.Headroom.{HasRoom, IsUntested, roundings}

-- ---- sums of products
product_size : (a b : ℤ) (m : ℕ) → unsigned_abs b ≤ m → unsigned_abs (a *ℤ b) ≤ unsigned_abs a * m
product_size a b m small = rw (unsigned_abs-mul a b) (mul-le-mul_left (unsigned_abs a) small)

sum_size : (x y : ℤ) (j k : ℕ) → unsigned_abs x ≤ j → unsigned_abs y ≤ k → unsigned_abs (x +ℤ y) ≤ j + k
sum_size x y j k first later = omega (arith, ints)

module _ {X Y : Type 0} (left : X → ℤ) (right : Y → ℤ) where
  size : (k : ℕ) (xs : List X) (ys : List Y) (m : ℕ) → All (λ y. unsigned_abs (right y) ≤ m) ys → unsigned_abs (products (take k (pairs left right xs ys))) ≤ sum_by (λ x. unsigned_abs (left x)) xs * m
  size zero xs ys m small = omega arith
  size (suc k) [] ys m small = omega arith
  size (suc k) (x ∷ xs) [] m small = omega arith
  size (suc k) (x ∷ xs) (y ∷ ys) m small =
      let f : X → ℕ = λ x. unsigned_abs (left x) in
      let first = product_size (left x) (right y) m (All-head (λ y. unsigned_abs (right y) ≤ m) y ys small) in
      let later = size k xs ys m (All-tail (λ y. unsigned_abs (right y) ≤ m) y ys small) in
      rw (sum_by-cons f x xs) (rw (add-mul (f x) (sum_by f xs) m) (sum_size (left x *ℤ right y) (products (take k (pairs left right xs ys))) (f x * m) (sum_by f xs * m) first later))

-- ---- bounds of an accumulator, whose products are q in all, and which loses less than one unit for each of k products
scaled_least : (a k p w : ℕ) → 0 < p → a * p ≤ w + k * (p - 1) → a ≤ w / p + k
scaled_least a k p w some h =
    let q = w / p in
    let above = lt-div-mul-add {a = w} {b = p} some in
    let less = mul-le-mul_left {m = p - 1} {n = p} k (omega arith) in
    let parts = add-mul (q + k) 1 p in
    let more = add-mul q k p in
    let below : a * p < (q + k + 1) * p = omega arith in
    let least = lt_of_mul-lt-mul_right p below in
    omega arith

from_above : (d q : ℤ) (p w : ℕ) → 0 < p → unsigned_abs q ≤ w → pos 0 ≤ℤ (q -ℤ d *ℤ pos p) → d ≤ℤ pos (w / p)
from_above (pos a) q p w some small lost = let most : a ≤ w / p = (le-div_iff_mul-le {k = p} {x = a} {y = w} some).1 (omega (arith, ints)) in omega (arith, ints)
from_above (negsuc a) q p w some small lost = omega (arith, ints)

from_below : (d q : ℤ) (k p w : ℕ) → 0 < p → unsigned_abs q ≤ w → (q -ℤ d *ℤ pos p) ≤ℤ pos (k * (p - 1)) → neg_ℤ (pos (w / p + k)) ≤ℤ d
from_below (pos a) q k p w some small lost = omega (arith, ints)
from_below (negsuc a) q k p w some small lost =
    let least = scaled_least (suc a) k p w some (omega (arith, ints)) in
    omega (arith, ints)

-- an accumulator of numbers of at least 0
floored_from_zero : (z : ℤ) (p : ℕ) → pos 0 ≤ℤ z → pos 0 ≤ℤ floor_quotient z p
floored_from_zero (pos a) p h = omega (arith, ints)
floored_from_zero (negsuc a) p h = absurd (omega (arith, ints))

product_from_zero : (a b : ℤ) → pos 0 ≤ℤ a → pos 0 ≤ℤ b → pos 0 ≤ℤ (a *ℤ b)
product_from_zero (pos a) (pos b) f g = omega (arith, ints)
product_from_zero (pos a) (negsuc b) f g = absurd (omega (arith, ints))
product_from_zero (negsuc a) b f g = absurd (omega (arith, ints))

module _ {X Y : Type 0} (left : X → ℤ) (right : Y → ℤ) (d : ℕ) where
  dot_from_zero : (acc : ℤ) (k : ℕ) (xs : List X) (ys : List Y) → pos 0 ≤ℤ acc → All (λ x. pos 0 ≤ℤ left x) xs → All (λ y. pos 0 ≤ℤ right y) ys → pos 0 ≤ℤ dot (pos d) acc (take k (pairs left right xs ys))
  dot_from_zero acc zero xs ys from lefts rights = from
  dot_from_zero acc (suc k) [] ys from lefts rights = from
  dot_from_zero acc (suc k) (x ∷ xs) [] from lefts rights = from
  dot_from_zero acc (suc k) (x ∷ xs) (y ∷ ys) from lefts rights =
      let product = product_from_zero (left x) (right y) (All-head (λ x. pos 0 ≤ℤ left x) x xs lefts) (All-head (λ y. pos 0 ≤ℤ right y) y ys rights) in
      let term = floored_from_zero (left x *ℤ right y) (2 ^ d) product in
      dot_from_zero (with_product (pos d) acc (left x, right y)) k xs ys (omega (arith, ints)) (All-tail (λ x. pos 0 ≤ℤ left x) x xs lefts) (All-tail (λ y. pos 0 ≤ℤ right y) y ys rights)

-- ---- partial sums that fit
least_none : (p : ℕ → Bool) (k : ℕ) → ((t : ℕ) → t < k → p t ≡ false) → least_below p k ≡ None
least_none p zero each = refl
least_none p (suc k) each =
    ap (λ (o : Option ℕ). option_or o (if p k then Some k else None)) (least_none p k (λ t less. each t (omega arith)))
    ∙ ap (λ (b : Bool). if b then Some k else None) (each k (omega arith))

fits_not_missed : (s : Bool) (n : ℕ) (x : ℤ) → InRange s n x → not (fits s n x) ≡ false
fits_not_missed s n x r = let fit = (fits_is s n x).1 r in ap not fit

-- the ends of a range
ends_signed : (n w : ℕ) (x : ℤ) → w ≤ unsigned_abs (highest true n) → neg_ℤ (pos w) ≤ℤ x → x ≤ℤ pos w → InRange true n x
ends_signed n w x room low high = let some = pow_pos (n - 1) in (omega (arith, ints), omega (arith, ints))

ends_unsigned : (n w : ℕ) (x : ℤ) → w ≤ unsigned_abs (highest false n) → pos 0 ≤ℤ x → x ≤ℤ pos w → InRange false n x
ends_unsigned n w x room low high = (low, omega (arith, ints))

from_zero : {X : Type 0} (value : X → ℤ) (n : ℕ) (xs : List X) → All (λ x. InRange false n (value x)) xs → All (λ x. pos 0 ≤ℤ value x) xs
from_zero value n xs all = All-weaker (λ x. InRange false n (value x)) (λ x. pos 0 ≤ℤ value x) (λ x r. r.0) xs all

module _ {X Y : Type 0} (left : X → ℤ) (right : Y → ℤ) (n d m : ℕ) (xs : List X) (ys : List Y) (small : All (λ y. unsigned_abs (right y) ≤ m) ys) (same : length xs ≡ length ys) where
  count : (k : ℕ) → length (take k (pairs left right xs ys)) ≤ length xs
  count k = omega (arith, pairs_length left right xs ys same, length-take k (pairs left right xs ys))

  above_all : (k : ℕ) → accumulator (pos d) (pairs left right xs ys) k ≤ℤ pos (sum_by (λ x. unsigned_abs (left x)) xs * m / 2 ^ d)
  above_all k =
      let ps = take k (pairs left right xs ys) in
      let bounds = loss_bounds d (pos 0) ps in
      let low = bounds.0 in
      from_above (dot (pos d) (pos 0) ps) (products ps) (2 ^ d) (sum_by (λ x. unsigned_abs (left x)) xs * m) (pow_pos d) (size left right k xs ys m small) (omega (arith, ints))

  below_all : (k : ℕ) → neg_ℤ (pos (sum_by (λ x. unsigned_abs (left x)) xs * m / 2 ^ d + length xs)) ≤ℤ accumulator (pos d) (pairs left right xs ys) k
  below_all k =
      let ps = take k (pairs left right xs ys) in
      let bounds = loss_bounds d (pos 0) ps in
      let high = bounds.1 in
      let less = from_below (dot (pos d) (pos 0) ps) (products ps) (length ps) (2 ^ d) (sum_by (λ x. unsigned_abs (left x)) xs * m) (pow_pos d) (size left right k xs ys m small) (omega (arith, ints)) in
      let few = count k in
      omega (arith, ints)

  each_fits : (signed : Bool) (k : ℕ) → All (λ x. InRange signed n (left x)) xs → All (λ y. InRange signed n (right y)) ys
      → sum_by (λ x. unsigned_abs (left x)) xs * m / 2 ^ d + roundings signed (length xs) ≤ unsigned_abs (highest signed n)
      → InRange signed n (accumulator (pos d) (pairs left right xs ys) k)
  each_fits true k lefts rights room =
      let low = below_all k in
      let high = above_all k in
      ends_signed n (sum_by (λ x. unsigned_abs (left x)) xs * m / 2 ^ d + length xs) (accumulator (pos d) (pairs left right xs ys) k) room low (omega (arith, ints))
  each_fits false k lefts rights room =
      ends_unsigned n (sum_by (λ x. unsigned_abs (left x)) xs * m / 2 ^ d) (accumulator (pos d) (pairs left right xs ys) k) (omega arith) (dot_from_zero left right d (pos 0) k xs ys (omega (arith, ints)) (from_zero left n xs lefts) (from_zero right n ys rights)) (above_all k)

-- ---- windows
module _ {Y : Type 0} (P : Y → Type 0) where
  all_reversed : (ys : List Y) → All P ys → All P (reverse ys)
  all_reversed [] all = All-nil P
  all_reversed (y ∷ ys) all =
      let first : All P (y ∷ []) = All-cons P y [] (All-head P y ys all) (All-nil P) in
      rw (reverse-append (y ∷ []) ys) (All-append P (reverse ys) (y ∷ []) (all_reversed ys (All-tail P y ys all)) first)

  all_of_window : (ys : List Y) (a b : ℕ) → All P ys → All P (reverse (slice_range ys a b))
  all_of_window ys a b all = all_reversed (slice_range ys a b) (All-take P (b - a) (drop a ys) (All-drop P a ys all))

window_length : {Y : Type 0} (ys : List Y) (count i : ℕ) → i < length ys → count ≤ i → count ≡ length (reverse (slice_range ys (i + 1 - count) (i + 1)))
window_length ys count i there most =
    let a = i + 1 - count in
    let left = length-drop a ys in
    let taken = length-take-le (i + 1 - a) (drop a ys) (omega arith) in
    let turned = length-reverse (slice_range ys a (i + 1)) in
    omega arith

module _ {X Y : Type 0} (left : X → ℤ) (right : Y → ℤ) (signed : Bool) (n d m : ℕ) (xs : List X) where
  pub reply_where_room : (ys : List Y) → IsWidth n → All (λ y. unsigned_abs (right y) ≤ m) ys → length xs ≡ length ys → All (λ x. InRange signed n (left x)) xs → All (λ y. InRange signed n (right y)) ys
      → sum_by (λ x. unsigned_abs (left x)) xs * m / 2 ^ d + roundings signed (length xs) ≤ unsigned_abs (highest signed n)
      → filter_reply signed n (pos d) (pairs left right xs ys) ≡ Value (wrap signed n (accumulator (pos d) (pairs left right xs ys) (length xs)))
  reply_where_room ys width small same lefts rights room =
      let ps = pairs left right xs ys in
      let each : (k : ℕ) → InRange signed n (accumulator (pos d) ps k) = λ k. each_fits left right n d m xs ys small same signed k lefts rights room in
      let none = least_none (misses signed n (pos d) ps) (length ps) (λ t less. fits_not_missed signed n (accumulator (pos d) ps (t + 1)) (each (t + 1))) in
      ap (overflow_or (accumulator (pos d) ps (length ps))) none
      ∙ ap (λ (k : ℕ). Value (accumulator (pos d) ps k)) (pairs_length left right xs ys same)
      ∙ ap (λ (z : ℤ). Value z) (sym (wrap_same signed n (accumulator (pos d) ps (length xs)) (width_pos n width) (each (length xs))))

  pub untested : (samples : List Y) → IsWidth n → d ≤ n → All (λ y. unsigned_abs (right y) ≤ m) samples → All (λ x. InRange signed n (left x)) xs → All (λ y. InRange signed n (right y)) samples
      → sum_by (λ x. unsigned_abs (left x)) xs * m / 2 ^ d + roundings signed (length xs) ≤ unsigned_abs (highest signed n)
      → IsUntested left right signed n (pos d) xs samples d
  untested samples width most small lefts rights room = record {
    places = refl;
    most = most;
    replies = λ i there far.
        let a = i + 1 - length xs in
        reply_where_room (reverse (slice_range samples a (i + 1))) width
        (all_of_window (λ y. unsigned_abs (right y) ≤ m) samples a (i + 1) small)
        (window_length samples (length xs) i there far)
        lefts
        (all_of_window (λ y. InRange signed n (right y)) samples a (i + 1) rights)
        room;
  }

pub untested_where_room : {X Y : Type 0} (left : X → ℤ) (right : Y → ℤ) (signed : Bool) (n m weight : ℕ) (s : ℤ) (xs : List X) (samples : List Y) (o : Option ℕ) → IsWidth n → All (λ y. unsigned_abs (right y) ≤ m) samples
    → All (λ x. InRange signed n (left x)) xs → All (λ y. InRange signed n (right y)) samples → weight ≡ sum_by (λ x. unsigned_abs (left x)) xs → IfSome o (HasRoom signed n s weight m (length xs)) → IfSome o (IsUntested left right signed n s xs samples)
untested_where_room left right signed n m weight s xs samples None width small lefts rights total h = tt
untested_where_room left right signed n m weight s xs samples (Some d) width small lefts rights total h =
    let room = h.room in
    subst (λ (p : ℤ). IsUntested left right signed n p xs samples d) (sym h.places) (untested left right signed n d m xs samples width h.most small lefts rights (rw total at room))

-- ---- the wrapped sum of a window
-- one product more
wrapped_more : (s : Bool) (n d : ℕ) (acc c a b z : ℤ) → 0 < n → c ≡ wrap s n acc → z ≡ wrap s n (exact_mul_add a b c d) → z ≡ wrap s n (with_product (pos d) acc (a, b))
wrapped_more s n d acc c a b z some is e =
    let t = floor_quotient (a *ℤ b) (2 ^ d) in
    let same = wrap_congruent s n acc in
    let turns = same.1 in
    e ∙ ap (λ (x : ℤ). wrap s n (t +ℤ x)) is ∙ sym (wrap_alike s n (t +ℤ acc) (t +ℤ wrap s n acc) some (same.0, omega (arith, ints)))

pub wrapped_step : {X Y : Type 0} (left : X → ℤ) (right : Y → ℤ) (s : Bool) (n d : ℕ) (xs : List X) (ys : List Y) → length xs ≡ length ys → (i : ℕ) (x : X) (y : Y) → i < length xs → x ≡ get_or xs i x → y ≡ get_or ys i y
    → (c z : ℤ) → 0 < n → c ≡ wrap s n (accumulator (pos d) (pairs left right xs ys) i) → z ≡ wrap s n (exact_mul_add (left x) (right y) c d)
    → z ≡ wrap s n (accumulator (pos d) (pairs left right xs ys) (i + 1))
wrapped_step left right s n d xs ys same i x y there is_x is_y c z some is e =
    let ps = pairs left right xs ys in
    let acc = accumulator (pos d) ps i in
    let in_pairs : i < length ps = omega (arith, pairs_length left right xs ys same) in
    let next = ap (with_product (pos d) acc) (pair_at left right xs ys same i x y there is_x is_y) ∙ sym (fold_more (with_product (pos d)) (pos 0) ps i (left x, right y) in_pairs) in
    wrapped_more s n d acc c (left x) (right y) z some is e ∙ ap (wrap s n) next

pub zero_in : (s : Bool) (n : ℕ) → InRange s n (pos 0)
zero_in true n = ends_signed n 0 (pos 0) (omega arith) (omega (arith, ints)) (omega (arith, ints))
zero_in false n = ends_unsigned n 0 (pos 0) (omega arith) (omega (arith, ints)) (omega (arith, ints))

pub wrap_of_zero : (s : Bool) (n : ℕ) → IsWidth n → wrap s n (pos 0) ≡ pos 0
wrap_of_zero s n width = wrap_same s n (pos 0) (width_pos n width) (zero_in s n)

-- ---- the walks over taps and samples
-- sum is that of the first i magnitudes
pub record IsWeighed {X : Type 0} (value : X → ℤ) (signed : Bool) (n : ℕ) (xs : List X) (i sum : ℕ) : Type 0 where
  pub total : sum ≡ sum_by (λ x. unsigned_abs (value x)) (take i xs)
  pub most : sum ≤ i * 2 ^ 64
  pub in_range : All (λ x. InRange signed n (value x)) (take i xs)

-- most is no less than each of the first i magnitudes
pub record IsPeak {X : Type 0} (value : X → ℤ) (signed : Bool) (n : ℕ) (xs : List X) (i most : ℕ) : Type 0 where
  pub each : All (λ x. unsigned_abs (value x) ≤ most) (take i xs)
  pub in_range : All (λ x. InRange signed n (value x)) (take i xs)

module _ {X : Type 0} (value : X → ℤ) (signed : Bool) (n : ℕ) (xs : List X) (i : ℕ) (x : X) (size : ℕ) (there : i < length xs) (is : x ≡ get_or xs i x) (is_size : size ≡ unsigned_abs (value x)) (range : InRange signed n (value x)) where
  ranges_more : All (λ x. InRange signed n (value x)) (take i xs) → All (λ x. InRange signed n (value x)) (take (i + 1) xs)
  ranges_more all = All-more (λ x. InRange signed n (value x)) xs i x there all (subst (λ z. InRange signed n (value z)) is range)

  pub weighed_more : (sum : ℕ) → size < 2 ^ 64 → IsWeighed value signed n xs i sum → IsWeighed value signed n xs (i + 1) (sum + size)
  weighed_more sum small so_far =
      let f : X → ℕ = λ x. unsigned_abs (value x) in
      let most = so_far.most in
      record {
        total = ap (λ (k : ℕ). k + size) so_far.total ∙ ap (λ (k : ℕ). sum_by f (take i xs) + k) (is_size ∙ ap f is) ∙ sym (sum_by_more f xs i x there);
        most = omega arith;
        in_range = ranges_more so_far.in_range;
      }

  pub peak_more : (most next : ℕ) → most ≤ next → size ≤ next → IsPeak value signed n xs i most → IsPeak value signed n xs (i + 1) next
  peak_more most next above up so_far =
      let before = All-weaker (λ x. unsigned_abs (value x) ≤ most) (λ x. unsigned_abs (value x) ≤ next) (λ z h. omega arith) (take i xs) so_far.each in
      let here : unsigned_abs (value x) ≤ next = omega arith in
      record {
        each = All-more (λ x. unsigned_abs (value x) ≤ next) xs i x there before (subst (λ z. unsigned_abs (value z) ≤ next) is here);
        in_range = ranges_more so_far.in_range;
      }

-- a test as a fact
pub at_most : (a b : ℕ) → IsTrue (nat_le a b) → a ≤ b
at_most a b h = grind arith
