-- The ends that a call over intervals leaves.
use Rattle.std.proofs.Common.{◌≡◌, ◌≤◌, ◌∙◌, ℕ, ℤ, Bool, true, false, Option, Some, None, Result, Ok, Err, refl, pos, arith}
use Rattle.std.specs.Prelude.{◌&&◌, int_le, int_lt, if◌then◌else◌}
use Rattle.std.specs.Option.{option_map}
use Rattle.std.proofs.lemmas.Int.{ints}
use Rattle.fixed_word.specs.Format.{fits}
use Rattle.fixed_interval.specs.Ends.{Bounds, Ends, difference_of, ends_of, fitting, has_zero, product_of, quotient_ends, quotient_of, root_ends, root_of_ends, sum_of}
use Rattle.fixed_face.specs.declared.answer.Code.{Code}
use Rattle.fixed_face.specs.declared.answer.Code.TheVariants.{OutOfRange}
use Rattle.fixed_face.specs.Intervals.{EndsAnswers, difference_in, from_zero, in_order, in_word, product_in, quotient_in, root_in, sum_in, without_zero}
use Rattle.fixed_face.proofs.Choices.{first, fraction_is, second}

-- ---- what was found, by the test whether it fits
left_by : {T : Type 0} (value : T → ℤ) (t : Bool) (e : Ends) (b old : Bounds T) → Some (ends_of value b) ≡ (if t then Some e else None) → EndsAnswers value (if t then Ok e else Err OutOfRange) old b (pos 0)
unfolding EndsAnswers
left_by value true e b old h = let k : ends_of value b ≡ e = cc in (refl, k)
left_by value false e b old h = absurd (cc)

refused_by : {T : Type 0} (value : T → ℤ) (t : Bool) (e : Ends) (old : Bounds T) (code : ℤ) → None ≡ (if t then Some e else None) → code ≡ pos 5 → EndsAnswers value (if t then Ok e else Err OutOfRange) old old code
unfolding EndsAnswers
refused_by value true e old code h k = absurd (cc)
refused_by value false e old code h k = (k, refl)

seen : {T : Type 0} (value : T → ℤ) (found : Option (Bounds T)) (b : Bounds T) (lo hi : T) → found ≡ Some b → lo ≡ b.lo → hi ≡ b.hi → Some (ends_of value (record { lo = lo; hi = hi })) ≡ option_map (ends_of value) found
seen value found b lo hi f l h = rw (l, h, f) refl

pub left : {T : Type 0} (value : T → ℤ) (s : Bool) (n : ℕ) (e : Ends) (found : Option (Bounds T)) (b : Bounds T) (lo hi : T) (old : Bounds T) → found ≡ Some b → lo ≡ b.lo → hi ≡ b.hi → option_map (ends_of value) found ≡ fitting s n (Some e) → EndsAnswers value (in_word s n e) old (record { lo = lo; hi = hi }) (pos 0)
unfolding in_word
left value s n e found b lo hi old f l h g = left_by value (fits s n e.low && fits s n e.high) e (record { lo = lo; hi = hi }) old (seen value found b lo hi f l h ∙ g)

none_of : {T : Type 0} (value : T → ℤ) (found : Option (Bounds T)) → found ≡ None → None ≡ option_map (ends_of value) found
none_of value found f = rw f refl

pub refused : {T : Type 0} (value : T → ℤ) (s : Bool) (n : ℕ) (e : Ends) (found : Option (Bounds T)) (old : Bounds T) (code : ℤ) → found ≡ None → option_map (ends_of value) found ≡ fitting s n (Some e) → code ≡ pos 5 → EndsAnswers value (in_word s n e) old old code
unfolding in_word
refused value s n e found old code f g k = refused_by value (fits s n e.low && fits s n e.high) e old code (none_of value found f ∙ g) k

-- ---- the operations past each test
ordered : (a : Ends) (answer : Result Ends Code) → int_lt a.high a.low ≡ false → in_order a answer ≡ answer
unfolding in_order
ordered a answer p = second (int_lt a.high a.low) _ answer p

both : (a b : Ends) (answer : Result Ends Code) → int_lt a.high a.low ≡ false → int_lt b.high b.low ≡ false → in_order a (in_order b answer) ≡ answer
both a b answer p q = ordered a (in_order b answer) p ∙ ordered b answer q

pub sum_is : (s : Bool) (n : ℕ) (a b : Ends) → int_lt a.high a.low ≡ false → int_lt b.high b.low ≡ false → sum_in s n a b ≡ in_word s n (sum_of a b)
unfolding sum_in
sum_is s n a b p q = both a b (in_word s n (sum_of a b)) p q

pub difference_is : (s : Bool) (n : ℕ) (a b : Ends) → int_lt a.high a.low ≡ false → int_lt b.high b.low ≡ false → difference_in s n a b ≡ in_word s n (difference_of a b)
unfolding difference_in
difference_is s n a b p q = both a b (in_word s n (difference_of a b)) p q

pub product_is : (s : Bool) (n : ℕ) (a b : Ends) (f : ℕ) → f ≤ n → int_lt a.high a.low ≡ false → int_lt b.high b.low ≡ false → product_in s n a b f ≡ in_word s n (product_of a b f)
unfolding product_in
product_is s n a b f l p q = fraction_is n f _ l ∙ both a b (in_word s n (product_of a b f)) p q

off_zero : (b : Ends) (answer : Result Ends Code) → has_zero b ≡ false → without_zero b answer ≡ answer
unfolding without_zero
off_zero b answer z = second (has_zero b) _ answer z

pub quotient_is : (s : Bool) (n : ℕ) (a b : Ends) (f : ℕ) → f ≤ n → int_lt a.high a.low ≡ false → int_lt b.high b.low ≡ false → has_zero b ≡ false → quotient_in s n a b f ≡ in_word s n (quotient_of a b f)
unfolding quotient_in
quotient_is s n a b f l p q z = fraction_is n f _ l ∙ (both a b _ p q ∙ off_zero b (in_word s n (quotient_of a b f)) z)

pub has_quotient : (a b : Ends) (f : ℕ) → has_zero b ≡ false → quotient_ends a b f ≡ Some (quotient_of a b f)
has_quotient a b f z = second (has_zero b) None (Some (quotient_of a b f)) z

at_zero : (a : Ends) (answer : Result Ends Code) → int_lt a.low (pos 0) ≡ false → from_zero a answer ≡ answer
unfolding from_zero
at_zero a answer z = second (int_lt a.low (pos 0)) _ answer z

pub root_is : (s : Bool) (n : ℕ) (a : Ends) (f : ℕ) → f ≤ n → int_lt a.high a.low ≡ false → int_lt a.low (pos 0) ≡ false → root_in s n a f ≡ in_word s n (root_of_ends a f)
unfolding root_in
root_is s n a f l p z = fraction_is n f _ l ∙ (ordered a _ p ∙ at_zero a (in_word s n (root_of_ends a f)) z)

not_below : (x : ℤ) → int_lt x (pos 0) ≡ false → int_le (pos 0) x ≡ true
not_below x z = grind (arith, ints)

pub has_root : (a : Ends) (f : ℕ) → int_lt a.low (pos 0) ≡ false → root_ends a f ≡ Some (root_of_ends a f)
has_root a f z = first (int_le (pos 0) a.low) (Some (root_of_ends a f)) None (not_below a.low z)
