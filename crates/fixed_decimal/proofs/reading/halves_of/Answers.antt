use Rattle.std.proofs.Common.{◌≡◌, ◌==◌, ◌||◌, ◌+◌, ◌*◌, ◌-◌, ◌/◌, ◌%◌, ◌^◌, ◌≤◌, ◌++◌, ℕ, Bool, true, not, min, List, length, take, drop, length-drop, drop-drop, sym, ap, ◌∙◌, arith}
use Rattle.std.specs.Char.{is_ascii_digit}
use Rattle.std.specs.List.{list_all}
use Rattle.std.specs.Str.Parse.{digits_value}
use Rattle.std.proofs.Math.Nat.{one-le-pow}
use Rattle.fixed_decimal.proofs.Parts.{halves_small, moved_room, moved_up, part_step}
use Rattle.fixed_decimal.proofs.Runs.{back_digits, back_split, cut_digits, cut_small, value_below, value_join}
use Rattle.fixed_decimal.proofs.reading.halves_of.Goals as goal

-- the digits that are taken, from their place behind the point
placed : (bytes : List ℕ) (from s n : ℕ) → take n (drop (from + s) bytes) ≡ take n (drop s (drop from bytes))
placed bytes from s n = ap (take n) (ap (λ k. drop k bytes) (omega arith) ∙ sym (drop-drop s from bytes))

pub value_of-requires-clause-digits : goal.value_of-requires-clause-digits
value_of-requires-clause-digits c =
    let s : ℕ = c.loop-end.end - c.smaller-count.result in
    ap (list_all is_ascii_digit) (placed c.args.bytes.now c.args.from s c.smaller-count.result) ∙ cut_digits (drop c.args.from c.args.bytes.now) s c.smaller-count.result c.requires.digits

-- the number that is divided, over plain variables
pub record IsNumber (ds : List ℕ) (s n f v : ℕ) : Type 0 where
  pub moved : (v * 2 ^ (f + 1)) % 2 ^ 128 ≡ digits_value 10 (take n (drop s ds)) * (2 * 2 ^ f)
  pub small : digits_value 10 (take n (drop s ds)) * (2 * 2 ^ f) ≤ 2 ^ 125
  pub before : 2 * (digits_value 10 (drop (s + n) ds) * 2 ^ f) / 10 ^ length (drop (s + n) ds) ≤ 2 ^ 65

number_is : (bytes : List ℕ) (from s n f v : ℕ) → list_all is_ascii_digit (drop from bytes) ≡ true → n ≤ 18 → f ≤ 64 → v ≡ digits_value 10 (take n (drop (from + s) bytes)) → IsNumber (drop from bytes) s n f v
number_is bytes from s n f v digits few le ev =
    let ds = drop from bytes in
    let is : v ≡ digits_value 10 (take n (drop s ds)) = ev ∙ ap (digits_value 10) (placed bytes from s n) in
    let small = cut_small ds s n digits few in
    let h = halves_small (digits_value 10 (drop (s + n) ds)) (length (drop (s + n) ds)) f (value_below (drop (s + n) ds) (back_digits ds (s + n) digits)) le in
    record {
      moved = ap (λ k. (k * 2 ^ (f + 1)) % 2 ^ 128) is ∙ moved_up _ f small le;
      small = moved_room _ f small le;
      before = h;
    }

pub divided-quotient-requires : goal.divided-quotient-requires
divided-quotient-requires c = omega (arith, c.ten_to.ensures, one-le-pow c.smaller-count.result 10 (omega arith))

-- one turn
turn : (ds : List ℕ) (s n f x h t q : ℕ) (r l : Bool) → list_all is_ascii_digit ds ≡ true → s + n ≤ length ds → t ≡ 10 ^ n → x ≡ digits_value 10 (take n (drop s ds)) * (2 * 2 ^ f)
    → h ≡ 2 * (digits_value 10 (drop (s + n) ds) * 2 ^ f) / 10 ^ length (drop (s + n) ds) → r ≡ not (2 * (digits_value 10 (drop (s + n) ds) * 2 ^ f) % 10 ^ length (drop (s + n) ds) == 0)
    → q ≡ (x + h) / t → l ≡ not ((x + h) % t == 0)
    → (q ≡ 2 * (digits_value 10 (drop s ds) * 2 ^ f) / 10 ^ length (drop s ds)) × ((r || l) ≡ not (2 * (digits_value 10 (drop s ds) * 2 ^ f) % 10 ^ length (drop s ds) == 0))
turn ds s n f x h t q r l digits within tens number half rest quotient left =
    let c = take n (drop s ds) in
    let tail = drop (s + n) ds in
    let count : s + n - s ≡ n = omega arith in
    let split : drop s ds ≡ c ++ tail = back_split ds s (s + n) (omega arith) ∙ ap (λ k. take k (drop s ds) ++ tail) count in
    let long : length (drop s ds) ≡ n + length tail = omega (arith, length-drop s ds, length-drop (s + n) ds) in
    let value : digits_value 10 (drop s ds) ≡ digits_value 10 c * 10 ^ length tail + digits_value 10 tail = ap (digits_value 10) split ∙ value_join c tail in
    let p = part_step (digits_value 10 c) (digits_value 10 tail) n (length tail) (2 ^ f) h r half rest in
    rw (value, long) (
      quotient ∙ ap (λ k. (k + h) / t) number ∙ ap (λ k. (digits_value 10 c * (2 * 2 ^ f) + h) / k) tens ∙ p.0,
      ap (λ b. r || b) (left ∙ ap (λ k. not ((k + h) % t == 0)) number ∙ ap (λ k. not ((digits_value 10 c * (2 * 2 ^ f) + h) % k == 0)) tens) ∙ p.1,
    )

-- the same, where the digits begin that were taken before
abbrev halves_from : List ℕ → ℕ → ℕ → ℕ
halves_from ds f e = 2 * (digits_value 10 (drop e ds) * 2 ^ f) / 10 ^ length (drop e ds)

abbrev rest_from : List ℕ → ℕ → ℕ → Bool
rest_from ds f e = not (2 * (digits_value 10 (drop e ds) * 2 ^ f) % 10 ^ length (drop e ds) == 0)

turned : (bytes : List ℕ) (from e n f v h t q : ℕ) (r l : Bool) → list_all is_ascii_digit (drop from bytes) ≡ true → e ≤ length (drop from bytes) → n ≡ min e 18 → f ≤ 64 → v ≡ digits_value 10 (take n (drop (from + (e - n)) bytes)) → t ≡ 10 ^ n
    → h ≡ halves_from (drop from bytes) f e → r ≡ rest_from (drop from bytes) f e → q ≡ ((v * 2 ^ (f + 1)) % 2 ^ 128 + h) / t → l ≡ not (((v * 2 ^ (f + 1)) % 2 ^ 128 + h) % t == 0)
    → (q ≡ halves_from (drop from bytes) f (e - n)) × ((r || l) ≡ rest_from (drop from bytes) f (e - n))
turned bytes from e n f v h t q r l digits within count le ev et eh er eq el =
    let ds = drop from bytes in
    let s : ℕ = e - n in
    let back : e ≡ s + n = omega (arith, count) in
    let x = number_is bytes from s n f v digits (omega (arith, count)) le ev in
    turn ds s n f _ h t q r l digits (omega (arith, back)) et x.moved (eh ∙ ap (halves_from ds f) back) (er ∙ ap (rest_from ds f) back) eq el

room : (bytes : List ℕ) (from e n f v h : ℕ) → list_all is_ascii_digit (drop from bytes) ≡ true → n ≡ min e 18 → f ≤ 64 → v ≡ digits_value 10 (take n (drop (from + (e - n)) bytes)) → h ≡ halves_from (drop from bytes) f e → ((v * 2 ^ (f + 1)) % 2 ^ 128 ≤ 2 ^ 125) × (h ≤ 2 ^ 65)
room bytes from e n f v h digits count le ev eh =
    let ds = drop from bytes in
    let x = number_is bytes from (e - n) n f v digits (omega (arith, count)) le ev in
    (omega (arith, x.moved, x.small), omega (arith, eh, halves_small (digits_value 10 (drop e ds)) (length (drop e ds)) f (value_below (drop e ds) (back_digits ds e digits)) le))

pub overflow_add-number-in-loop-end : goal.overflow_add-number-in-loop-end
overflow_add-number-in-loop-end c =
    let i = c.loop-end.invariant in
    let b = room c.args.bytes.now c.args.from c.loop-end.end c.smaller-count.result c.args.frac c.value_of.result c.loop-end.halves c.requires.digits c.smaller-count.ensures c.requires.frac c.value_of.ensures i.halves in
    omega (arith, b.0, b.1)

pub loop-end-preserved-then-rest : goal.loop-end-preserved-then-rest
loop-end-preserved-then-rest c =
    let i = c.loop-end.invariant in
    let t = turned c.args.bytes.now c.args.from c.loop-end.end c.smaller-count.result c.args.frac c.value_of.result c.loop-end.halves c.ten_to.result c.divided-quotient.result.0 c.loop-end.rest c.divided-quotient.result.1 c.requires.digits i.within c.smaller-count.ensures c.requires.frac c.value_of.ensures c.ten_to.ensures i.halves i.rest c.divided-quotient.ensures.quotient c.divided-quotient.ensures.rest in
    record { within = omega (arith, i.within); halves = t.0; rest = sym (ap (λ b. b || c.divided-quotient.result.1) c.if-rest.true ∙ sym c.if-rest.true) ∙ t.1 }

pub loop-end-preserved : goal.loop-end-preserved
loop-end-preserved c =
    let i = c.loop-end.invariant in
    let t = turned c.args.bytes.now c.args.from c.loop-end.end c.smaller-count.result c.args.frac c.value_of.result c.loop-end.halves c.ten_to.result c.divided-quotient.result.0 c.loop-end.rest c.divided-quotient.result.1 c.requires.digits i.within c.smaller-count.ensures c.requires.frac c.value_of.ensures c.ten_to.ensures i.halves i.rest c.divided-quotient.ensures.quotient c.divided-quotient.ensures.rest in
    record { within = omega (arith, i.within); halves = t.0; rest = sym (ap (λ b. b || c.divided-quotient.result.1) c.if-rest.false) ∙ t.1 }

pub returns-clause-small : goal.returns-clause-small
returns-clause-small c =
    let ds = drop c.args.from c.args.bytes.now in
    let e = c.loop-end.end in
    let h = halves_small (digits_value 10 (drop e ds)) (length (drop e ds)) c.args.frac (value_below (drop e ds) (back_digits ds e c.requires.digits)) c.requires.frac in
    omega (arith, h, c.loop-end.invariant.halves)
