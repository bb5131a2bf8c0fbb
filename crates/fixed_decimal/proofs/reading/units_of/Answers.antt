use Rattle.std.proofs.Common.{◌≡◌, ◌+◌, ◌*◌, ◌-◌, ◌%◌, ◌^◌, ◌<◌, ◌≤◌, ℕ, zero, suc, List, [], ◌∷◌, true, refl, length, take, drop, length-take, length-drop, sym, ap, ◌∙◌, add-mul, mul_right_comm, arith}
use Rattle.std.specs.Str.Parse.{digits_value}
use Rattle.std.proofs.Math.Nat.{pow-le-pow_right}
use Rattle.std.proofs.Math.Seq.{take-add}
use Rattle.std.specs.Char.{is_ascii_digit}
use Rattle.std.specs.List.{list_all}
use Rattle.std.proofs.lemmas.List.{drop-take}
use Rattle.std.proofs.lemmas.Nat.{mul-le, shl_whole}
use Rattle.fixed_decimal.specs.inside.Reading.{held}
use Rattle.fixed_decimal.proofs.Heldness.{held_below, held_step}
use Rattle.fixed_decimal.proofs.Runs.{cut_digits, cut_small, value_join}
use Rattle.fixed_decimal.proofs.reading.units_of.Goals as goal

take-take-le : (n m : ℕ) (xs : List ℕ) → n ≤ m → take n (take m xs) ≡ take n xs
take-take-le zero m xs le = refl
take-take-le (suc n) zero xs le = absurd (omega arith)
take-take-le (suc n) (suc m) [] le = refl
take-take-le (suc n) (suc m) (x ∷ xs) le = ap (λ (l : List ℕ). x ∷ l) (take-take-le n m xs (omega arith))

-- a part of the digits before the point
within_point : (bytes : List ℕ) (p s n : ℕ) → s + n ≤ p → take n (drop s bytes) ≡ take n (drop s (take p bytes))
within_point bytes p s n le =
    let k : ℕ = p - s in
    let e : s + k ≡ p = omega arith in
    sym (ap (λ m. take n (drop s (take m bytes))) (sym e) ∙ ap (take n) (drop-take s k bytes) ∙ take-take-le n k (drop s bytes) (omega arith))

pub value_of-requires-clause-digits : goal.value_of-requires-clause-digits
value_of-requires-clause-digits c =
    let e = within_point c.args.bytes.now c.args.point c.loop-start.start c.smaller-count.result (omega (arith, c.smaller-count.ensures)) in
    ap (list_all is_ascii_digit) e ∙ cut_digits (take c.args.point c.args.bytes.now) c.loop-start.start c.smaller-count.result c.requires.digits

-- a held number has room for 18 digits more
product_small : (n u j : ℕ) → u ≡ held n → j ≤ 18 → u * 10 ^ j ≤ 2 ^ 125
product_small n u j e le =
    let p = pow-le-pow_right {n = 10} (omega arith) {i = j} {j = 18} le in
    let m = mul-le u (10 ^ j) (2 ^ 65) (10 ^ 18) (omega (arith, held_below n)) p in
    omega arith

moved : (v f : ℕ) → v < 2 ^ 60 → f ≤ 64 → ((v * 2 ^ f) % 2 ^ 128 ≡ v * 2 ^ f) × (v * 2 ^ f ≤ 2 ^ 124)
moved v f small le =
    let p = pow-le-pow_right {n = 2} (omega arith) {i = f} {j = 64} le in
    let m = mul-le v (2 ^ f) (2 ^ 60) (2 ^ 64) (omega arith) p in
    (shl_whole v 60 f 128 small (omega arith), omega arith)

-- one turn, over plain variables
turn : (ds : List ℕ) (s n f u x t : ℕ) → s + n ≤ length ds → u ≡ held (digits_value 10 (take s ds) * 2 ^ f) → x ≡ digits_value 10 (take n (drop s ds)) * 2 ^ f → t ≡ 10 ^ n → held (u * t + x) ≡ held (digits_value 10 (take (s + n) ds) * 2 ^ f)
turn ds s n f u x t within units more tens =
    let c = take n (drop s ds) in
    let long : length c ≡ n = omega (arith, length-take n (drop s ds), length-drop s ds) in
    let value : digits_value 10 (take (s + n) ds) ≡ digits_value 10 (take s ds) * 10 ^ n + digits_value 10 c = ap (digits_value 10) (take-add s n ds) ∙ value_join (take s ds) c ∙ ap (λ k. digits_value 10 (take s ds) * 10 ^ k + digits_value 10 c) long in
    let sum : digits_value 10 (take (s + n) ds) * 2 ^ f ≡ digits_value 10 (take s ds) * 2 ^ f * 10 ^ n + digits_value 10 c * 2 ^ f =
    ap (λ n. n * 2 ^ f) value ∙ add-mul (digits_value 10 (take s ds) * 10 ^ n) (digits_value 10 c) (2 ^ f) ∙ ap (λ k. k + digits_value 10 c * 2 ^ f) (mul_right_comm (digits_value 10 (take s ds)) (10 ^ n) (2 ^ f)) in
    ap (λ k. held (k * t + x)) units ∙ ap (λ k. held (held (digits_value 10 (take s ds) * 2 ^ f) * k + x)) tens ∙ ap (λ k. held (held (digits_value 10 (take s ds) * 2 ^ f) * 10 ^ n + k)) more
    ∙ held_step (digits_value 10 (take s ds) * 2 ^ f) (10 ^ n) (digits_value 10 c * 2 ^ f) ∙ ap held (sym sum)

pub record IsTurn (bytes : List ℕ) (point s n f units v t : ℕ) : Type 0 where
  pub product : units * t ≤ 2 ^ 125
  pub moved : (v * 2 ^ f) % 2 ^ 128 ≡ v * 2 ^ f
  pub small : v * 2 ^ f ≤ 2 ^ 124
  pub after : held (units * t + v * 2 ^ f) ≡ held (digits_value 10 (take (s + n) (take point bytes)) * 2 ^ f)

turned : (bytes : List ℕ) (point s n f units v t : ℕ) → point ≤ length bytes → list_all is_ascii_digit (take point bytes) ≡ true → f ≤ 64 → s + n ≤ point → n ≤ 18
    → units ≡ held (digits_value 10 (take s (take point bytes)) * 2 ^ f) → v ≡ digits_value 10 (take n (drop s bytes)) → t ≡ 10 ^ n → IsTurn bytes point s n f units v t
turned bytes point s n f units v t within digits le part few eu ev et =
    let ds = take point bytes in
    let cut : v ≡ digits_value 10 (take n (drop s ds)) = ev ∙ ap (digits_value 10) (within_point bytes point s n part) in
    let small = cut_small ds s n digits few in
    let m = moved v f (omega (arith, cut, small)) le in
    let p = product_small (digits_value 10 (take s ds) * 2 ^ f) units n eu few in
    let long : length ds ≡ point = omega (arith, length-take point bytes) in
    record {
      product = omega (arith, p, ap (λ k. units * k) et);
      moved = m.0;
      small = m.1;
      after = turn ds s n f units (v * 2 ^ f) t (omega arith) eu (ap (λ k. k * 2 ^ f) cut) et;
    }

pub overflow_mul-units : goal.overflow_mul-units
overflow_mul-units c =
    let t = turned c.args.bytes.now c.args.point c.loop-start.start c.smaller-count.result c.args.frac c.loop-start.units c.value_of.result c.ten_to.result c.requires.within c.requires.digits c.requires.frac (omega (arith, c.smaller-count.ensures)) (omega (arith, c.smaller-count.ensures)) c.loop-start.invariant.value c.value_of.ensures c.ten_to.ensures in
    omega (arith, t.product)

pub overflow_add-units : goal.overflow_add-units
overflow_add-units c =
    let t = turned c.args.bytes.now c.args.point c.loop-start.start c.smaller-count.result c.args.frac c.loop-start.units c.value_of.result c.ten_to.result c.requires.within c.requires.digits c.requires.frac (omega (arith, c.smaller-count.ensures)) (omega (arith, c.smaller-count.ensures)) c.loop-start.invariant.value c.value_of.ensures c.ten_to.ensures in
    omega (arith, t.product, t.moved, t.small)

pub loop-start-preserved : goal.loop-start-preserved
loop-start-preserved c =
    let t = turned c.args.bytes.now c.args.point c.loop-start.start c.smaller-count.result c.args.frac c.loop-start.units c.value_of.result c.ten_to.result c.requires.within c.requires.digits c.requires.frac (omega (arith, c.smaller-count.ensures)) (omega (arith, c.smaller-count.ensures)) c.loop-start.invariant.value c.value_of.ensures c.ten_to.ensures in
    record {
      within = omega (arith, c.smaller-count.ensures);
      value = c.fold-units.ensures ∙ ap (λ k. held (c.loop-start.units * c.ten_to.result + k)) t.moved ∙ t.after;
    }
