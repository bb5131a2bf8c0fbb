use Rattle.std.proofs.Common.{◌≡◌, ◌==◌, ◌+◌, ◌*◌, ◌-◌, ◌/◌, ◌%◌, ◌^◌, ◌<◌, ◌≤◌, ◌++◌, ℕ, Bool, not, List, drop, sym, ap, ◌∙◌, append_assoc, arith}
use Rattle.std.proofs.Math.Nat.{one-le-pow, pow-le-pow_right}
use Rattle.std.proofs.lemmas.Nat.{div_below, mod_below, mul-le}
use Rattle.fixed_word.specs.declared.rounding.Rounding.{Rounding}
use Rattle.fixed_decimal.specs.Text.{places_text}
use Rattle.fixed_decimal.specs.inside.Stepped.{stepped}
use Rattle.fixed_decimal.proofs.PlacesPut.{IsCut, carry_cut, digits_cut, part_small}
use Rattle.fixed_decimal.proofs.writing.+put_part.Goals as goal

-- what is scaled has room
room : (part f p t : ℕ) → part < 2 ^ f → f ≤ 64 → p ≤ 18 → t ≡ 10 ^ p → part * t ≤ 2 ^ 124
room part f p t lt le few e =
    let w = pow-le-pow_right {n = 2} (omega arith) {i = f} {j = 64} le in
    let u = pow-le-pow_right {n = 10} (omega arith) {i = p} {j = 18} few in
    let m = mul-le part t (2 ^ 64) (10 ^ 18) (omega arith) (omega arith) in
    omega arith

small_power : (p : ℕ) → p ≤ 18 → 10 ^ p ≤ 10 ^ 18
small_power p few = pow-le-pow_right {n = 10} (omega arith) {i = p} {j = 18} few

-- the carry, of what is left of the scaled part
carried : (k : Rounding) (b : Bool) (f j part scaled more : ℕ) → part ≡ scaled % 2 ^ f → more ≡ stepped k b (part * 10 ^ j) (2 ^ f) / 10 ^ j → more ≡ stepped k b (scaled % 2 ^ f * 10 ^ j) (2 ^ f) / 10 ^ j
carried k b f j part scaled more e is = is ∙ ap (λ n. stepped k b (n * 10 ^ j) (2 ^ f) / 10 ^ j) e

pub overflow_mul-scaled-then-places-le-PART-2 : goal.overflow_mul-scaled-then-places-le-PART-2
overflow_mul-scaled-then-places-le-PART-2 t c = omega (arith, room c.args.part c.args.frac c.args.places c.from.result c.requires.part c.requires.frac c.if-places-le-PART.true (c.from.ensures ∙ c.ten_to.ensures))

pub overflow_mul-scaled-then-places-le-PART : goal.overflow_mul-scaled-then-places-le-PART
overflow_mul-scaled-then-places-le-PART t c = omega (arith, room c.args.part c.args.frac c.args.places c.from.result c.requires.part c.requires.frac c.if-places-le-PART.true (c.from.ensures ∙ c.ten_to.ensures))

pub overflow_cast-number : goal.overflow_cast-number
overflow_cast-number t c =
    let e : c.from.result ≡ 10 ^ c.args.places = c.from.ensures ∙ c.ten_to.ensures in
    let is = c.rounded_halves-number.ensures (c.args.part * 10 ^ c.args.places) (2 ^ c.args.frac) (one-le-pow c.args.frac 2 (omega arith)) (ap (λ n. 2 * (c.args.part * n) / 2 ^ c.args.frac) e) (ap (λ n. not (n == 0)) c.low_bits-rest.ensures ∙ ap (λ n. not (2 * (c.args.part * n) % 2 ^ c.args.frac == 0)) e) in
    omega (arith, is, part_small c.args.rounding c.args.below_zero c.args.part c.args.places (2 ^ c.args.frac) c.requires.part, small_power c.args.places c.if-places-le-PART.true)

pub returns-then-places-le-PART-clause-carry : goal.returns-then-places-le-PART-clause-carry
returns-then-places-le-PART-clause-carry t c =
    let e : c.from.result ≡ 10 ^ c.args.places = c.from.ensures ∙ c.ten_to.ensures in
    let is = c.rounded_halves-number.ensures (c.args.part * 10 ^ c.args.places) (2 ^ c.args.frac) (one-le-pow c.args.frac 2 (omega arith)) (ap (λ n. 2 * (c.args.part * n) / 2 ^ c.args.frac) e) (ap (λ n. not (n == 0)) c.low_bits-rest.ensures ∙ ap (λ n. not (2 * (c.args.part * n) % 2 ^ c.args.frac == 0)) e) in
    c.put_digits.ensures.front ∙ ap (λ n. n / 10 ^ c.args.places) is

pub returns-then-places-le-PART-clause-digits : goal.returns-then-places-le-PART-clause-digits
returns-then-places-le-PART-clause-digits t c =
    let e : c.from.result ≡ 10 ^ c.args.places = c.from.ensures ∙ c.ten_to.ensures in
    let is = c.rounded_halves-number.ensures (c.args.part * 10 ^ c.args.places) (2 ^ c.args.frac) (one-le-pow c.args.frac 2 (omega arith)) (ap (λ n. 2 * (c.args.part * n) / 2 ^ c.args.frac) e) (ap (λ n. not (n == 0)) c.low_bits-rest.ensures ∙ ap (λ n. not (2 * (c.args.part * n) % 2 ^ c.args.frac == 0)) e) in
    c.put_digits.ensures.digits ∙ ap (λ n. places_text n c.args.places ++ drop c.args.end c.args.buffer.now) is

pub overflow_add-scaled : goal.overflow_add-scaled
overflow_add-scaled t c =
    let e : c.from-2.result ≡ 10 ^ 18 = c.from-2.ensures ∙ c.ten_to-2.ensures in
    let j = c.args.places - 18 in
    let two = one-le-pow c.args.frac 2 (omega arith) in
    let ten = one-le-pow j 10 (omega arith) in
    let m = ap (λ n. c.args.part * n) e in
    let p = c.requires.part in
    let q = div_below (c.args.part * c.from-2.result) (2 ^ c.args.frac) (10 ^ 18) two (omega arith) in
    let s = part_small c.args.rounding c.args.below_zero (c.args.part * c.from-2.result % 2 ^ c.args.frac) j (2 ^ c.args.frac) (mod_below (c.args.part * c.from-2.result) (2 ^ c.args.frac) two) in
    let d = div_below (stepped c.args.rounding c.args.below_zero (c.args.part * c.from-2.result % 2 ^ c.args.frac * 10 ^ j) (2 ^ c.args.frac)) (10 ^ j) 2 ten (omega arith) in
    omega (arith, carried c.args.rounding c.args.below_zero c.args.frac j c.low_bits-part.result (c.args.part * c.from-2.result) c.put_part-more.result c.low_bits-part.ensures c.put_part-more.ensures.carry)

pub returns-clause-carry : goal.returns-clause-carry
returns-clause-carry t c =
    let past = c.if-places-le-PART.false in
    let i : IsCut c.args.rounding c.args.below_zero c.args.part c.args.frac c.args.places (c.args.places - 18) (c.args.part * c.from-2.result) c.put_part-more.result = record {
      places = omega arith;
      one = omega arith;
      product = ap (λ n. c.args.part * n) (c.from-2.ensures ∙ c.ten_to-2.ensures);
      carried = carried c.args.rounding c.args.below_zero c.args.frac (c.args.places - 18) c.low_bits-part.result (c.args.part * c.from-2.result) c.put_part-more.result c.low_bits-part.ensures c.put_part-more.ensures.carry;
    } in
    c.put_digits-2.ensures.front ∙ carry_cut c.args.rounding c.args.below_zero c.args.part c.args.frac c.args.places (c.args.places - 18) (c.args.part * c.from-2.result) c.put_part-more.result i

pub returns-clause-digits : goal.returns-clause-digits
returns-clause-digits t c =
    let past = c.if-places-le-PART.false in
    let j = c.args.places - 18 in
    let scaled = c.args.part * c.from-2.result in
    let n = scaled / 2 ^ c.args.frac + c.put_part-more.result in
    let rest = stepped c.args.rounding c.args.below_zero (scaled % 2 ^ c.args.frac * 10 ^ j) (2 ^ c.args.frac) in
    let old = c.args.buffer.now in
    let end = c.args.end in
    let i : IsCut c.args.rounding c.args.below_zero c.args.part c.args.frac c.args.places j scaled c.put_part-more.result = record {
      places = omega arith;
      one = omega arith;
      product = ap (λ n. c.args.part * n) (c.from-2.ensures ∙ c.ten_to-2.ensures);
      carried = carried c.args.rounding c.args.below_zero c.args.frac (c.args.places - 18) c.low_bits-part.result (c.args.part * c.from-2.result) c.put_part-more.result c.low_bits-part.ensures c.put_part-more.ensures.carry;
    } in
    let room = c.requires.places in
    let at : end - c.args.places ≡ end - j - 18 = omega arith in
    ap (λ k. drop k c.put_digits-2.new.buffer) at
    ∙ c.put_digits-2.ensures.digits
    ∙ ap (λ (ds : List ℕ). places_text n 18 ++ ds) (c.put_part-more.ensures.digits ∙ ap (λ x. places_text (stepped c.args.rounding c.args.below_zero (x * 10 ^ j) (2 ^ c.args.frac)) j ++ drop end old) c.low_bits-part.ensures)
    ∙ sym (append_assoc (places_text n 18) (places_text rest j) (drop end old))
    ∙ ap (λ (ds : List ℕ). ds ++ drop end old) (digits_cut c.args.rounding c.args.below_zero c.args.part c.args.frac c.args.places j scaled c.put_part-more.result i)
