use Rattle.std.proofs.Common.{◌≡◌, ◌==◌, ◌+◌, ◌*◌, ◌-◌, ◌/◌, ◌%◌, ◌^◌, ◌<◌, ◌≤◌, ◌++◌, ◌∷◌, [], ℕ, zero, suc, Bool, not, List, length, drop, set, length-set, length-drop, refl, sym, ap, ◌∙◌, append-nil, arith}
use Rattle.std.proofs.Math.Nat.{one-le-pow}
use Rattle.std.proofs.lemmas.List.{drop_all, drop-set}
use Rattle.fixed_word.specs.Decimal.{natural_text}
use Rattle.fixed_word.specs.declared.rounding.Rounding.{Rounding}
use Rattle.fixed_kernel.proofs.Stepped.{stepped_small}
use Rattle.fixed_decimal.specs.Text.{magnitude_text, places_text}
use Rattle.fixed_decimal.specs.inside.Stepped.{stepped}
use Rattle.fixed_decimal.proofs.PlacesPut.{begins, text_parts, whole_small}
use Rattle.fixed_decimal.proofs.Shown.{length_places}
use Rattle.fixed_decimal.proofs.writing.write_magnitude.Goals as goal

-- ---- no digits behind the point
whole_is : (k : Rounding) (b : Bool) (u m f n : ℕ) → u ≡ m → m < 2 ^ 64 → n ≡ stepped k b u (2 ^ f) → (n < 2 ^ 64) × (n ≡ stepped k b (m * 10 ^ 0) (2 ^ f))
whole_is k b u m f n e small is =
    let s = stepped_small k b u (2 ^ f) (one-le-pow f 2 (omega arith)) in
    let t : u ≡ m * 10 ^ 0 = omega arith in
    (omega arith, is ∙ ap (λ x. stepped k b x (2 ^ f)) t)

at_zero : (text : List ℕ) (k : Rounding) (b : Bool) (m f n p : ℕ) → p ≡ 0 → text ≡ natural_text n → n ≡ stepped k b (m * 10 ^ 0) (2 ^ f) → text ≡ magnitude_text (stepped k b (m * 10 ^ p) (2 ^ f)) p
at_zero text k b m f n zero z e is = e ∙ ap natural_text is
at_zero text k b m f n (suc p) z e is = absurd (omega arith)

pub overflow_cast-number : goal.overflow_cast-number
overflow_cast-number c =
    let two = one-le-pow c.args.frac 2 (omega arith) in
    let is = c.rounded_halves-number.ensures c.from-units.result (2 ^ c.args.frac) two refl (ap (λ n. not (n == 0)) c.low_bits-rest.ensures) in
    let w = whole_is c.args.rounding c.args.below_zero c.from-units.result c.args.magnitude c.args.frac c.rounded_halves-number.result c.from-units.ensures (omega (arith, c.ranges.magnitude)) is in
    omega (arith, w.0)

pub returns-then-places-eq0-clause-within : goal.returns-then-places-eq0-clause-within
returns-then-places-eq0-clause-within c =
    let two = one-le-pow c.args.frac 2 (omega arith) in
    let is = c.rounded_halves-number.ensures c.from-units.result (2 ^ c.args.frac) two refl (ap (λ n. not (n == 0)) c.low_bits-rest.ensures) in
    let w = whole_is c.args.rounding c.args.below_zero c.from-units.result c.args.magnitude c.args.frac c.rounded_halves-number.result c.from-units.ensures (omega (arith, c.ranges.magnitude)) is in
    (begins c.decimal_before.new.buffer (drop 86 c.args.buffer.now) c.rounded_halves-number.result c.decimal_before.result (omega (arith, c.decimal_before.auto.buffer, c.told-buffer)) c.decimal_before.ensures.within w.0 c.decimal_before.ensures.digits (omega (arith, length-drop 86 c.args.buffer.now, c.told-buffer)), c.decimal_before.ensures.within)

pub returns-then-places-eq0-clause-text : goal.returns-then-places-eq0-clause-text
returns-then-places-eq0-clause-text c =
    let two = one-le-pow c.args.frac 2 (omega arith) in
    let is = c.rounded_halves-number.ensures c.from-units.result (2 ^ c.args.frac) two refl (ap (λ n. not (n == 0)) c.low_bits-rest.ensures) in
    let w = whole_is c.args.rounding c.args.below_zero c.from-units.result c.args.magnitude c.args.frac c.rounded_halves-number.result c.from-units.ensures (omega (arith, c.ranges.magnitude)) is in
    let gone : drop 86 c.args.buffer.now ≡ [] = drop_all 86 c.args.buffer.now (omega (arith, c.told-buffer)) in
    at_zero (drop c.decimal_before.result c.decimal_before.new.buffer) c.args.rounding c.args.below_zero c.args.magnitude c.args.frac c.rounded_halves-number.result c.args.places c.if-places-eq0.true
    (c.decimal_before.ensures.digits ∙ ap (λ (ds : List ℕ). natural_text c.rounded_halves-number.result ++ ds) gone ∙ append-nil (natural_text c.rounded_halves-number.result)) w.1

-- ---- some
some : (p : ℕ) → (p ≡ 0 → ⊥) → 1 ≤ p
some zero ne = absurd (ne refl)
some (suc p) ne = omega arith

front_is : (k : Rounding) (b : Bool) (u m part carry f p : ℕ) → 1 ≤ p → u ≡ m → part ≡ u % 2 ^ f → carry ≡ stepped k b (part * 10 ^ p) (2 ^ f) / 10 ^ p → (u / 2 ^ f + carry ≤ m) × (u / 2 ^ f + carry ≡ m / 2 ^ f + stepped k b (m % 2 ^ f * 10 ^ p) (2 ^ f) / 10 ^ p)
front_is k b u m part carry f p one e low is =
    let s = whole_small k b m f p one in
    let t : part ≡ m % 2 ^ f = low ∙ ap (λ n. n % 2 ^ f) e in
    let c : carry ≡ stepped k b (m % 2 ^ f * 10 ^ p) (2 ^ f) / 10 ^ p = is ∙ ap (λ n. stepped k b (n * 10 ^ p) (2 ^ f) / 10 ^ p) t in
    let w : u / 2 ^ f + carry ≡ m / 2 ^ f + stepped k b (m % 2 ^ f * 10 ^ p) (2 ^ f) / 10 ^ p = ap (λ n. n / 2 ^ f + carry) e ∙ ap (λ n. m / 2 ^ f + n) c in
    (omega (arith, w), w)

pub overflow_add-units : goal.overflow_add-units
overflow_add-units c =
    let w = front_is c.args.rounding c.args.below_zero c.from-units.result c.args.magnitude c.low_bits-part.result c.put_part-carry.result c.args.frac c.args.places (some c.args.places c.if-places-eq0.false) c.from-units.ensures c.low_bits-part.ensures c.put_part-carry.ensures.carry in
    omega (arith, w.0, c.ranges.magnitude)

-- what stands from the point on
behind : (buffer old : List ℕ) (n p : ℕ) → length buffer ≡ 86 → length old ≡ 86 → 1 ≤ p → p ≤ 64 → drop (86 - p) buffer ≡ places_text n p ++ drop 86 old → drop (86 - p - 1) (set buffer (86 - p - 1) 46) ≡ 46 ∷ places_text n p
behind buffer old n p long same one few e =
    let back : 86 - p - 1 + 1 ≡ 86 - p = omega arith in
    drop-set buffer (86 - p - 1) 46 (omega arith) ∙ ap (λ k. 46 ∷ drop k buffer) back ∙ ap (λ (ds : List ℕ). 46 ∷ ds) (e ∙ ap (λ (ds : List ℕ). places_text n p ++ ds) (drop_all 86 old (omega arith)) ∙ append-nil (places_text n p))

ends : (new buffer old : List ℕ) (r n p t : ℕ) → length new ≡ 86 → length buffer ≡ 86 → length old ≡ 86 → 1 ≤ p → p ≤ 64 → n < 2 ^ 64 → r ≤ 86 - p - 1
    → drop r new ≡ natural_text n ++ drop (86 - p - 1) (set buffer (86 - p - 1) 46) → drop (86 - p) buffer ≡ places_text t p ++ drop 86 old
    → (1 ≤ r) × (drop r new ≡ natural_text n ++ 46 ∷ places_text t p)
ends new buffer old r n p t l1 l2 l3 one few small le e f =
    let whole = e ∙ ap (λ (ds : List ℕ). natural_text n ++ ds) (behind buffer old t p l2 l3 one few f) in
    (begins new (46 ∷ places_text t p) n r l1 (omega arith) small whole (omega (arith, length_places t p)), whole)

pub returns-clause-within : goal.returns-clause-within
returns-clause-within c =
    let one = some c.args.places c.if-places-eq0.false in
    let w = front_is c.args.rounding c.args.below_zero c.from-units.result c.args.magnitude c.low_bits-part.result c.put_part-carry.result c.args.frac c.args.places one c.from-units.ensures c.low_bits-part.ensures c.put_part-carry.ensures.carry in
    let buffer = c.put_part-carry.new.buffer in
    let at = 86 - c.args.places - 1 in
    let long : length buffer ≡ 86 = omega (arith, c.put_part-carry.auto.buffer, c.told-buffer) in
    let new : length c.decimal_before-2.new.buffer ≡ 86 = omega (arith, c.decimal_before-2.auto.buffer, length-set buffer at 46, long) in
    let e = ends c.decimal_before-2.new.buffer buffer c.args.buffer.now c.decimal_before-2.result _ c.args.places _ new long (omega (arith, c.told-buffer)) one c.requires.places (omega (arith, w.0, c.ranges.magnitude)) c.decimal_before-2.ensures.within c.decimal_before-2.ensures.digits c.put_part-carry.ensures.digits in
    (e.0, omega (arith, c.decimal_before-2.ensures.within))

pub returns-clause-text : goal.returns-clause-text
returns-clause-text c =
    let one = some c.args.places c.if-places-eq0.false in
    let k = c.args.rounding in
    let b = c.args.below_zero in
    let f = c.args.frac in
    let p = c.args.places in
    let w = front_is k b c.from-units.result c.args.magnitude c.low_bits-part.result c.put_part-carry.result f p one c.from-units.ensures c.low_bits-part.ensures c.put_part-carry.ensures.carry in
    let buffer = c.put_part-carry.new.buffer in
    let at = 86 - p - 1 in
    let long : length buffer ≡ 86 = omega (arith, c.put_part-carry.auto.buffer, c.told-buffer) in
    let new : length c.decimal_before-2.new.buffer ≡ 86 = omega (arith, c.decimal_before-2.auto.buffer, length-set buffer at 46, long) in
    let e = ends c.decimal_before-2.new.buffer buffer c.args.buffer.now c.decimal_before-2.result _ p _ new long (omega (arith, c.told-buffer)) one c.requires.places (omega (arith, w.0, c.ranges.magnitude)) c.decimal_before-2.ensures.within c.decimal_before-2.ensures.digits c.put_part-carry.ensures.digits in
    let low : c.low_bits-part.result ≡ c.args.magnitude % 2 ^ f = c.low_bits-part.ensures ∙ ap (λ n. n % 2 ^ f) c.from-units.ensures in
    e.1 ∙ ap (λ n. natural_text n ++ 46 ∷ places_text (stepped k b (c.low_bits-part.result * 10 ^ p) (2 ^ f)) p) w.1
    ∙ ap (λ x. natural_text (c.args.magnitude / 2 ^ f + stepped k b (c.args.magnitude % 2 ^ f * 10 ^ p) (2 ^ f) / 10 ^ p) ++ 46 ∷ places_text (stepped k b (x * 10 ^ p) (2 ^ f)) p) low
    ∙ sym (text_parts k b c.args.magnitude f p one)
