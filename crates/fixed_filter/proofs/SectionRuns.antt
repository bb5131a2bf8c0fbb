-- How far a run of a second-order section lies from the exact one.
use Rattle.std.proofs.Common.{◌≡◌, ◌+◌, ◌-◌, ◌*◌, ◌^◌, ◌<◌, ◌≤◌, ◌+ℤ◌, ◌-ℤ◌, ◌*ℤ◌, ℕ, suc, ℤ, pos, nat_abs, Bool, List, [], ◌∷◌, length, Option, Some, None, refl, sym, ap, subst, ◌∙◌, arith}
use Rattle.std.specs.Option.{option_and_then}
use Rattle.std.proofs.lemmas.Int.{ints, unsigned_abs-mul}
use Rattle.std.proofs.lemmas.Nat.{pow-add, mul-le}
use Rattle.std.proofs.Math.Nat.{mul_comm}
use borrow.Author.Differences.{up, down, same_in, product_is, sum_is_lem}
use Rattle.fixed_word.proofs.Wraps.{plus_times, times_times}
use Rattle.fixed_policy.specs.DotProduct.{products}
use Rattle.fixed_policy.proofs.Losses.{loss_bounds}
use Rattle.fixed_filter.specs.declared.reply.Reply.{Reply}
use Rattle.fixed_filter.specs.declared.reply.Reply.TheVariants.{Value, Overflow}
use Rattle.fixed_filter.specs.Replies.{filter_reply}
use Rattle.fixed_filter.specs.Sections.{Coefficients, SectionPast, factors, past_after_reply, computed_past, exact_past, run_error, feedback}
use Rattle.fixed_filter.proofs.Alone.{reply_value}

-- ---- products
times_sum : (c a b : ℤ) → c *ℤ (a +ℤ b) ≡ c *ℤ a +ℤ c *ℤ b
times_sum c a b = omega (arith, ints, ap (λ (n : ℕ). up c * n) (sum_is_lem a b), ap (λ (n : ℕ). down c * n) (sum_is_lem a b))

times_up : (a b : ℤ) → up (a *ℤ b) ≡ up a * up b + down a * down b
times_up a b = (product_is a b).0

times_down : (a b : ℤ) → down (a *ℤ b) ≡ up a * down b + down a * up b
times_down a b = (product_is a b).1

times_assoc : (a b : ℤ) (m : ℕ) → (a *ℤ b) *ℤ pos m ≡ a *ℤ (b *ℤ pos m)
times_assoc a b m = same_in ((a *ℤ b) *ℤ pos m) (a *ℤ (b *ℤ pos m)) (simp (times_up, times_down) (omega arith))

-- ---- one step, in whole numbers: e1 and e2 bound the errors of the outputs before, and d what the step loses
step_small : (a1 a2 r e1 e2 d m w e : ℕ) → e1 * r ≤ m * w → e2 * r ≤ m * w → d ≤ m → e ≤ a1 * e1 + a2 * e2 + d * w → e * r ≤ m * ((a1 + a2 + r) * w)
step_small a1 a2 r e1 e2 d m w e f g h k =
    let first = mul-le a1 (e1 * r) a1 (m * w) (omega arith) f in
    let second = mul-le a2 (e2 * r) a2 (m * w) (omega arith) g in
    let lost = mul-le d (w * r) m (w * r) h (omega arith) in
    let all = mul-le e r (a1 * e1 + a2 * e2 + d * w) r k (omega arith) in
    omega arith

-- an error of a sum of products
sum_error : (a1 a2 e1 e2 e : ℤ) (d w : ℕ) → e ≡ a1 *ℤ e1 +ℤ a2 *ℤ e2 +ℤ pos (d * w) → nat_abs e ≤ nat_abs a1 * nat_abs e1 + nat_abs a2 * nat_abs e2 + d * w
sum_error a1 a2 e1 e2 e d w s =
    let first : nat_abs (a1 *ℤ e1) ≡ nat_abs a1 * nat_abs e1 = unsigned_abs-mul a1 e1 in
    let second : nat_abs (a2 *ℤ e2) ≡ nat_abs a2 * nat_abs e2 = unsigned_abs-mul a2 e2 in
    omega (arith, ints)

-- ---- one step: e1 and e2 are the errors of the two outputs before, d what the output v loses, w and s the scales
step_is : (a1 a2 y1 y2 e1 e2 fed v : ℤ) (d w s : ℕ) → fed +ℤ (a1 *ℤ y1 +ℤ a2 *ℤ y2) ≡ v *ℤ pos s +ℤ pos d
    → (fed *ℤ pos w +ℤ a1 *ℤ (y1 *ℤ pos w +ℤ e1) +ℤ a2 *ℤ (y2 *ℤ pos w +ℤ e2)) -ℤ v *ℤ pos (s * w) ≡ a1 *ℤ e1 +ℤ a2 *ℤ e2 +ℤ pos (d * w)
step_is a1 a2 y1 y2 e1 e2 fed v d w s t =
    let first = times_sum a1 (y1 *ℤ pos w) e1 in
    let first_scaled = times_assoc a1 y1 w in
    let second = times_sum a2 (y2 *ℤ pos w) e2 in
    let second_scaled = times_assoc a2 y2 w in
    let scaled = ap (λ (z : ℤ). z *ℤ pos w) t in
    let sum = plus_times fed (a1 *ℤ y1 +ℤ a2 *ℤ y2) w in
    let tail = plus_times (a1 *ℤ y1) (a2 *ℤ y2) w in
    let floor = plus_times (v *ℤ pos s) (pos d) w in
    let output = times_times v s w in
    omega (arith, ints)

-- the output before is one step older
older_is : (y e : ℤ) (w s : ℕ) → (y *ℤ pos w +ℤ e) *ℤ pos s -ℤ y *ℤ pos (s * w) ≡ e *ℤ pos s
older_is y e w s =
    let sum = plus_times (y *ℤ pos w) e s in
    let output = times_times y w s in
    let turned = ap (λ (n : ℕ). y *ℤ pos n) (mul_comm w s) in
    omega (arith, ints)

older_small : (e : ℤ) (r m w s : ℕ) → nat_abs e * r ≤ m * w → nat_abs (e *ℤ pos s) * r ≤ m * (s * w)
older_small e r m w s h =
    let size : nat_abs (e *ℤ pos s) ≡ nat_abs e * s = unsigned_abs-mul e (pos s) in
    let more = mul-le (nat_abs e * r) s (m * w) s h (omega arith) in
    rw size (omega arith)

-- both outputs before are near those of the exact run: m bounds a step's loss, r is S - A, and w is S ^ k
record IsNear (m r w : ℕ) (exact last : SectionPast) : Type 0 where
  x1_is : exact.x1 ≡ last.x1
  x2_is : exact.x2 ≡ last.x2
  first : nat_abs (exact.y1 -ℤ last.y1 *ℤ pos w) * r ≤ m * w
  second : nat_abs (exact.y2 -ℤ last.y2 *ℤ pos w) * r ≤ m * w

starts_near : (m r w : ℕ) (start : SectionPast) → w ≡ 1 → IsNear m r w start start
starts_near m r w start one =
    let first : nat_abs (start.y1 -ℤ start.y1 *ℤ pos 1) ≡ 0 = omega (arith, ints) in
    let second : nat_abs (start.y2 -ℤ start.y2 *ℤ pos 1) ≡ 0 = omega (arith, ints) in
    record { x1_is = refl; x2_is = refl; first = rw (one, first) (omega arith); second = rw (one, second) (omega arith) }

-- the error of the new output
error_is : (a1 a2 y1 y2 p q fed v : ℤ) (d w s : ℕ) → fed +ℤ (a1 *ℤ y1 +ℤ a2 *ℤ y2) ≡ v *ℤ pos s +ℤ pos d
    → (fed *ℤ pos w +ℤ a1 *ℤ p +ℤ a2 *ℤ q) -ℤ v *ℤ pos (s * w) ≡ a1 *ℤ (p -ℤ y1 *ℤ pos w) +ℤ a2 *ℤ (q -ℤ y2 *ℤ pos w) +ℤ pos (d * w)
error_is a1 a2 y1 y2 p q fed v d w s loss =
    let e1 = p -ℤ y1 *ℤ pos w in
    let e2 = q -ℤ y2 *ℤ pos w in
    let p_is : p ≡ y1 *ℤ pos w +ℤ e1 = omega (arith, ints) in
    let q_is : q ≡ y2 *ℤ pos w +ℤ e2 = omega (arith, ints) in
    ap (λ (z : ℤ). (fed *ℤ pos w +ℤ a1 *ℤ z +ℤ a2 *ℤ q) -ℤ v *ℤ pos (s * w)) p_is
    ∙ ap (λ (z : ℤ). (fed *ℤ pos w +ℤ a1 *ℤ (y1 *ℤ pos w +ℤ e1) +ℤ a2 *ℤ z) -ℤ v *ℤ pos (s * w)) q_is
    ∙ step_is a1 a2 y1 y2 e1 e2 fed v d w s loss

-- the new output is near, where the two before are
next_near : (a1 a2 y1 y2 p q fed v : ℤ) (d m r w s : ℕ) → s ≡ nat_abs a1 + nat_abs a2 + r → nat_abs (p -ℤ y1 *ℤ pos w) * r ≤ m * w → nat_abs (q -ℤ y2 *ℤ pos w) * r ≤ m * w
    → fed +ℤ (a1 *ℤ y1 +ℤ a2 *ℤ y2) ≡ v *ℤ pos s +ℤ pos d → d ≤ m → nat_abs ((fed *ℤ pos w +ℤ a1 *ℤ p +ℤ a2 *ℤ q) -ℤ v *ℤ pos (s * w)) * r ≤ m * (s * w)
next_near a1 a2 y1 y2 p q fed v d m r w s parts near1 near2 loss few =
    let e1 = p -ℤ y1 *ℤ pos w in
    let e2 = q -ℤ y2 *ℤ pos w in
    let e = (fed *ℤ pos w +ℤ a1 *ℤ p +ℤ a2 *ℤ q) -ℤ v *ℤ pos (s * w) in
    let size = sum_error a1 a2 e1 e2 e d w (error_is a1 a2 y1 y2 p q fed v d w s loss) in
    let bound = step_small (nat_abs a1) (nat_abs a2) r (nat_abs e1) (nat_abs e2) d m w (nat_abs e) near1 near2 few size in
    subst (λ (k : ℕ). nat_abs e * r ≤ m * (k * w)) (sym parts) bound

-- what an output loses
lost : (signed : Bool) (n g : ℕ) (v : ℤ) (ps : List (ℤ × ℤ)) → filter_reply signed n (pos g) ps ≡ Value v → (d : ℕ) × (products ps ≡ v *ℤ pos (2 ^ g) +ℤ pos d) × (d ≤ length ps * (2 ^ g - 1))
lost signed n g v ps e =
    let bounds = loss_bounds g (pos 0) ps in
    let low = bounds.0 in
    let high = bounds.1 in
    let value = reply_value signed n (pos g) v ps e in
    (nat_abs (products ps -ℤ v *ℤ pos (2 ^ g)), rw value (omega (arith, ints)), rw value (omega (arith, ints)))

-- the older output, where it was near
older_near : (y p : ℤ) (r m w s : ℕ) → nat_abs (p -ℤ y *ℤ pos w) * r ≤ m * w → nat_abs (p *ℤ pos s -ℤ y *ℤ pos (s * w)) * r ≤ m * (s * w)
older_near y p r m w s near =
    let e = p -ℤ y *ℤ pos w in
    let p_is : p ≡ y *ℤ pos w +ℤ e = omega (arith, ints) in
    let error : p *ℤ pos s -ℤ y *ℤ pos (s * w) ≡ e *ℤ pos s = ap (λ (z : ℤ). z *ℤ pos s -ℤ y *ℤ pos (s * w)) p_is ∙ older_is y e w s in
    subst (λ (z : ℤ). nat_abs z * r ≤ m * (s * w)) (sym error) (older_small e r m w s near)

-- ---- the run
module _ (signed : Bool) (n g : ℕ) (c : Coefficients) (small : feedback c < 2 ^ g) where
  abbrev most : ℕ
  most = 5 * (2 ^ g - 1)

  abbrev rest : ℕ
  rest = 2 ^ g - feedback c

  -- what the samples add
  abbrev fed_by : ℤ → SectionPast → ℤ
  fed_by x past = c.b0 *ℤ x +ℤ c.b1 *ℤ past.x1 +ℤ c.b2 *ℤ past.x2

  fed_alike : (x : ℤ) (exact past : SectionPast) → exact.x1 ≡ past.x1 → exact.x2 ≡ past.x2 → fed_by x exact ≡ fed_by x past
  fed_alike x exact past e f = ap (λ (z : ℤ). c.b0 *ℤ x +ℤ c.b1 *ℤ z +ℤ c.b2 *ℤ exact.x2) e ∙ ap (λ (z : ℤ). c.b0 *ℤ x +ℤ c.b1 *ℤ past.x1 +ℤ c.b2 *ℤ z) f

  -- the exact past, one sample on
  abbrev exact_next : ℕ → SectionPast → ℤ → SectionPast
  exact_next w exact x =
      record {
        x1 = x;
        x2 = exact.x1;
        y1 = fed_by x exact *ℤ pos w +ℤ c.a1 *ℤ exact.y1 +ℤ c.a2 *ℤ exact.y2;
        y2 = exact.y1 *ℤ pos (2 ^ g);
      }

  value_near : (w : ℕ) (exact past : SectionPast) (x v : ℤ) → IsNear most rest w exact past → filter_reply signed n (pos g) (factors c past x) ≡ Value v
      → IsNear most rest (2 ^ g * w) (exact_next w exact x) (record { x1 = x; x2 = past.x1; y1 = v; y2 = past.y1 })
  value_near w exact past x v near reply =
      let loss = lost signed n g v (factors c past x) reply in
      let d = loss.0 in
      let sum : products (factors c past x) ≡ v *ℤ pos (2 ^ g) +ℤ pos d = loss.1 in
      let few : d ≤ 5 * (2 ^ g - 1) = loss.2 in
      let fed = fed_by x exact in
      let same = fed_alike x exact past near.x1_is near.x2_is in
      let all : fed +ℤ (c.a1 *ℤ past.y1 +ℤ c.a2 *ℤ past.y2) ≡ v *ℤ pos (2 ^ g) +ℤ pos d = omega (arith, ints) in
      let parts : 2 ^ g ≡ nat_abs c.a1 + nat_abs c.a2 + rest = omega arith in
      record {
        x1_is = refl;
        x2_is = near.x1_is;
        first = next_near c.a1 c.a2 past.y1 past.y2 exact.y1 exact.y2 fed v d most rest w (2 ^ g) parts near.first near.second all few;
        second = older_near past.y1 exact.y1 rest most w (2 ^ g) near.first;
      }

  by_reply : (w : ℕ) (exact past last : SectionPast) (x : ℤ) → IsNear most rest w exact past → (r : Reply ℤ) → filter_reply signed n (pos g) (factors c past x) ≡ r → past_after_reply past x r ≡ Some last
      → IsNear most rest (2 ^ g * w) (exact_next w exact x) last
  by_reply w exact past last x near (Value v) e moved =
      let same : record { x1 = x; x2 = past.x1; y1 = v; y2 = past.y1 } ≡ last = cc in
      subst (λ (p : SectionPast). IsNear most rest (2 ^ g * w) (exact_next w exact x) p) same (value_near w exact past x v near e)
  by_reply w exact past last x near (Overflow t) e moved = absurd (cc)

  by_past : (w : ℕ) (exact last : SectionPast) (x : ℤ) (o : Option SectionPast) → ((past : SectionPast) → o ≡ Some past → IsNear most rest w exact past)
      → option_and_then (λ past. past_after_reply past x (filter_reply signed n (pos g) (factors c past x))) o ≡ Some last → IsNear most rest (2 ^ g * w) (exact_next w exact x) last
  by_past w exact last x None near e = absurd (cc)
  by_past w exact last x (Some past) near e = by_reply w exact past last x (near past refl) (filter_reply signed n (pos g) (factors c past x)) refl e

  near : (start last : SectionPast) (samples : List ℤ) → computed_past signed n g c start samples ≡ Some last → IsNear most rest (2 ^ (g * length samples)) (exact_past g c start samples) last
  near start last [] e =
      let same : start ≡ last = cc in
      let none : g * 0 ≡ 0 = omega arith in
      let one : 2 ^ (g * 0) ≡ 1 = ap (λ (k : ℕ). 2 ^ k) none in
      subst (λ (p : SectionPast). IsNear most rest (2 ^ (g * 0)) start p) same (starts_near most rest (2 ^ (g * 0)) start one)
  near start last (x ∷ earlier) e =
      let w = 2 ^ (g * length earlier) in
      let later = by_past w (exact_past g c start earlier) last x (computed_past signed n g c start earlier) (λ past. near start past earlier) e in
      let more : g + g * length earlier ≡ g * suc (length earlier) = omega arith in
      let power : 2 ^ g * w ≡ 2 ^ (g * suc (length earlier)) = sym (pow-add 2 g (g * length earlier)) ∙ ap (λ (k : ℕ). 2 ^ k) more in
      subst (λ (k : ℕ). IsNear most rest k (exact_past g c start (x ∷ earlier)) last) power later

  pub error_bound : (start last : SectionPast) (samples : List ℤ) → computed_past signed n g c start samples ≡ Some last → run_error g c start samples last.y1 * (2 ^ g - feedback c) ≤ 5 * (2 ^ g - 1) * 2 ^ (g * length samples)
  error_bound start last samples e = (near start last samples e).first
