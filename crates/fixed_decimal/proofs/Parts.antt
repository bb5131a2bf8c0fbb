-- The digits behind the point, from the last on.
use Rattle.std.proofs.Common.{◌≡◌, ◌+◌, ◌-◌, ◌*◌, ◌/◌, ◌%◌, ◌^◌, ◌<◌, ◌≤◌, ℕ, zero, suc, Bool, not, ◌==◌, ◌||◌, sym, ap, ◌∙◌, mul_assoc, mul_comm, mul_left_comm, mul_right_comm, add-mul, pow-add, pow-suc, arith}
use Rattle.std.proofs.Math.Nat.{one-le-pow, mul-lt-mul_of_pos_right, pow-le-pow_right}
use Rattle.std.proofs.lemmas.Bool.Decides.{nat_tests}
use Rattle.std.proofs.lemmas.Nat.{div-add-mod', div-mul-add, mod-mul-add, div_below, mod_below, mul-add-lt, mul-le, shl_whole}

-- x before y, at a place where y's unit is k: over b k
pub joined_quotient : (x y b k : ℕ) → 0 < b → 0 < k → ((x * k + y) / (b * k) ≡ (x + y / k) / b) × ((x * k + y) % (b * k) ≡ (x + y / k) % b * k + y % k)
joined_quotient x y b k hb hk =
    let t = x + y / k in
    let s = div-add-mod' y k in
    let u = div-add-mod' t b in
    let v = mod_below t b hb in
    let w = mod_below y k hk in
    let small : t % b * k + y % k < k * b = mul-add-lt (t % b) k (y % k) b v w in
    let p = add-mul x (y / k) k in
    let q = add-mul (t / b * b) (t % b) k in
    let r = mul_assoc (t / b) b k in
    let swapped = mul_comm k b in
    let low : t % b * k + y % k < b * k = omega arith in
    let back : t * k ≡ (t / b * b + t % b) * k = ap (λ n. n * k) (sym u) in
    let e : x * k + y ≡ t / b * (b * k) + (t % b * k + y % k) = omega arith in
    (ap (λ n. n / (b * k)) e ∙ div-mul-add (t / b) (b * k) (t % b * k + y % k) low, ap (λ n. n % (b * k)) e ∙ mod-mul-add (t / b) (b * k) (t % b * k + y % k) low)

-- a rest is left where one of the two leaves one
pub joined_rest : (r s k : ℕ) → 0 < k → (not (s == 0) || not (r == 0)) ≡ not (r * k + s == 0)
joined_rest zero s k h = grind (arith, nat_tests)
joined_rest (suc r) s k h = grind (arith, nat_tests)

-- ---- a step of the loop: c before p, of which halves are counted in units of 1 / m
halves_of_sum : (c p k m : ℕ) → 2 * ((c * k + p) * m) ≡ c * (2 * m) * k + 2 * (p * m)
halves_of_sum c p k m =
    let a = add-mul (c * k) p m in
    let b : c * (2 * m) * k ≡ 2 * (c * k * m) = ap (λ n. n * k) (mul_left_comm c 2 m) ∙ mul_assoc 2 (c * m) k ∙ ap (λ n. 2 * n) (mul_right_comm c m k) in
    omega arith

pub part_step : (c p j k m h : ℕ) (r : Bool) → h ≡ 2 * (p * m) / 10 ^ k → r ≡ not (2 * (p * m) % 10 ^ k == 0)
    → ((c * (2 * m) + h) / 10 ^ j ≡ 2 * ((c * 10 ^ k + p) * m) / 10 ^ (j + k)) × ((r || not ((c * (2 * m) + h) % 10 ^ j == 0)) ≡ not (2 * ((c * 10 ^ k + p) * m) % 10 ^ (j + k) == 0))
part_step c p j k m h r e f =
    let pj = one-le-pow j 10 (omega arith) in
    let pk = one-le-pow k 10 (omega arith) in
    let q = joined_quotient (c * (2 * m)) (2 * (p * m)) (10 ^ j) (10 ^ k) pj pk in
    let sum = halves_of_sum c p (10 ^ k) m in
    let tens = pow-add 10 j k in (
      ap (λ n. (c * (2 * m) + n) / 10 ^ j) e ∙ sym q.0 ∙ ap (λ n. n / (10 ^ j * 10 ^ k)) (sym sum) ∙ ap (λ n. 2 * ((c * 10 ^ k + p) * m) / n) (sym tens),
      ap (λ b. b || not ((c * (2 * m) + h) % 10 ^ j == 0)) f
          ∙ ap (λ n. not (2 * (p * m) % 10 ^ k == 0) || not ((c * (2 * m) + n) % 10 ^ j == 0)) e
          ∙ joined_rest ((c * (2 * m) + 2 * (p * m) / 10 ^ k) % 10 ^ j) (2 * (p * m) % 10 ^ k) (10 ^ k) pk
          ∙ ap (λ n. not (n == 0)) (sym q.1 ∙ ap (λ n. n % (10 ^ j * 10 ^ k)) (sym sum) ∙ ap (λ n. 2 * ((c * 10 ^ k + p) * m) % n) (sym tens)),
    )

-- the shift keeps every bit
pub moved_up : (v f : ℕ) → v < 2 ^ 60 → f ≤ 64 → (v * 2 ^ (f + 1)) % 2 ^ 128 ≡ v * (2 * 2 ^ f)
moved_up v f small le = shl_whole v 60 (f + 1) 128 small (omega arith) ∙ ap (λ n. v * n) two
  where
    two : 2 ^ (f + 1) ≡ 2 * 2 ^ f
    two = ap (λ k. 2 ^ k) (omega arith) ∙ pow-suc 2 f ∙ mul_comm (2 ^ f) 2

pub moved_short : (v f : ℕ) → v < 2 ^ (63 - f) → f < 63 → (v * 2 ^ (f + 1)) % 2 ^ 64 ≡ 2 * (v * 2 ^ f)
moved_short v f small le = shl_whole v (63 - f) (f + 1) 64 small (omega arith) ∙ ap (λ n. v * n) two ∙ mul_left_comm v 2 (2 ^ f)
  where
    two : 2 ^ (f + 1) ≡ 2 * 2 ^ f
    two = ap (λ k. 2 ^ k) (omega arith) ∙ pow-suc 2 f ∙ mul_comm (2 ^ f) 2

pub moved_room : (v f : ℕ) → v < 2 ^ 60 → f ≤ 64 → v * (2 * 2 ^ f) ≤ 2 ^ 125
moved_room v f small le =
    let p = pow-le-pow_right {n = 2} (omega arith) {i = f} {j = 64} le in
    let m = mul-le v (2 * 2 ^ f) (2 ^ 60) (2 * 2 ^ 64) (omega arith) (omega arith) in
    omega arith

pub halves_small : (p k f : ℕ) → p < 10 ^ k → f ≤ 64 → 2 * (p * 2 ^ f) / 10 ^ k ≤ 2 ^ 65
halves_small p k f lt le =
    let t = one-le-pow k 10 (omega arith) in
    let u = one-le-pow f 2 (omega arith) in
    let w = pow-le-pow_right {n = 2} (omega arith) {i = f} {j = 64} le in
    let a : p * 2 ^ f < 10 ^ k * 2 ^ f = mul-lt-mul_of_pos_right lt u in
    let b : 2 * 2 ^ f * 10 ^ k ≡ 2 * (10 ^ k * 2 ^ f) = mul_assoc 2 (2 ^ f) (10 ^ k) ∙ ap (λ n. 2 * n) (mul_comm (2 ^ f) (10 ^ k)) in
    let c = div_below (2 * (p * 2 ^ f)) (10 ^ k) (2 * 2 ^ f) t (omega arith) in
    omega arith
