-- How many binary digits a number has.
use Rattle.std.proofs.Common.{◌≡◌, ◌+◌, ◌-◌, ◌*◌, ◌%◌, ◌^◌, ◌<◌, ◌≤◌, ◌<ℤ◌, ◌≤ℤ◌, ℕ, ℤ, zero, suc, Bool, true, false, pos, nat_abs, refl, ap, sym, ◌∙◌, arith, inl, inr}
use Rattle.std.specs.Prelude.{◌↔◌, IsTrue}
use Rattle.std.proofs.lemmas.Int.{ints}
use Rattle.std.proofs.lemmas.Bool.{cases_lt}
use Rattle.std.proofs.lemmas.Nat.{pow_pos, leading_length, one_shl}
use Rattle.std.proofs.Math.Nat.{pow-le-pow_right, pow-suc}
use lib.Count.{count_leading_zeros}
use Rattle.fixed_bits.proofs.Words.{sign_is}
use Rattle.std.proofs.lemmas.Bool.Decides.{Decides-eqb}
use Rattle.std.specs.Prelude.{◌==◌}
use Rattle.fixed_word.specs.Format.{IsWidth, InRange, with_sign, wrap}
use Rattle.fixed_word.proofs.Wraps.{width_pos, wrap_same}
use Rattle.fixed_num.proofs.Ranges.{from_zero}
use Rattle.fixed_decimal.specs.Text.{IsLeast}
use Rattle.fixed_num.specs.Sizes.{HasSignedSize, HasSize, IsHighestOne, IsPower}
use Rattle.fixed_num.specs.inside.Powers.{IsHighestPower}

pub length_below : (m : ℕ) → m < 2 ^ 64 → m < 2 ^ (64 - count_leading_zeros 64 m)
length_below m h =
    let l = leading_length 64 m h in
    let s : count_leading_zeros 64 m + l.0 ≡ 64 = l.1 in
    let e : 64 - count_leading_zeros 64 m ≡ l.0 = omega arith in
    rw e l.2

pub length_least : (m : ℕ) → m < 2 ^ 64 → 2 ^ (64 - count_leading_zeros 64 m) ≤ 2 * m + 1
length_least m h =
    let l = leading_length 64 m h in
    let s : count_leading_zeros 64 m + l.0 ≡ 64 = l.1 in
    let e : 64 - count_leading_zeros 64 m ≡ l.0 = omega arith in
    rw e l.3

-- no shorter length holds the number
no_shorter : (m k l : ℕ) → 2 ^ l ≤ 2 * m + 1 → m < 2 ^ k → l ≤ k
no_shorter m k l h b = elim (cases_lt k l) [
  | inl below ↦
      let p : 2 ^ suc k ≤ 2 ^ l = pow-le-pow_right {n = 2} (omega arith) below in
      let q = pow-suc 2 k in
      absurd (omega arith)
  | inr above ↦ above
]

pub size_least : (l m : ℕ) (v : ℤ) → m ≡ nat_abs v → (pos 0 ≤ℤ v) → m < 2 ^ l → 2 ^ l ≤ 2 * m + 1 → IsLeast (HasSize v) l
size_least l m v e s b t = record {
  holds = omega (arith, ints);
  least = λ k h. no_shorter m k l t (omega (arith, ints));
}

pub signed_below : (l m : ℕ) (b : Bool) (v : ℤ) → (IsTrue b ↔ (v <ℤ pos 0)) → b ≡ true → m ≡ nat_abs v → m - 1 < 2 ^ l → 2 ^ l ≤ 2 * (m - 1) + 1 → IsLeast (HasSignedSize v) (l + 1)
signed_below l m b v g t e h f =
    let n : v <ℤ pos 0 = g.0 t in
    let s : l + 1 - 1 ≡ l = omega arith in
    record {
      holds = (omega arith, rw s (omega (arith, ints)), rw s (omega (arith, ints)));
      least = λ k d. let low = d.1 in let one = d.0 in let q : l ≤ k - 1 = no_shorter (m - 1) (k - 1) l f (omega (arith, ints)) in omega arith;
    }

pub signed_above : (l m : ℕ) (b : Bool) (v : ℤ) → (IsTrue b ↔ (v <ℤ pos 0)) → b ≡ false → m ≡ nat_abs v → m < 2 ^ l → 2 ^ l ≤ 2 * m + 1 → IsLeast (HasSignedSize v) (l + 1)
signed_above l m b v g t e h f =
    let n : v ≡ pos m = sign_is b m v g e ∙ ap (λ (x : Bool). with_sign x m) t in
    let s : l + 1 - 1 ≡ l = omega arith in
    record {
      holds = (omega arith, rw s (omega (arith, ints)), rw s (omega (arith, ints)));
      least = λ k d. let high = d.2 in let one = d.0 in let q : l ≤ k - 1 = no_shorter m (k - 1) l f (omega (arith, ints)) in omega arith;
    }

-- ---- the highest power

pub power_is : (m l : ℕ) → 0 < m → m < 2 ^ l → 2 ^ l ≤ 2 * m + 1 → IsHighestPower m (2 ^ (l - 1))
power_is m zero h b t = absurd (omega arith)
power_is m (suc l) h b t =
    let e : suc l - 1 ≡ l = omega arith in
    let p = pow-suc 2 l in
    let s : l + 1 ≡ suc l = omega arith in
    rw e (l, refl, omega arith, rw s b)

pub power_shown : (m l : ℕ) → 0 < m → l ≤ 64 → m < 2 ^ l → 2 ^ l ≤ 2 * m + 1 → IsHighestPower m ((1 * 2 ^ (l - 1)) % 2 ^ 64)
power_shown m zero h w b t = absurd (omega arith)
power_shown m (suc l) h w b t = rw (one_shl (suc l - 1) 64 (omega arith)) (power_is m (suc l) h b t)

pub highest_is : (s : Bool) (n m h : ℕ) (v r : ℤ) → IsWidth n → s ≡ false → InRange s n v → m ≡ nat_abs v → IsHighestPower m h → r ≡ wrap s n (pos h) → IsHighestOne v r
highest_is s n m h v r w d i e p f =
    let z = from_zero s n v d i in
    let u = i.1 in
    let l = i.0 in
    let le : h ≤ m = p.2 in
    let small : m < 2 ^ (p.0 + 1) = p.3 in
    let fits : InRange s n (pos h) = (rw d (omega (arith, ints)), omega (arith, ints)) in
    let g : r ≡ pos h = f ∙ wrap_same s n (pos h) (width_pos n w) fits in
    inr (p.0, g ∙ ap (λ (x : ℕ). pos x) p.1, omega (arith, ints), omega (arith, ints))

-- a power of 2 is its own highest
same_power : (i j : ℕ) → 2 ^ j ≤ 2 ^ i → 2 ^ i < 2 ^ (j + 1) → i ≡ j
same_power i j a b = elim (cases_lt i j) [
  | inl below ↦
      let p : 2 ^ suc i ≤ 2 ^ j = pow-le-pow_right {n = 2} (omega arith) below in
      let q = pow-suc 2 i in
      let z = pow_pos i in
      absurd (omega arith)
  | inr above ↦ elim (cases_lt j i) [
    | inl more ↦ let s : j + 1 ≤ i = omega arith in let p : 2 ^ (j + 1) ≤ 2 ^ i = pow-le-pow_right {n = 2} (omega arith) s in absurd (omega arith)
    | inr same ↦ omega arith
  ]
]

pub power_tells : (m h : ℕ) (v : ℤ) → v ≡ pos m → IsHighestPower m h → IsTrue (m == h) ↔ IsPower v
power_tells m h v e p =
    let t = Decides-eqb m h in
    ((λ x. (p.0, e ∙ ap (λ (y : ℕ). pos y) (t.0 x ∙ p.1))), (λ x. t.1 (same m h x.0 p.0 (omega (arith, ints, x.1)) p.1 p.2 p.3)))
  where
    same : (m h i j : ℕ) → m ≡ 2 ^ i → h ≡ 2 ^ j → h ≤ m → m < 2 ^ (j + 1) → m ≡ h
    same m h i j a b c d = let s : i ≡ j = same_power i j (omega arith) (omega arith) in a ∙ ap (λ (x : ℕ). 2 ^ x) s ∙ sym b
