-- On which side of a direction a point lies, and the search between directions.
use Rattle.std.proofs.Common.{◌≡◌, ◌≢◌, ◌+◌, ◌-◌, ◌*◌, ◌/◌, ◌^◌, ◌<◌, ◌≤◌, ℕ, true, false, refl, subst, sym, ap, ◌∙◌, arith}
use Rattle.std.proofs.lemmas.Bool.{leb-false, leb-true}
use Rattle.std.proofs.Math.Dec.{leb}
use Rattle.std.proofs.lemmas.Nat.{pow-add}
use Rattle.std.proofs.Math.Nat.{le_of_mul-le-mul_right, mul-le-mul_right, mul-le-mul_left}
use Rattle.fixed_turns.specs.Angles.{IsBeside, IsLeftOf, IsNearest, IsRestOf, IsRightOf, turn_room}
use Rattle.fixed_turns.specs.Series.{Fraction}
use Rattle.fixed_turns.specs.inside.Rests.{IsClose, reach}
use Rattle.fixed_turns.proofs.Reach.{room}

-- ---- sums u and v are s / d and c / g, in units of 1 / w, off by e at most, which is 1 / (2 p)
left : (a b u v s d c g e p w : ℕ) → 0 < e → 2 * e * p ≡ w → b ≤ a → a * u ≤ b * v → s * w ≤ (u + e) * d → v * g ≤ c * w + e * g
    → p * (a * s * g) ≤ p * (b * c * d) + a * (d * g)
left a b u v s d c g e p w o is octant h low high =
    let h1 = mul-le-mul_left (a * g) low in
    let h2 = mul-le-mul_left (d * g) h in
    let h3 = mul-le-mul_left (b * d) high in
    let h4 = mul-le-mul_left (e * d * g) octant in
    let x = ap (λ (j : ℕ). j * (a * s * g)) is in
    let y = ap (λ (j : ℕ). j * (b * c * d)) is in
    let f : p * (a * s * g) * (2 * e) ≤ (p * (b * c * d) + a * (d * g)) * (2 * e) = omega arith in
    le_of_mul-le-mul_right f (omega arith)

right : (a b u v s d c g e p w : ℕ) → 0 < e → 2 * e * p ≡ w → b ≤ a → b * v ≤ a * u → u * d ≤ s * w + e * d → c * w ≤ (v + e) * g
    → p * (b * c * d) ≤ p * (a * s * g) + a * (d * g)
right a b u v s d c g e p w o is octant h low high =
    let h1 = mul-le-mul_left (b * d) high in
    let h2 = mul-le-mul_left (d * g) h in
    let h3 = mul-le-mul_left (a * g) low in
    let h4 = mul-le-mul_left (e * d * g) octant in
    let x = ap (λ (j : ℕ). j * (a * s * g)) is in
    let y = ap (λ (j : ℕ). j * (b * c * d)) is in
    let f : p * (b * c * d) * (2 * e) ≤ (p * (a * s * g) + a * (d * g)) * (2 * e) = omega arith in
    le_of_mul-le-mul_right f (omega arith)

pub left_by : (bits a b u v : ℕ) (s c : Fraction) → b ≤ a → a * u ≤ b * v → IsClose (reach bits) u s → IsClose (reach bits) v c → IsLeftOf (turn_room bits) a b s c
left_by bits a b u v s c octant h x y =
    let r = room bits in
    left a b u v s.num s.den c.num c.den (reach bits) (2 ^ turn_room bits) (2 ^ 64) r.0 r.1.1 octant h x.above y.below

pub right_by : (bits a b u v : ℕ) (s c : Fraction) → b ≤ a → b * v ≤ a * u → IsClose (reach bits) u s → IsClose (reach bits) v c → IsRightOf (turn_room bits) a b s c
right_by bits a b u v s c octant h x y =
    let r = room bits in
    right a b u v s.num s.den c.num c.den (reach bits) (2 ^ turn_room bits) (2 ^ 64) r.0 r.1.1 octant h x.below y.above

-- the test, where x, y and z are a, u and b
pub tested_left : (a b u v x y z : ℕ) → x ≡ a → y ≡ u → z ≡ b → leb (x * y) (z * v) ≡ true → a * u ≤ b * v
tested_left a b u v x y z e f g t =
    let p = ap (λ (j : ℕ). j * y) e in
    let q = ap (λ (j : ℕ). a * j) f in
    let r = ap (λ (j : ℕ). j * v) g in
    let h = leb-true (x * y) (z * v) t in
    omega arith

pub tested_right : (a b u v x y z : ℕ) → x ≡ a → y ≡ u → z ≡ b → leb (x * y) (z * v) ≡ false → b * v ≤ a * u
tested_right a b u v x y z e f g t =
    let p = ap (λ (j : ℕ). j * y) e in
    let q = ap (λ (j : ℕ). a * j) f in
    let r = ap (λ (j : ℕ). j * v) g in
    let h = leb-false (x * y) (z * v) t in
    omega arith

-- ---- units and a half, as a rest
pub halves : (f : ℕ) → 2 ≤ f → f ≤ 64 → 2 ^ (65 - f) * 2 ^ (f - 2 + 1) ≡ 2 ^ 64
halves f l m =
    let e : 65 - f + (f - 2 + 1) ≡ 64 = omega arith in
    sym (pow-add 2 (65 - f) (f - 2 + 1)) ∙ ap (λ (j : ℕ). 2 ^ j) e

eighths : (f : ℕ) → 2 ≤ f → f ≤ 64 → 2 ^ (f - 2) * 2 ^ (65 - f) ≡ 2 ^ 63
eighths f l m =
    let e : f - 2 + (65 - f) ≡ 63 = omega arith in
    sym (pow-add 2 (f - 2) (65 - f)) ∙ ap (λ (j : ℕ). 2 ^ j) e

pub half_small : (f h : ℕ) → 2 ≤ f → f ≤ 64 → h < 2 ^ (f - 2) → h * 2 ^ (65 - f) ≤ 2 ^ 63
half_small f h l m small =
    let a : h * 2 ^ (65 - f) ≤ 2 ^ (f - 2) * 2 ^ (65 - f) = mul-le-mul_right (2 ^ (65 - f)) (omega arith) in
    omega (arith, eighths f l m)

-- ---- the search
pub record IsSearch (k a b g low high : ℕ) : Type 0 where
  pub ends : low ≤ high
  pub small : 2 * high ≤ 2 ^ g
  pub least : (i : ℕ) → low ≡ i + 1 → IsBeside IsLeftOf k a b (2 * i + 1) (g + 1)
  pub most : 2 * high + 1 < 2 ^ g → IsBeside IsRightOf k a b (2 * high + 1) (g + 1)

pub search_all : (k a b g high : ℕ) → high ≡ 2 ^ g / 2 → IsSearch k a b g 0 high
search_all k a b g high is = record {
  ends = omega arith;
  small = omega arith;
  least = λ i e. absurd (omega arith);
  most = λ l. absurd (omega arith);
}

pub search_up : (k a b g low high u : ℕ) → IsSearch k a b g low high → u < high → IsBeside IsLeftOf k a b (2 * u + 1) (g + 1) → IsSearch k a b g (u + 1) high
search_up k a b g low high u s l h = record {
  ends = omega arith;
  small = s.small;
  least = λ i e. let d : u ≡ i = omega arith in subst (λ (j : ℕ). IsBeside IsLeftOf k a b (2 * j + 1) (g + 1)) d h;
  most = s.most;
}

pub search_down : (k a b g low high u : ℕ) → IsSearch k a b g low high → low ≤ u → u < high → IsBeside IsRightOf k a b (2 * u + 1) (g + 1) → IsSearch k a b g low u
search_down k a b g low high u s m l h = record {
  ends = m;
  small = let t = s.small in omega arith;
  least = s.least;
  most = λ _. h;
}

pub found : (k a b g low high : ℕ) → IsSearch k a b g low high → high ≤ low → (2 * low ≤ 2 ^ g) × IsNearest k a b g low
found k a b g low high s l =
    let t = s.ends in
    let e : high ≡ low = omega arith in
    (let u = s.small in omega arith, record { least = s.least; most = subst (λ (j : ℕ). 2 * j + 1 < 2 ^ g → IsBeside IsRightOf k a b (2 * j + 1) (g + 1)) e s.most })

-- ---- on the axis, on the diagonal and between
pub rest_on_axis : (k a b g : ℕ) → 0 < a → b ≡ 0 → IsRestOf k a b g 0
rest_on_axis k a b g some none = record {
  small = omega arith;
  axis = λ _. refl;
  diagonal = λ e. absurd (omega arith);
  between = λ l m. absurd (omega arith);
}

pub rest_on_diagonal : (k a b g m : ℕ) → 0 < a → b ≡ a → m ≡ 2 ^ g / 2 → IsRestOf k a b g m
rest_on_diagonal k a b g m some e is = record {
  small = omega arith;
  axis = λ none. absurd (omega arith);
  diagonal = λ _. is;
  between = λ l m. absurd (omega arith);
}

pub rest_between : (k a b g m : ℕ) → b ≢ 0 → b ≢ a → 2 * m ≤ 2 ^ g → IsNearest k a b g m → IsRestOf k a b g m
rest_between k a b g m some other small h = record {
  small = small;
  axis = λ none. absurd (some none);
  diagonal = λ e. absurd (other e);
  between = λ _ _. h;
}
