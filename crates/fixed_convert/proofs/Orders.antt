-- The order of numbers that are scaled alike, and beside an outcome.
use Rattle.std.proofs.Common.{◌≡◌, ◌-◌, ◌^◌, ◌<◌, ◌≤◌, ◌<ℤ◌, ◌*ℤ◌, ℕ, ℤ, pos, ap, sym, ◌∙◌}
use Rattle.std.specs.Cmp.{int_cmp_is, int_ranks}
use Rattle.std.specs.Ordering.{MatchOrdering, int_cmp, ordering_reverse}
use Rattle.std.specs.declared.cmp.Ordering.{Ordering}
use Rattle.std.specs.declared.cmp.Ordering.TheVariants.{Less, Equal, Greater}
use Rattle.std.proofs.lemmas.Nat.{pow_pos}
use Rattle.fixed_convert.specs.Convert.{exact_order}
use Rattle.fixed_convert.proofs.Moves.{times_lt, times_split}

scaled_match : (a b : ℤ) (c : ℕ) (r : Ordering) → 0 < c → MatchOrdering r (a <ℤ b) (a ≡ b) (b <ℤ a) → MatchOrdering r ((a *ℤ pos c) <ℤ (b *ℤ pos c)) (a *ℤ pos c ≡ b *ℤ pos c) ((b *ℤ pos c) <ℤ (a *ℤ pos c))
scaled_match a b c Less h m = times_lt a b c h m
scaled_match a b c Equal h m = ap (λ (z : ℤ). z *ℤ pos c) m
scaled_match a b c Greater h m = times_lt b a c h m

pub scaled_order : (a b : ℤ) (c : ℕ) → 0 < c → int_cmp a b ≡ int_cmp (a *ℤ pos c) (b *ℤ pos c)
scaled_order a b c h = int_cmp_is (a *ℤ pos c) (b *ℤ pos c) (int_cmp a b) (scaled_match a b c (int_cmp a b) h (int_ranks a b))

-- both numbers in the smaller units
pub order_at : (a b : ℤ) (f g : ℕ) → g ≤ f → int_cmp a (b *ℤ pos (2 ^ (f - g))) ≡ exact_order a f b g
order_at a b f g l = scaled_order a (b *ℤ pos (2 ^ (f - g))) (2 ^ g) (pow_pos g) ∙ ap (int_cmp (a *ℤ pos (2 ^ g))) (sym (times_split b g f l))

reversed_match : (a b : ℤ) (r : Ordering) → MatchOrdering r (a <ℤ b) (a ≡ b) (b <ℤ a) → MatchOrdering (ordering_reverse r) (b <ℤ a) (b ≡ a) (a <ℤ b)
reversed_match a b Less m = m
reversed_match a b Equal m = sym m
reversed_match a b Greater m = m

pub order_turned : (a b : ℤ) (f g : ℕ) → f ≤ g → ordering_reverse (int_cmp b (a *ℤ pos (2 ^ (g - f)))) ≡ exact_order a f b g
order_turned a b f g l =
    let x = a *ℤ pos (2 ^ g) in
    let y = b *ℤ pos (2 ^ f) in
    ap ordering_reverse (order_at b a g f l) ∙ int_cmp_is x y (ordering_reverse (int_cmp y x)) (reversed_match y x (int_cmp y x) (int_ranks y x))
