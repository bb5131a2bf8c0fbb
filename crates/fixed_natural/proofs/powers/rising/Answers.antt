use Rattle.std.proofs.Common.{◌≡◌, ◌+◌, ◌-◌, ◌*◌, ◌^◌, ◌<◌, ◌≤◌, ℕ, Some, None, subst, arith, rules}
use Rattle.fixed_natural.specs.inside.Scaling.{IsQuotient}
use Rattle.fixed_natural.proofs.Powering.{rising_down, rising_up}
use Rattle.fixed_natural.proofs.powers.rising.Goals as goal

pub returns-then-offset-units : goal.returns-then-offset-units
returns-then-offset-units c =
    let f = c.args.frac in
    let m = c.args.exponent in
    let s = c.enclosed_log2-units.result in
    let o = c.in_places-offset.ensures in
    let small : m < 2 ^ 64 = omega arith in
    let less : f * 2 ^ 121 ≤ s + 2 = omega arith in
    let x = subst (λ (n : ℕ). IsQuotient ((s + 2 - n) * c.wide.result) (2 ^ 128 * 2 ^ f) c.scaled.result) o c.scaled.ensures in
    let y = subst (λ (n : ℕ). IsQuotient ((s + 2 - f * 2 ^ 121) * n) (2 ^ 128 * 2 ^ f) c.scaled.result) c.wide.ensures x in
    rw c.in_places-start.ensures (rising_up c.args.a f m s c.scaled.result c.enclosed_log2-units.ensures small less y)

pub returns-else-offset-units : goal.returns-else-offset-units
returns-else-offset-units c =
    let f = c.args.frac in
    let m = c.args.exponent in
    let s = c.enclosed_log2-units.result in
    let o = c.in_places-offset.ensures in
    let t = c.scaled-else-offset-units.result in
    let z = c.difference.result in
    let small : m < 2 ^ 64 = omega arith in
    let more : s + 2 < f * 2 ^ 121 = let k : s + 2 < c.in_places-offset.result = search rules in omega arith in
    let x = subst (λ (n : ℕ). IsQuotient ((n - (s + 2)) * c.wide-else-offset-units.result) (2 ^ 128 * 2 ^ f) t) o c.scaled-else-offset-units.ensures in
    let y = subst (λ (n : ℕ). IsQuotient ((f * 2 ^ 121 - (s + 2)) * n) (2 ^ 128 * 2 ^ f) t) c.wide-else-offset-units.ensures x in
    let nothing = subst (λ (n : ℕ). n + 1 < t → z ≡ None) c.in_places-start.ensures c.difference.ensures.below in
    let something = subst (λ (n : ℕ). t ≤ n + 1 → z ≡ Some (n + 1 - t)) c.in_places-start.ensures c.difference.ensures.above in
    rising_down c.args.a f m s t z c.enclosed_log2-units.ensures small more y nothing something
