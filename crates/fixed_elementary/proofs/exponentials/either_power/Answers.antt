use Rattle.std.proofs.Common.{◌≤◌, ◌<◌, ◌-◌, ◌/◌, ◌^◌, ◌∙◌, ℕ, subst, arith}
use Rattle.std.proofs.Math.Nat.{div-mul-le_self}
use Rattle.fixed_elementary.specs.inside.Power.{IsWithin}
use Rattle.fixed_elementary.proofs.Nears.{closed_is, closed_min, past_all}
use Rattle.fixed_elementary.proofs.exponentials.either_power.Goals as goal

pub overflow_shr-whole : goal.overflow_shr-whole
overflow_shr-whole c = omega (arith, c.requires.places, c.requires.bits)

pub broad_power-requires-clause-bits : goal.broad_power-requires-clause-bits
broad_power-requires-clause-bits c = c.requires.bits

pub broad_power-requires-clause-places : goal.broad_power-requires-clause-places
broad_power-requires-clause-places c = c.requires.places

pub returns-then-is_closed : goal.returns-then-is_closed
returns-then-is_closed c =
    let e = c.args.exponent in
    let f = c.args.places in
    let m = c.near_exp2-low.result in
    let s = 62 - e / 2 ^ f in
    let fits : e / 2 ^ f < c.args.bits = omega (arith, c.if-whole-from.false, c.from.ensures) in
    let few : e / 2 ^ f < 62 = c.if-whole-lt62.true in
    let within = subst (λ (x : ℕ). IsWithin (2 ^ 62) 64 24 x m) c.part_of.ensures.value c.near_exp2-low.ensures.near in
    let high = c.is_closed.ensures c.if-is_closed.true in
    let up = closed_is 117 64 f (64 - f) s 62 e m (m / 2 ^ s) (omega (arith, c.requires.places, c.requires.bits)) (omega arith) within (div-mul-le_self m (2 ^ s)) high in
    (m / 2 ^ s, up, c.from-then-is_closed.ensures ∙ closed_min 117 f e c.args.bits (m / 2 ^ s) up fits)

pub returns-then-whole-from : goal.returns-then-whole-from
returns-then-whole-from c =
    let more : c.args.bits ≤ c.args.exponent / 2 ^ c.args.places = omega (arith, c.if-whole-from.true, c.from.ensures) in
    let past = past_all 117 c.args.places c.args.exponent c.args.bits more in
    (past.0, past.1, c.power_of_two.ensures ∙ past.2)
