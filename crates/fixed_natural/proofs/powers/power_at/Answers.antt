use Rattle.std.proofs.Common.{◌≡◌, ◌^◌, ℕ, subst, sym, ◌∙◌}
use Rattle.std.specs.Prelude.{min}
use Rattle.fixed_elementary.specs.Exp2.{IsExp2Up}
use Rattle.fixed_natural.proofs.Moving.{none_is, some_is}
use Rattle.fixed_natural.proofs.powers.power_at.Goals as goal

pub returns-in-Some-clause-some : goal.returns-in-Some-clause-some
returns-in-Some-clause-some c = λ z is. subst (λ (y : ℕ). (r : ℕ) × IsExp2Up 117 y 57 r × (c.power_of.result ≡ min r (2 ^ 64))) (some_is (sym c.in-Some.is ∙ is)) c.power_of.ensures

pub returns-in-None-clause-some : goal.returns-in-None-clause-some
returns-in-None-clause-some c = λ z is. absurd (none_is (sym c.in-None.is ∙ is))
