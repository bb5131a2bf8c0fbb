use Rattle.std.proofs.Common.{◌≡◌, ◌⊎◌, ◌+ℤ◌, ◌∙◌, inl, inr, sym, ap, true, false, Bool, ℕ, ℤ, Some, option_map}
use Rattle.std.proofs.lemmas.Option.{cond_some}
use Rattle.fixed_word.specs.Format.{fits}
use Rattle.fixed_word.specs.Policies.{checked}
use Rattle.fixed_guide.proofs.generic.sum_of_three.Goals as goal

-- a checked number that is there fits
held : (s : Bool) (n : ℕ) (x y : ℤ) → Some y ≡ checked s n (Some x) → (fits s n x ≡ true) × (x ≡ y)
held s n x y e = cond_some (fits s n x) x y (sym e)

-- where both fit, none does not
both : (p q : Bool) → p ≡ true → q ≡ true → ((p ≡ false) ⊎ (q ≡ false)) → true ≡ false
both p q first second (inl lies) = sym first ∙ lies
both p q first second (inr lies) = sym second ∙ lies

pub returns-clause-none : goal.returns-clause-none
returns-clause-none g c =
    let s = g.N.Number.SIGNED in
    let n = g.N.Number.BITS in
    let number = g.N.Held.number in
    let x = number c.args.a +ℤ number c.args.b in
    let y = number c.in_ok-sum.sum in
    let z = number c.args.c in
    let first : (fits s n x ≡ true) × (x ≡ y) = held s n x y (sym (ap (λ o. option_map number o) c.in_ok-sum.was) ∙ c.checked_add.ensures) in
    let later : Some (number c.in_ok-total.total) ≡ checked s n (Some (x +ℤ z)) =
    sym (ap (λ o. option_map number o) c.in_ok-total.was) ∙ c.checked_add-2.ensures ∙ ap (λ k. checked s n (Some (k +ℤ z))) (sym first.1) in
    let second : (fits s n (x +ℤ z) ≡ true) × (x +ℤ z ≡ number c.in_ok-total.total) = held s n (x +ℤ z) (number c.in_ok-total.total) later in
    (λ lies. inl (first.0 ∙ lies), both (fits s n x) (fits s n (x +ℤ z)) first.0 second.0)
