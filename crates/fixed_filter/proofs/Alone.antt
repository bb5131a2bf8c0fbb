-- A channel in a bank, and the same alone.
use Rattle.std.proofs.Common.{◌≡◌, ℕ, ℤ, pos, Bool, true, false, List, [], ◌∷◌, length, Option, Some, None, refl, sym, ap, subst, ◌∙◌, eq-eqb}
use Rattle.std.specs.Prelude.{◌==◌}
use Rattle.std.proofs.Math.Seq.{take-length}
use Rattle.std.proofs.lemmas.Bool.{eqb-true}
use Rattle.fixed_filter.specs.declared.reply.Reply.{Reply}
use Rattle.fixed_filter.specs.declared.reply.Reply.TheVariants.{Value}
use Rattle.fixed_policy.specs.DotProduct.{dot}
use Rattle.fixed_filter.specs.Replies.{accumulator, misses, least_below, overflow_or, filter_reply}
use Rattle.fixed_filter.specs.Outputs.{own, reply_after, taps_at, replies, alone}

-- ---- the value of a reply
value_or : (u v : ℤ) (first : Option ℕ) → overflow_or u first ≡ Value v → v ≡ u
value_or u v None e = cc
value_or u v (Some t) e = absurd (cc)

pub reply_value : (signed : Bool) (n : ℕ) (s v : ℤ) (ps : List (ℤ × ℤ)) → filter_reply signed n s ps ≡ Value v → v ≡ dot s (pos 0) ps
reply_value signed n s v ps e =
    value_or (accumulator s ps (length ps)) v (least_below (misses signed n s ps) (length ps)) e
    ∙ ap (dot s (pos 0)) (take-length ps)

-- ---- one channel
own_alone : (samples : List ℤ) → own 0 (alone samples) ≡ samples
own_alone [] = refl
own_alone (x ∷ xs) = ap (λ zs. x ∷ zs) (own_alone xs)

module _ (signed : Bool) (n : ℕ) (s : ℤ) (bank : List (List ℤ)) (channel : ℕ) where
  -- from here on the channel replies as it does alone
  abbrev pub Alike : List (ℕ × ℤ) → List (ℕ × ℤ) → Type 0
  Alike before samples = own channel (replies signed n s bank before samples) ≡ own 0 (replies signed n s (taps_at bank channel ∷ []) (alone (own channel before)) (alone (own channel samples)))

  own_sample : (x : ℤ) (before rest : List (ℕ × ℤ)) → Alike ((channel, x) ∷ before) rest → Alike before ((channel, x) ∷ rest)
  own_sample x before rest later =
      let here : (channel == channel) ≡ true = eq-eqb channel channel refl in
      rw here
      (ap (λ (xs : List ℤ). reply_after signed n s (taps_at bank channel) (x ∷ xs) ∷ own channel (replies signed n s bank ((channel, x) ∷ before) rest)) (sym (own_alone (own channel before)))
      ∙ ap (λ (rs : List (Reply ℤ)). reply_after signed n s (taps_at bank channel) (x ∷ own 0 (alone (own channel before))) ∷ rs) (rw here at later))

  other_sample : (i : ℕ) (x : ℤ) (before rest : List (ℕ × ℤ)) → (i == channel) ≡ false → Alike ((i, x) ∷ before) rest → Alike before ((i, x) ∷ rest)
  other_sample i x before rest there later = rw there (rw there at later)

  by_test : (b : Bool) (e : ℕ × ℤ) (before rest : List (ℕ × ℤ)) → (e.0 == channel) ≡ b → Alike (e ∷ before) rest → Alike before (e ∷ rest)
  by_test true e before rest t later =
      let here : channel ≡ e.0 = sym (eqb-true e.0 channel t) in
      subst (λ (i : ℕ). Alike ((i, e.1) ∷ before) rest → Alike before ((i, e.1) ∷ rest)) here (own_sample e.1 before rest) later
  by_test false e before rest t later = other_sample e.0 e.1 before rest t later

  pub alike : (before samples : List (ℕ × ℤ)) → Alike before samples
  alike before [] = refl
  alike before (e ∷ rest) = by_test (e.0 == channel) e before rest refl (alike (e ∷ before) rest)
