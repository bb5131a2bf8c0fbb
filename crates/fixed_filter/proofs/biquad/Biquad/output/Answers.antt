use Rattle.std.proofs.Common.{◌≡◌, ℕ, ℤ, Bool, List, [], ◌∷◌, pos, arith, ap, ◌∙◌}
use Rattle.std.proofs.lemmas.Int.{ints}
use Rattle.fixed_policy.specs.DotProduct.{places}
use Rattle.fixed_filter.specs.declared.reply.Reply.{Reply}
use Rattle.fixed_filter.specs.Replies.{filter_reply}
use Rattle.fixed_filter.proofs.biquad.Biquad.output.Goals as goal

-- a product by a coefficient with g fraction bits moves down by g places
places_back : (f g : ℕ) → places f g f ≡ pos g
places_back f g = omega (arith, ints)

moved_back : {r : Reply ℤ} (s : Bool) (n f g : ℕ) (ps : List (ℤ × ℤ)) → r ≡ filter_reply s n (places f g f) ps → r ≡ filter_reply s n (pos g) ps
moved_back s n f g ps e = e ∙ ap (λ (p : ℤ). filter_reply s n p ps) (places_back f g)

pub returns : goal.returns
returns g c =
    let number = g.T.Valued.value in
    let s = c.args.self.now in
    moved_back g.T.RawWord.SIGNED g.T.Valued.BITS g.row.F g.row.G ((number s.section.b0.bits, number c.args.sample.bits) ∷ (number s.section.b1.bits, number s.x1.bits) ∷ (number s.section.b2.bits, number s.x2.bits) ∷ (number s.section.a1.bits, number s.y1.bits) ∷ (number s.section.a2.bits, number s.y2.bits) ∷ []) c.output_of.ensures
