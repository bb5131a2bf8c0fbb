use Rattle.std.proofs.Common.{◌≡◌, ◌^◌, ◌*ℤ◌, pos, ap, sym, ◌∙◌}
use Rattle.std.proofs.lemmas.Bool.{false≢true}
use Rattle.std.proofs.lemmas.Nat.{pow_pos}
use Rattle.fixed_word.specs.Quotient.{floor_quotient}
use Rattle.fixed_word.proofs.Wraps.{width_pos}
use Rattle.fixed_kernel.proofs.WholeRoom.{floored_is, sum_room}
use Rattle.fixed_interval.proofs.ProductCorners.{back_room, ceiled_exact, ceiled_past}
use Rattle.fixed_interval.proofs.products.ceiled.Goals as goal

pub scaled-requires-clause-room : goal.scaled-requires-clause-room
scaled-requires-clause-room g c = rw c.floored-floor.ensures (back_room g.T.RawWord.SIGNED g.T.Whole.Integer.SIGNED g.T.Valued.BITS g.T.Whole.Valued.BITS c.args.frac _ g.met.T.Arithmetic.whole_sign_law g.met.T.RawWord.width_law g.met.T.Arithmetic.whole_width_law c.requires.frac c.requires.size)

pub plus-requires : goal.plus-requires
plus-requires g c =
    let s = g.T.RawWord.SIGNED in
    let n = g.T.Valued.BITS in
    let small = floored_is s n (2 ^ c.args.frac) _ c.requires.size in
    rw (c.floored-floor.ensures, c.whole.ensures.value) (sum_room s g.T.Whole.Integer.SIGNED n g.T.Whole.Valued.BITS _ _ g.met.T.Arithmetic.whole_sign_law (width_pos n g.met.T.RawWord.width_law) g.met.T.Arithmetic.whole_width_law small c.whole.ensures.in_range)

pub returns-then-equals : goal.returns-then-equals
returns-then-equals g c =
    let same = c.equals.ensures.0 c.if-equals.true in
    c.floored-floor.ensures ∙ ceiled_exact _ (2 ^ c.args.frac) (pow_pos c.args.frac) (ap (λ z. z *ℤ pos (2 ^ c.args.frac)) (sym c.floored-floor.ensures) ∙ sym c.scaled.ensures ∙ same)

pub returns-else-equals : goal.returns-else-equals
returns-else-equals g c =
    let x = g.T.Whole.Valued.value c.args.product in
    let d = 2 ^ c.args.frac in
    let other : floor_quotient x d *ℤ pos d ≡ x → ⊥ = λ e. false≢true (sym c.if-equals.false ∙ c.equals.ensures.1 (c.scaled.ensures ∙ ap (λ z. z *ℤ pos d) c.floored-floor.ensures ∙ e)) in
    c.plus.ensures ∙ rw (c.floored-floor.ensures, c.whole.ensures.value, c.ONE.ensures, g.met.T.RawWord.one_law) (ceiled_past x d (pow_pos c.args.frac) other)
