use Rattle.std.proofs.Common.{◌≡◌, ◌%◌, false, nat_eq, ap, sym, ◌∙◌, arith}
use Rattle.fixed_turns.proofs.FewTurns.{fits_up, sine_is}
use Rattle.fixed_turns.proofs.narrow.sine_near.Goals.{else-below, then-below}
use Rattle.fixed_turns.proofs.narrow.sine_near.Goals as goal

pub overflow_add-units : goal.overflow_add-units
overflow_add-units c = let h = fits_up c.args.frac c.narrow_sum-units.result c.requires.frac c.narrow_sum-units.type_inv in omega arith

pub returns : goal.returns
returns c =
    let q = c.args.quarter in
    let s = c.narrow_sum-units in
    let t = c.turned in
    let even_sign : q % 2 ≡ 0 → c.if-below.turned ≡ c.args.below = λ even. elim c.if-below.branch [
      | then-below w ↦ w.turned-is ∙ ap (λ j. nat_eq j 0) even ∙ sym w.if-below.true
      | else-below w ↦ w.turned-is
    ] in
    let odd_sign : q % 2 ≡ 1 → c.if-below.turned ≡ false = λ odd. elim c.if-below.branch [
      | then-below w ↦ w.turned-is ∙ ap (λ j. nat_eq j 0) odd
      | else-below w ↦ w.turned-is ∙ w.if-below.false
    ] in
    sine_is q c.args.frac s.result c.from.result c.args.x c.args.below c.if-below.turned t.result c.requires.frac c.requires.quarter s.type_inv c.from.ensures even_sign odd_sign t.ensures.same t.ensures.other
    s.ensures.sine s.ensures.cosine s.ensures.few s.ensures.one
