use Rattle.std.proofs.Common.{◌≡◌, ◌≤◌, ◌<◌, ◌+◌, ◌^◌, ◌++◌, ◌∷◌, ℕ, List, length, drop, ap, ◌∙◌, arith, length-append, length-drop}
use Rattle.fixed_word.specs.Decimal.{natural_text, whole_text}
use Rattle.fixed_digits.proofs.Placed.{length_natural_u64, put_digit}
use Rattle.fixed_machine.specs.inside.Stepping.{number_in}
use Rattle.fixed_machine.proofs.Minus.{of_zero, with_minus, without_minus}
use Rattle.fixed_machine.proofs.answer.put_signed.Goals as goal
use Rattle.fixed_machine.proofs.answer.put_signed.Goals.{else-n-via-then-n+else-text-start-ne48, else-n-via-else-n}

-- a decimal that was put before place 24 of 56 begins as many places before as it has digits
begins : (start m : ℕ) (new old : List ℕ) → length new ≡ 56 → length old ≡ 56 → m < 2 ^ 64 → start ≤ 24
    → drop start new ≡ natural_text m ++ drop 24 old → (start + length (natural_text m) ≡ 24) × (length (natural_text m) ≤ 20)
begins start m new old a b small front e =
    let digits = length_natural_u64 m small in
    (omega (arith, ap length e, length-drop start new, length-append (natural_text m) (drop 24 old), length-drop 24 old, digits), digits)

-- a number below 0
below : (c : goal.Then-text-start-ne48) → whole_text (number_in c.args.n) ≡ 45 ∷ natural_text c.args.n.magnitude
below c = with_minus c.args.n.below_zero c.args.n.magnitude c.decimal_before-start.result c.decimal_before-start.new.buffer (drop 24 c.args.text.now) c.if-n.true c.decimal_before-start.ensures.digits c.if-text-start-ne48.true

-- any other one
not_below : (c : goal.Joined-else-n) → whole_text (number_in c.args.n) ≡ natural_text c.args.n.magnitude
not_below c =
    elim c.else-n.branch [
      | else-n-via-then-n+else-text-start-ne48 w ↦
          of_zero c.args.n.below_zero c.args.n.magnitude c.decimal_before-start.result c.decimal_before-start.new.buffer (drop 24 c.args.text.now) c.decimal_before-start.ensures.digits w.if-text-start-ne48.false
      | else-n-via-else-n w ↦ without_minus c.args.n.below_zero c.args.n.magnitude w.if-n.false
    ]

pub overflow_sub-at : goal.overflow_sub-at
overflow_sub-at c =
    let long : length c.decimal_before-start.new.buffer ≡ 56 = c.decimal_before-start.auto.buffer ∙ c.told-text in
    let b = begins _ c.args.n.magnitude c.decimal_before-start.new.buffer c.args.text.now long c.told-text (omega arith) c.decimal_before-start.ensures.within c.decimal_before-start.ensures.digits in
    omega (arith, b.0, b.1)

pub returns-then-text-start-ne48-clause-start : goal.returns-then-text-start-ne48-clause-start
returns-then-text-start-ne48-clause-start c =
    let long : length c.decimal_before-start.new.buffer ≡ 56 = c.decimal_before-start.auto.buffer ∙ c.told-text in
    let b = begins _ c.args.n.magnitude c.decimal_before-start.new.buffer c.args.text.now long c.told-text (omega arith) c.decimal_before-start.ensures.within c.decimal_before-start.ensures.digits in
    rw (below c) (omega (arith, b.0, b.1))

pub returns-then-text-start-ne48-clause-length : goal.returns-then-text-start-ne48-clause-length
returns-then-text-start-ne48-clause-length c = let digits = length_natural_u64 c.args.n.magnitude (omega arith) in rw (below c) (omega (arith, digits))

pub returns-then-text-start-ne48-clause-text : goal.returns-then-text-start-ne48-clause-text
returns-then-text-start-ne48-clause-text c =
    let new = c.decimal_before-start.new.buffer in
    let long : length new ≡ 56 = c.decimal_before-start.auto.buffer ∙ c.told-text in
    let b = begins _ c.args.n.magnitude new c.args.text.now long c.told-text (omega arith) c.decimal_before-start.ensures.within c.decimal_before-start.ensures.digits in
    rw (below c) (put_digit new _ 45 (omega (arith, b.0, b.1)) (omega (arith, long, c.decimal_before-start.ensures.within)) ∙ ap (λ (ds : List ℕ). 45 ∷ ds) c.decimal_before-start.ensures.digits)

pub returns-else-n-clause-start : goal.returns-else-n-clause-start
returns-else-n-clause-start c =
    let long : length c.decimal_before-start.new.buffer ≡ 56 = c.decimal_before-start.auto.buffer ∙ c.told-text in
    let b = begins _ c.args.n.magnitude c.decimal_before-start.new.buffer c.args.text.now long c.told-text (omega arith) c.decimal_before-start.ensures.within c.decimal_before-start.ensures.digits in
    rw (not_below c) b.0

pub returns-else-n-clause-length : goal.returns-else-n-clause-length
returns-else-n-clause-length c = let digits = length_natural_u64 c.args.n.magnitude (omega arith) in rw (not_below c) (omega (arith, digits))

pub returns-else-n-clause-text : goal.returns-else-n-clause-text
returns-else-n-clause-text c = rw (not_below c) c.decimal_before-start.ensures.digits
