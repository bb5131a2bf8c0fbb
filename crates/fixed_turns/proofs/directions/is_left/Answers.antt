use Rattle.std.proofs.Common.{◌≤◌, pos, inl, inr, arith}
use Rattle.fixed_turns.specs.RadianAngles.{IsLeftBy, IsRightBy}
use Rattle.fixed_turns.specs.Sines.{sine_room}
use Rattle.fixed_turns.proofs.Beside.{by_split, left_none, left_one, left_two, right_none, right_one, right_two}
use Rattle.fixed_turns.proofs.directions.is_left.Goals as goal

pub returns-then-point-clause-left : goal.returns-then-point-clause-left
returns-then-point-clause-left c = λ on v h g k e b unit least most.
    let a = c.split_units-angle.result in
    let room = sine_room c.args.bits in
    let few : a.quarter ≤ 2 = omega (arith, c.if-angle-eq0.true) in
    by_split (IsLeftBy room) v (pos c.args.point.y) h g a.quarter a.rest a.below few (λ p i. c.split_units-angle.ensures.value p h g k i unit least most)
    (λ t f u sure i j. left_none room a.quarter c.args.point.x c.args.point.left t v (pos c.args.point.y) _ _ c.if-angle-eq0.true e b (inl c.if-point.true))

pub returns-else-point-clause-left : goal.returns-else-point-clause-left
returns-else-point-clause-left c = λ on v h g k e b unit least most.
    let a = c.split_units-angle.result in
    let room = sine_room c.args.bits in
    let few : a.quarter ≤ 2 = omega (arith, c.if-angle-eq0.true) in
    by_split (IsLeftBy room) v (pos c.args.point.y) h g a.quarter a.rest a.below few (λ p i. c.split_units-angle.ensures.value p h g k i unit least most)
    (λ t f u sure i j. left_none room a.quarter c.args.point.x c.args.point.left t v (pos c.args.point.y) _ _ c.if-angle-eq0.true e b (inr (c.if-point.false, (c.is_left_of_rest.ensures.left on t f i j u sure))))

pub returns-else-point-clause-right : goal.returns-else-point-clause-right
returns-else-point-clause-right c = λ on v h g k e b unit least most.
    let a = c.split_units-angle.result in
    let room = sine_room c.args.bits in
    let few : a.quarter ≤ 2 = omega (arith, c.if-angle-eq0.true) in
    by_split (IsRightBy room) v (pos c.args.point.y) h g a.quarter a.rest a.below few (λ p i. c.split_units-angle.ensures.value p h g k i unit least most)
    (λ t f u sure i j. right_none room a.quarter c.args.point.x c.args.point.left t v (pos c.args.point.y) _ _ c.if-angle-eq0.true e c.if-point.false (c.is_left_of_rest.ensures.right on t f i j u sure))

pub returns-then-angle-eq1-clause-left : goal.returns-then-angle-eq1-clause-left
returns-then-angle-eq1-clause-left c = λ on v h g k e b unit least most.
    let a = c.split_units-angle.result in
    let room = sine_room c.args.bits in
    let few : a.quarter ≤ 2 = omega (arith, c.if-angle-eq1.true) in
    by_split (IsLeftBy room) v (pos c.args.point.y) h g a.quarter a.rest a.below few (λ p i. c.split_units-angle.ensures.value p h g k i unit least most)
    (λ t f u sure i j. left_one room a.quarter c.args.point.x c.args.point.left t v (pos c.args.point.y) _ _ c.if-angle-eq1.true e (c.is_left_of_rest-then-angle-eq1.ensures.left on t f i j u sure))

pub returns-then-angle-eq1-clause-right : goal.returns-then-angle-eq1-clause-right
returns-then-angle-eq1-clause-right c = λ on v h g k e b unit least most.
    let a = c.split_units-angle.result in
    let room = sine_room c.args.bits in
    let few : a.quarter ≤ 2 = omega (arith, c.if-angle-eq1.true) in
    by_split (IsRightBy room) v (pos c.args.point.y) h g a.quarter a.rest a.below few (λ p i. c.split_units-angle.ensures.value p h g k i unit least most)
    (λ t f u sure i j. right_one room a.quarter c.args.point.x c.args.point.left t v (pos c.args.point.y) _ _ c.if-angle-eq1.true e (c.is_left_of_rest-then-angle-eq1.ensures.right on t f i j u sure))

pub returns-then-is_to_the_right-clause-right : goal.returns-then-is_to_the_right-clause-right
returns-then-is_to_the_right-clause-right c = λ on v h g k e b unit least most.
    let a = c.split_units-angle.result in
    let room = sine_room c.args.bits in
    let few : a.quarter ≤ 2 = omega (arith, c.split_units-angle.ensures.quarter, c.requires) in
    by_split (IsRightBy room) v (pos c.args.point.y) h g a.quarter a.rest a.below few (λ p i. c.split_units-angle.ensures.value p h g k i unit least most)
    (λ t f u sure i j. right_two room a.quarter c.args.point.x c.args.point.y c.args.point.left t v _ _ few c.if-angle-eq0.false c.if-angle-eq1.false e (inl (c.is_to_the_right.ensures.right c.if-is_to_the_right.true)))

pub returns-else-is_to_the_right-clause-left : goal.returns-else-is_to_the_right-clause-left
returns-else-is_to_the_right-clause-left c = λ on v h g k e b unit least most.
    let a = c.split_units-angle.result in
    let room = sine_room c.args.bits in
    let few : a.quarter ≤ 2 = omega (arith, c.split_units-angle.ensures.quarter, c.requires) in
    by_split (IsLeftBy room) v (pos c.args.point.y) h g a.quarter a.rest a.below few (λ p i. c.split_units-angle.ensures.value p h g k i unit least most)
    (λ t f u sure i j. left_two room a.quarter c.args.point.x c.args.point.y c.args.point.left t v _ _ few c.if-angle-eq0.false c.if-angle-eq1.false e (c.is_to_the_right.ensures.other c.if-is_to_the_right.false) (c.is_left_of_rest-else-is_to_the_right.ensures.left on t f i j u sure))

pub returns-else-is_to_the_right-clause-right : goal.returns-else-is_to_the_right-clause-right
returns-else-is_to_the_right-clause-right c = λ on v h g k e b unit least most.
    let a = c.split_units-angle.result in
    let room = sine_room c.args.bits in
    let few : a.quarter ≤ 2 = omega (arith, c.split_units-angle.ensures.quarter, c.requires) in
    by_split (IsRightBy room) v (pos c.args.point.y) h g a.quarter a.rest a.below few (λ p i. c.split_units-angle.ensures.value p h g k i unit least most)
    (λ t f u sure i j. right_two room a.quarter c.args.point.x c.args.point.y c.args.point.left t v _ _ few c.if-angle-eq0.false c.if-angle-eq1.false e (inr (c.is_to_the_right.ensures.other c.if-is_to_the_right.false, (c.is_left_of_rest-else-is_to_the_right.ensures.right on t f i j u sure))))
