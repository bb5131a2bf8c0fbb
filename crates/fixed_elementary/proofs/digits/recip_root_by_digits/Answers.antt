use Rattle.std.proofs.Common.{◌-◌, ◌∙◌, ◌/◌, arith, refl, rules}
use Rattle.fixed_elementary.proofs.Turns.{all_found, begun, room, turned}
use Rattle.fixed_elementary.proofs.digits.recip_root_by_digits.Goals as goal

pub loop-i-init : goal.loop-i-init
loop-i-init c =
    let h = c.begin-part.ensures in
    begun c.args.a _ _ _ _ (h.value ∙ c.first_of.ensures) h.rest h.remainder h.root

pub find_digit-part-requires-clause-root : goal.find_digit-part-requires-clause-root
find_digit-part-requires-clause-root c =
    room c.args.a _ _ _ _ c.loop-i.i ((c.args.exponent - 126) / 2) (search rules) (omega (arith, c.requires.most)) c.loop-i.invariant

pub loop-i-preserved : goal.loop-i-preserved
loop-i-preserved c =
    let h = c.find_digit-part.ensures in
    turned c.args.a _ _ _ _ c.loop-i.i _ _ _ c.loop-i.invariant h.value h.rest h.remainder h.root

pub returns : goal.returns
returns c = all_found c.args.a _ _ _ _ c.loop-i.i c.args.exponent (search rules) c.requires.least refl c.loop-i.invariant
