use Rattle.std.proofs.Common.{◌≡◌, ◌+◌, ◌*◌, ◌^◌, ℕ, Bool, true, false, unsigned_abs, ap, sym, ◌∙◌, subst₂}
use lib.Ieee.{neg}
use lib.Ieee.Exact.{HasValue}
use Rattle.fixed_word.specs.Format.{lowest}
use Rattle.fixed_float.proofs.TwoSums.{neg_value}
use Rattle.fixed_float.proofs.WideLimits.{least_power, wide_is}
use Rattle.fixed_float.proofs.near.least_of.Goals as goal

pub returns-then-SIGNED : goal.returns-then-SIGNED
returns-then-SIGNED g c =
    let s = g.T.RawWord.SIGNED in
    let n = g.T.Valued.BITS in
    let x = c.packed_f64.result in
    let signed : s ≡ true = sym c.SIGNED.ensures ∙ c.if-SIGNED.true in
    let size : (2 ^ 52 + 0) * 2 ^ 11 ≡ unsigned_abs (lowest s n) = sym (ap (λ (b : Bool). unsigned_abs (lowest b n)) signed ∙ least_power n (wide_is n g.met.T.RawWord.width_law c.requires.long)) in
    subst₂ (λ (b : Bool) (a : ℕ). HasValue (neg x) b a (2 ^ c.args.frac)) (sym signed) size (neg_value x false ((2 ^ 52 + 0) * 2 ^ 11) (2 ^ c.args.frac) c.packed_f64.ensures)
