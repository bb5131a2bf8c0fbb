-- The root by the unsigned word of the same width, as a word.
use Rattle.std.proofs.Common.{◌≡◌, ◌≤ℤ◌, ℕ, ℤ, Bool, false, pos, nat_abs, ap, sym, subst, ◌∙◌, arith}
use Rattle.std.proofs.lemmas.Int.{ints}
use Rattle.fixed_word.specs.Format.{IsWidth, InRange, wrap, highest}
use Rattle.fixed_word.proofs.Wraps.{magnitude_fits, width_pos, wrap_same}
use Rattle.fixed_word.proofs.Sides.{lowest_sign}
use Rattle.fixed_root.specs.Root.{IsRoot, root_of}
use Rattle.fixed_root.proofs.RootLaws.{root_is}

-- v is a word's value, u that of the unsigned word, r the root of u and z the value of the word with r's bits
pub counted : (s : Bool) (n f : ℕ) (v u r z : ℤ) → IsWidth n → InRange s n v → pos 0 ≤ℤ v → root_of v f ≤ℤ highest s n → u ≡ wrap false n v → IsRoot u f r → z ≡ wrap s n r → IsRoot v f z
counted s n f v u r z w range h fits e root g =
    let least = root.from_zero in
    let p : v ≡ pos (nat_abs v) = omega (arith, ints) in
    let same : u ≡ v = e ∙ ap (wrap false n) p ∙ magnitude_fits s n v (width_pos n w) range ∙ sym p in
    let here : IsRoot v f r = subst (λ (x : ℤ). IsRoot x f r) same root in
    let is : r ≡ root_of v f = root_is v r f h here in
    let back : z ≡ r = g ∙ wrap_same s n r (width_pos n w) (omega (arith, ints, lowest_sign s n), rw is fits) in
    subst (λ (x : ℤ). IsRoot v f x) (sym back) here
