-- All policies answer the same number where it fits.
use Rattle.std.proofs.Common.{◌≡◌, ℕ, ℤ, Bool, true, false, not, Some, None, ap, refl, if◌then◌else◌}
use Rattle.fixed_word.specs.Format.{IsWidth, fits, wrap}
use Rattle.fixed_word.proofs.Wraps.{width_pos, wrap_same}
use Rattle.fixed_word.proofs.Standings.{clamp_same}
use Rattle.fixed_calc.specs.PolicyLaws.{WhereItFits, WhereItMisses}
use Rattle.fixed_machine.proofs.Fits.{in_range}

pub where_it_fits : (s : Bool) (n : ℕ) (x : ℤ) → IsWidth n → fits s n x ≡ true → WhereItFits s n x
where_it_fits s n x w e =
    let r = in_range s n x e in
    let same = wrap_same s n x (width_pos n w) r in
    record {
      by_checked = ap (λ (b : Bool). if b then Some x else None) e;
      by_saturating = ap (λ (y : ℤ). Some y) (clamp_same s n x r);
      by_wrapping = ap (λ (y : ℤ). Some y) same;
      by_overflowing = λ i. Some (same i, not (e i));
    }

pub where_it_misses : (s : Bool) (n : ℕ) (x : ℤ) → fits s n x ≡ false → WhereItMisses s n x
where_it_misses s n x e = record {
  by_checked = ap (λ (b : Bool). if b then Some x else None) e;
  by_saturating = refl;
  by_wrapping = refl;
  by_overflowing = λ i. Some (wrap s n x, not (e i));
}
