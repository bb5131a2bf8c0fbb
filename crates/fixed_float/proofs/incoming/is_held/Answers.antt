use Rattle.std.proofs.Common.{◌≡◌, ◌↔◌, ◌+◌, ◌-◌, ◌%◌, ◌^◌, ◌<◌, ◌≤◌, ℕ, ℤ, suc, Bool, true, false, pos, negsuc, min, unsigned_abs, ap, sym, ◌∙◌, subst, subst₂, arith, w64}
use Rattle.std.specs.Prelude.{IsTrue}
use lib.Dec.{leb}
use Rattle.std.proofs.lemmas.Bool.Decides.{nat_tests}
use Rattle.std.proofs.lemmas.Int.{ints, to_z-of_z}
use lib.Pow.{pow_mono}
use mir.Val.{SFits, of_z}
use Rattle.fixed_word.specs.Format.{InRange, highest, lowest}
use Rattle.fixed_kernel.proofs.Alikes.{width_at_most}
use Rattle.fixed_float.proofs.Ends.{to_highest, to_lowest}
use Rattle.fixed_float.proofs.incoming.is_held.Goals as goal

-- the ends l and h, and a number that is at least 0 or below it
from_zero : (l h a : ℕ) → l ≤ 2 ^ 63 → a < 2 ^ 63 → IsTrue (leb ((a + l) % 2 ^ 64) (l + min h (2 ^ 63 - 1))) ↔ (a ≤ h)
from_zero l h a L A =
    let e : (a + l) % 2 ^ 64 ≡ a + l = omega arith in
    ((λ t. let q : (a + l) % 2 ^ 64 ≤ l + min h (2 ^ 63 - 1) = grind (arith, nat_tests) in omega arith), (λ t. let q : (a + l) % 2 ^ 64 ≤ l + min h (2 ^ 63 - 1) = omega arith in grind (arith, nat_tests)))

below_zero : (l h a : ℕ) → l ≤ 2 ^ 63 → a < 2 ^ 63 → IsTrue (leb ((2 ^ 64 - suc a + l) % 2 ^ 64) (l + min h (2 ^ 63 - 1))) ↔ (suc a ≤ l)
below_zero l h a L A =
    ((λ t. let q : (2 ^ 64 - suc a + l) % 2 ^ 64 ≤ l + min h (2 ^ 63 - 1) = grind (arith, nat_tests) in omega arith), (λ t. let q : (2 ^ 64 - suc a + l) % 2 ^ 64 ≤ l + min h (2 ^ 63 - 1) = omega arith in grind (arith, nat_tests)))

in_upper : (s : Bool) (n a : ℕ) → InRange s n (pos a) → a ≤ unsigned_abs (highest s n)
in_upper true n a h = omega (arith, ints, h.1)
in_upper false n a h = omega (arith, ints, h.1)

in_lower : (s : Bool) (n a : ℕ) → InRange s n (negsuc a) → suc a ≤ unsigned_abs (lowest s n)
in_lower true n a h = omega (arith, ints, h.0)
in_lower false n a h = omega (arith, ints, h.0)

least_in : (s : Bool) (n : ℕ) → n ≤ 64 → unsigned_abs (lowest s n) ≤ 2 ^ 63
least_in true n h = let p = pow_mono {i = n - 1} {j = 63} (omega arith) in omega (arith, ints)
least_in false n h = omega arith

at : (s : Bool) (n : ℕ) → n ≤ 64 → (x : ℤ) → SFits w64 x
    → IsTrue (leb ((of_z w64 x + unsigned_abs (lowest s n)) % 2 ^ 64) (unsigned_abs (lowest s n) + min (unsigned_abs (highest s n)) (2 ^ 63 - 1))) ↔ InRange s n x
at s n N (pos a) f =
    let e = from_zero (unsigned_abs (lowest s n)) (unsigned_abs (highest s n)) a (least_in s n N) f.sfits in
    ((λ t. to_highest s n a (e.0 t)), (λ r. e.1 (in_upper s n a r)))
at s n N (negsuc a) f =
    let e = below_zero (unsigned_abs (lowest s n)) (unsigned_abs (highest s n)) a (least_in s n N) f.sfits in
    ((λ t. to_lowest s n a (e.0 t)), (λ r. e.1 (in_lower s n a r)))

same : (u v l m h c : ℕ) (P : Type 0) → u ≡ v → m ≡ min h c → IsTrue (leb ((v + l) % 2 ^ 64) (l + min h c)) ↔ P → IsTrue (leb ((u + l) % 2 ^ 64) (l + m)) ↔ P
same u v l m h c P e f r = subst₂ (λ (y z : ℕ). IsTrue (leb ((y + l) % 2 ^ 64) (l + z)) ↔ P) (sym e) (sym f) r

pub returns : goal.returns
returns g c =
    let s = g.T.RawWord.SIGNED in
    let n = g.T.Valued.BITS in
    let value = g.T.Valued.value in
    let x = c.args.number in
    let f : SFits w64 x = record { sfits = c.ranges.number.sfits } in
    let l : c.magnitude-least.result ≡ unsigned_abs (lowest s n) = c.magnitude-least.ensures.magnitude ∙ ap (λ z. unsigned_abs (value z)) c.MIN.ensures ∙ ap unsigned_abs g.met.T.RawWord.min_law in
    let h : c.magnitude.result ≡ unsigned_abs (highest s n) = c.magnitude.ensures.magnitude ∙ ap (λ z. unsigned_abs (value z)) c.MAX.ensures ∙ ap unsigned_abs g.met.T.RawWord.max_law in
    let m : c.min-most.result ≡ min (unsigned_abs (highest s n)) (2 ^ 63 - 1) = c.min-most.ensures ∙ (λ i. min (h i) (c.cast_unsigned.ensures i)) in
    let r = at s n (width_at_most n g.met.T.RawWord.width_law) x f in
    same c.cast_unsigned-2.result (of_z w64 x) c.magnitude-least.result c.min-most.result (unsigned_abs (highest s n)) (2 ^ 63 - 1) (InRange s n x)
    (c.cast_unsigned-2.ensures ∙ ap (of_z w64) (to_z-of_z w64 x f)) m
    (subst (λ (z : ℕ). IsTrue (leb ((of_z w64 x + z) % 2 ^ 64) (z + min (unsigned_abs (highest s n)) (2 ^ 63 - 1))) ↔ InRange s n x) (sym l) r)
