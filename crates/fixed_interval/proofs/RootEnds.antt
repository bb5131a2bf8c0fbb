-- The ends of a root: the computed root from above is the least one, and both ends hold the roots.
use Rattle.std.proofs.Common.{◌≡◌, ◌^◌, ◌≤ℤ◌, ◌<ℤ◌, ◌+ℤ◌, ◌*ℤ◌, ℕ, ℤ, Bool, true, false, pos, negsuc, refl, arith, inl, inr}
use Rattle.std.specs.Prelude.{int_le, if◌then◌else◌}
use Rattle.std.proofs.lemmas.Int.{ints}
use Rattle.std.proofs.lemmas.Nat.{mul-le}
use Rattle.std.proofs.lemmas.Bool.{cases_lt}
use Rattle.fixed_root.specs.Root.{IsRoot, root_of}
use Rattle.fixed_root.proofs.RootLaws.{root_of_is}
use Rattle.fixed_interval.specs.Ends.{Ends, ceiling_root, root_of_ends}
use Rattle.fixed_interval.specs.Containment.{IsWithin, IsCeilingRoot, HoldsRoots}
use Rattle.fixed_interval.proofs.Lines.{times_assoc, times_le}
use Rattle.fixed_interval.proofs.Corners.{inside_order}

-- of two numbers at least 0 the one of the less square is less
square_less : (r s : ℤ) → pos 0 ≤ℤ r → pos 0 ≤ℤ s → (r *ℤ r) <ℤ (s *ℤ s) → r <ℤ s
square_less (pos m) (pos n) g h l = elim (cases_lt m n) [
  | inl less ↦ omega (arith, ints)
  | inr more ↦ absurd (omega (arith, ints, mul-le n n m m more more))
]
square_less (negsuc m) s g h l = absurd (omega (arith, ints))
square_less (pos m) (negsuc n) g h l = absurd (omega (arith, ints))

pub square_at_most : (r s : ℤ) → pos 0 ≤ℤ r → pos 0 ≤ℤ s → (r *ℤ r) <ℤ ((s +ℤ pos 1) *ℤ (s +ℤ pos 1)) → r ≤ℤ s
square_at_most r s g h l =
    let t = square_less r (s +ℤ pos 1) g (omega (arith, ints)) l in
    omega (arith, ints)

next_square : (s : ℤ) → pos 0 ≤ℤ s → (s *ℤ s) <ℤ ((s +ℤ pos 1) *ℤ (s +ℤ pos 1))
next_square (pos n) h = omega (arith, ints)
next_square (negsuc n) h = absurd (omega (arith, ints))

-- r is the root, rounded down, and t whether its square is the number
chosen : (a r : ℤ) (f : ℕ) (t : Bool) → int_le (a *ℤ pos (2 ^ f)) (r *ℤ r) ≡ t → IsRoot a f r → IsCeilingRoot a f (if t then r else r +ℤ pos 1)
chosen a r f true e h =
    let z = h.from_zero in
    let b = h.below in
    record {
      from_zero = z;
      above = omega (arith, ints);
      least = λ s g l. square_at_most r s z g (let n = next_square s g in omega (arith, ints));
    }
chosen a r f false e h =
    let z = h.from_zero in
    let b = h.above in
    record {
      from_zero = omega (arith, ints);
      above = omega (arith, ints);
      least = λ s g l. let n = square_less r s z g (omega (arith, ints)) in omega (arith, ints);
    }

pub ceiling_root_is : (a : ℤ) (f : ℕ) → pos 0 ≤ℤ a → IsCeilingRoot a f (ceiling_root a f)
ceiling_root_is a f h = chosen a (root_of a f) f (int_le (a *ℤ pos (2 ^ f)) (root_of a f *ℤ root_of a f)) refl (root_of_is a f h)

pub ceiling_root_unique : (a r s : ℤ) (f : ℕ) → IsCeilingRoot a f r → IsCeilingRoot a f s → r ≡ s
ceiling_root_unique a r s f g h =
    let x = g.least s h.from_zero h.above in
    let y = h.least r g.from_zero g.above in
    omega (arith, ints)

pub holds_roots : (a : Ends) (f : ℕ) → pos 0 ≤ℤ a.low → HoldsRoots a f (root_of_ends a f)
holds_roots a f z x d h i =
    let order = inside_order x d a h i in
    let low = root_of_is a.low f z in
    let high = ceiling_root_is a.high f (omega (arith, ints)) in
    let l = i.from_low in
    let u = i.to_high in
    let e = root_of_ends a f in
    record {
      low = low.from_zero;
      high = high.from_zero;
      from_low =
          let s = times_le (e.low *ℤ e.low) (a.low *ℤ pos (2 ^ f)) d low.below in
          let t = times_le (a.low *ℤ pos d) x (2 ^ f) l in
          omega (arith, ints, times_assoc a.low (pos (2 ^ f)) (pos d), times_assoc a.low (pos d) (pos (2 ^ f)));
      to_high =
          let s = times_le (a.high *ℤ pos (2 ^ f)) (e.high *ℤ e.high) d high.above in
          let t = times_le x (a.high *ℤ pos d) (2 ^ f) u in
          omega (arith, ints, times_assoc a.high (pos (2 ^ f)) (pos d), times_assoc a.high (pos d) (pos (2 ^ f)));
    }

-- ---- of a narrower operand

root_grows : (a b : ℤ) (f : ℕ) → pos 0 ≤ℤ a → a ≤ℤ b → root_of a f ≤ℤ root_of b f
root_grows a b f z h =
    let r = root_of_is a f z in
    let s = root_of_is b f (omega (arith, ints)) in
    let low = r.below in
    let high = s.above in
    let t = times_le a b (2 ^ f) h in
    square_at_most (root_of a f) (root_of b f) r.from_zero s.from_zero (omega (arith, ints))

ceiling_root_grows : (a b : ℤ) (f : ℕ) → pos 0 ≤ℤ a → a ≤ℤ b → ceiling_root a f ≤ℤ ceiling_root b f
ceiling_root_grows a b f z h =
    let r = ceiling_root_is a f z in
    let s = ceiling_root_is b f (omega (arith, ints)) in
    let high = s.above in
    let t = times_le a b (2 ^ f) h in
    r.least (ceiling_root b f) s.from_zero (omega (arith, ints))

pub root_in_order : (a b : ℤ) (f : ℕ) → pos 0 ≤ℤ a → a ≤ℤ b → root_of a f ≤ℤ ceiling_root b f
root_in_order a b f z h =
    let r = root_of_is a f z in
    let s = ceiling_root_is b f (omega (arith, ints)) in
    let low = r.below in
    let high = s.above in
    let t = times_le a b (2 ^ f) h in
    let o = s.from_zero in
    square_at_most (root_of a f) (ceiling_root b f) r.from_zero o (let n = next_square (ceiling_root b f) o in omega (arith, ints))

pub root_within : (a c : Ends) (f : ℕ) → pos 0 ≤ℤ a.low → IsWithin c a → IsWithin (root_of_ends c f) (root_of_ends a f)
root_within a c f z w =
    let l = w.from_low in
    let o = w.ordered in
    record {
      from_low = root_grows a.low c.low f z l;
      ordered = root_in_order c.low c.high f (omega (arith, ints)) o;
      to_high = ceiling_root_grows c.high a.high f (omega (arith, ints)) w.to_high;
    }
