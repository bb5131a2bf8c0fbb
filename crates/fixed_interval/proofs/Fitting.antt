-- Ends that fit, and ends that lie within them.
use Rattle.std.proofs.Common.{◌≡◌, ◌≤ℤ◌, ◌<ℤ◌, ℕ, ℤ, Bool, true, false, Some, refl, arith, sym, ap, subst, ◌∙◌, inl, inr, pos, negsuc}
use Rattle.std.specs.Prelude.{◌&&◌, ◌↔◌, int_le, IsTrue, IfSome, MatchOption, None, Option, if◌then◌else◌}
use Rattle.std.specs.Option.{option_map}
use Rattle.std.proofs.lemmas.Int.{ints}
use Rattle.fixed_word.specs.Format.{InRange, fits}
use Rattle.fixed_interval.specs.Ends.{Bounds, Ends, ends_of, fitting, has_zero, quotient_ends, quotient_of, root_ends, root_of_ends}
use Rattle.fixed_interval.specs.Containment.{FitsWithin, HoldsQuotients, HoldsRoots, IsWithin}
use Rattle.fixed_interval.specs.inside.OffZero.{ExcludesZero}
use Rattle.fixed_interval.proofs.QuotientEnds.{holds_quotients}
use Rattle.fixed_interval.proofs.RootEnds.{holds_roots}

-- ---- a choice by a test

some_same : {A : Type 0} (x e : A) → Some x ≡ Some e → x ≡ e
some_same x e h = cc

chosen : {A : Type 0} (t : Bool) (x e : A) → (if t then Some x else None) ≡ Some e → (t ≡ true) × (x ≡ e)
chosen true x e h = (refl, some_same x e h)
chosen false x e h = absurd (cc)

kept : {A : Type 0} (t : Bool) (x e : A) → (if t then None else Some x) ≡ Some e → (t ≡ false) × (x ≡ e)
kept false x e h = (refl, some_same x e h)
kept true x e h = absurd (cc)

both : (t u : Bool) → (t && u) ≡ true → (t ≡ true) × (u ≡ true)
both true u h = (refl, h)
both false u h = absurd (cc)

-- ---- ends that fit

fits_out : (s : Bool) (n : ℕ) (x : ℤ) → fits s n x ≡ true → InRange s n x
fits_out s n x h = grind (arith, ints)

fits_in : (s : Bool) (n : ℕ) (x : ℤ) → InRange s n x → fits s n x ≡ true
fits_in s n x h = grind (arith, ints)

-- both ends fit
pub record Fit (s : Bool) (n : ℕ) (e : Ends) : Type 0 where
  pub low : InRange s n e.low
  pub high : InRange s n e.high

pub fitting_out : (s : Bool) (n : ℕ) (r e : Ends) → fitting s n (Some r) ≡ Some e → Fit s n r × (r ≡ e)
fitting_out s n r e h =
    let c = chosen (fits s n r.low && fits s n r.high) r e h in
    let b = both (fits s n r.low) (fits s n r.high) c.0 in
    (record { low = fits_out s n r.low b.0; high = fits_out s n r.high b.1 }, c.1)

pub fitting_in : (s : Bool) (n : ℕ) (e : Ends) → Fit s n e → fitting s n (Some e) ≡ Some e
fitting_in s n e f = rw (fits_in s n e.low f.low, fits_in s n e.high f.high)

-- ends within ends that fit
within_fits : (s : Bool) (n : ℕ) (e r : Ends) → Fit s n e → IsWithin r e → Fit s n r
within_fits s n e r f w =
    let a = f.low in
    let b = f.high in
    let l = w.from_low in
    let o = w.ordered in
    let h = w.to_high in
    record { low = (omega (arith, ints), omega (arith, ints)); high = (omega (arith, ints), omega (arith, ints)) }

pub narrower : (s : Bool) (n : ℕ) (p q e : Ends) → IsWithin q p → fitting s n (Some p) ≡ Some e → FitsWithin s n (Some q) e
narrower s n p q e w h =
    let f = fitting_out s n p e h in
    (q, fitting_in s n q (within_fits s n p q f.0 w), subst (IsWithin q) f.1 w)

-- ---- where a quotient and a root have ends

le_no : (a b : ℤ) → b <ℤ a → int_le a b ≡ false
le_no a b h = sym (omega (arith, ints))

le_yes : (a b : ℤ) → a ≤ℤ b → int_le a b ≡ true
le_yes a b h = sym (omega (arith, ints))

no_and : (t : Bool) → (t && false) ≡ false
no_and true = refl
no_and false = refl

pub quotient_is : (a b : Ends) (f : ℕ) → ExcludesZero b → quotient_ends a b f ≡ Some (quotient_of a b f)
quotient_is a b f (inl some) = rw (le_no b.low (pos 0) some)
quotient_is a b f (inr some) = rw (le_no (pos 0) b.high some, no_and)

pub off_zero : (e : Ends) → has_zero e ≡ false → ExcludesZero e
off_zero e h = tested (int_le e.low (pos 0)) (int_le (pos 0) e.high) refl refl h
  where
    tested : (t u : Bool) → int_le e.low (pos 0) ≡ t → int_le (pos 0) e.high ≡ u → (t && u) ≡ false → ExcludesZero e
    tested false u l k h = inl (omega (arith, ints))
    tested true false l k h = inr (omega (arith, ints))
    tested true true l k h = absurd (cc)

pub quotient_defined : (a b e : Ends) (f : ℕ) → quotient_ends a b f ≡ Some e → ExcludesZero b × (quotient_of a b f ≡ e)
quotient_defined a b e f h =
    let c = kept (has_zero b) (quotient_of a b f) e h in
    (off_zero b c.0, c.1)

pub root_is : (a : Ends) (f : ℕ) → pos 0 ≤ℤ a.low → root_ends a f ≡ Some (root_of_ends a f)
root_is a f h = rw (le_yes (pos 0) a.low h)

pub root_defined : (a e : Ends) (f : ℕ) → root_ends a f ≡ Some e → (pos 0 ≤ℤ a.low) × (root_of_ends a f ≡ e)
root_defined a e f h =
    let c = chosen (int_le (pos 0) a.low) (root_of_ends a f) e h in
    let t = c.0 in
    (omega (arith, ints), c.1)

pub fitting_defined : (s : Bool) (n : ℕ) (o : Option Ends) (e : Ends) → fitting s n o ≡ Some e → o ≡ Some e
fitting_defined s n None e h = absurd (cc)
fitting_defined s n (Some r) e h = ap (λ (x : Ends). Some x) (fitting_out s n r e h).1

-- ---- answers

-- the interval between two numbers that fit and are in order
pub made : (s : Bool) (n : ℕ) (e : Ends) (x y : ℤ) (r : Option Ends) → x ≡ e.low → y ≡ e.high → Fit s n e → e.low ≤ℤ e.high
    → MatchOption r (y <ℤ x) (λ i. i ≡ record { low = x; high = y }) → r ≡ fitting s n (Some e)
made s n e x y None p q f o m = absurd (omega (arith, ints))
made s n e x y (Some i) p q f o m =
    let same : i ≡ e = m ∙ ap (λ (l : ℤ). record { low = l; high = y }) p ∙ ap (λ (h : ℤ). record { low = e.low; high = h }) q in
    ap (λ (z : Ends). Some z) same ∙ sym (fitting_in s n e f)

-- what holds of the ends holds of the answer
pub held : (P : Ends → Type 0) (s : Bool) (n : ℕ) (o r : Option Ends) → r ≡ fitting s n o → ((e : Ends) → o ≡ Some e → P e) → IfSome r P
held P s n o None h k = tt
held P s n o (Some e) h k = k e (fitting_defined s n o e (sym h))

pub held_some : (P : Ends → Type 0) (s : Bool) (n : ℕ) (x : Ends) (r : Option Ends) → r ≡ fitting s n (Some x) → P x → IfSome r P
held_some P s n x r h p = held P s n (Some x) r h (λ e k. subst P (some_same x e k) p)

pub quotient_holds : (a b e : Ends) (f : ℕ) → quotient_ends a b f ≡ Some e → HoldsQuotients a b f e
quotient_holds a b e f h =
    let d = quotient_defined a b e f h in
    subst (HoldsQuotients a b f) d.1 (holds_quotients a b f d.0)

pub root_holds : (a e : Ends) (f : ℕ) → root_ends a f ≡ Some e → HoldsRoots a f e
root_holds a e f h =
    let d = root_defined a e f h in
    subst (HoldsRoots a f) d.1 (holds_roots a f d.0)

-- a test of the sign
pub not_below : (b : Bool) (v : ℤ) → (IsTrue b ↔ (v <ℤ pos 0)) → b ≡ false → pos 0 ≤ℤ v
not_below false (pos n) s e = omega (arith, ints)
not_below false (negsuc n) s e = let t = s.1 (omega (arith, ints)) in absurd (cc)
not_below true v s e = absurd (cc)

-- what holds of the ends holds of the words that stand for them
pub seen : {A : Type 0} (view : A → Ends) (P : Ends → Type 0) (o : Option A) → IfSome (option_map view o) P → IfSome o (λ x. P (view x))
seen view P None h = tt
seen view P (Some x) h = h

pub shown : {A : Type 0} (view : A → Ends) (P : Ends → Type 0) (o : Option A) → IfSome o (λ x. P (view x)) → IfSome (option_map view o) P
shown view P None h = tt
shown view P (Some x) h = h

-- the interval of two words, by its ends
pub made_ends : {T : Type 0} (value : T → ℤ) (lo hi : T) (r : Option (Bounds T)) → MatchOption r (value hi <ℤ value lo) (λ i. i ≡ record { lo = lo; hi = hi })
    → MatchOption (option_map (ends_of value) r) (value hi <ℤ value lo) (λ e. e ≡ record { low = value lo; high = value hi })
made_ends value lo hi None h = h
made_ends value lo hi (Some i) h = ap (ends_of value) h
