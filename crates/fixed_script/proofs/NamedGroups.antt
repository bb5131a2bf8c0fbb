-- A list of names is looked through one part after another.
use Rattle.std.proofs.Common.{◌≡◌, ℕ, Bool, true, false, List, [], ◌∷◌, ◌++◌, Some, None, cond, refl}
use Rattle.std.specs.Str.{bytes_eq}
use Rattle.fixed_text.specs.Words.{named}

-- what the first part names, both name
pub named_in_front : {X : Type 0} (name : X → List ℕ) (xs ys : List X) (t : List ℕ) (x : X) → named name xs t ≡ Some x → named name (xs ++ ys) t ≡ Some x
named_in_front name [] ys t x e = cc
named_in_front name (z ∷ zs) ys t x e = from (bytes_eq t (name z)) e (named_in_front name zs ys t x)
  where
    from : (b : Bool) → cond b (Some z) (named name zs t) ≡ Some x → (named name zs t ≡ Some x → named name (zs ++ ys) t ≡ Some x) → cond b (Some z) (named name (zs ++ ys) t) ≡ Some x
    from true e later = e
    from false e later = later e

-- what the first part does not name, the second answers
pub named_behind : {X : Type 0} (name : X → List ℕ) (xs ys : List X) (t : List ℕ) → named name xs t ≡ None → named name (xs ++ ys) t ≡ named name ys t
named_behind name [] ys t e = refl
named_behind name (z ∷ zs) ys t e = from (bytes_eq t (name z)) e (named_behind name zs ys t)
  where
    from : (b : Bool) → cond b (Some z) (named name zs t) ≡ None → (named name zs t ≡ None → named name (zs ++ ys) t ≡ named name ys t) → cond b (Some z) (named name (zs ++ ys) t) ≡ named name ys t
    from true e later = cc
    from false e later = later e
