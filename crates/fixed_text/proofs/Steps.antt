-- What follows where a chain of steps gives a value.
use Rattle.std.proofs.Common.{◌≡◌, ℕ, List, [], ◌∷◌, Option, Some, None, Bool, true, false, cond, refl, sym, ap, ◌∙◌}
use Rattle.std.specs.Str.{bytes_eq}
use Rattle.std.proofs.lemmas.Slice.Eq.{bytes_eq-Decides}
use Rattle.std.proofs.lemmas.Option.{same_Some}
use Rattle.fixed_text.specs.Words.{named}
use Rattle.fixed_text.specs.Tokens.{◌>>=◌, next_by, took, at_end}

pub guard_some : {A : Type 0} (b : Bool) (x : Option A) (y : A) → cond b x None ≡ Some y → (b ≡ true) × (x ≡ Some y)
guard_some true x y e = (refl, e)
guard_some false x y e = cc

pub bind_some : {A B : Type 0} (o : Option A) (f : A → Option B) (y : B) → (o >>= f) ≡ Some y → (x : A) × (o ≡ Some x) × (f x ≡ Some y)
bind_some None f y e = cc
bind_some (Some x) f y e = (x, refl, e)

-- a step that took a token, and went on to a value
pub record Taken {A B : Type 0} (read : List ℕ → Option A) (ts : List (List ℕ)) (f : A × List (List ℕ) → Option B) (y : B) : Type 0 where
  pub token : List ℕ
  pub rest : List (List ℕ)
  pub value : A
  pub is : ts ≡ token ∷ rest
  pub reads : read token ≡ Some value
  pub goes_on : f (value, rest) ≡ Some y

pub next_some : {A B : Type 0} (read : List ℕ → Option A) (ts : List (List ℕ)) (f : A × List (List ℕ) → Option B) (y : B) → (next_by read ts >>= f) ≡ Some y → Taken read ts f y
next_some read [] f y e = cc
next_some read (t ∷ ts) f y e = from (read t) refl e
  where
    from : (r : _) → read t ≡ r → (took r ts >>= f) ≡ Some y → Taken read (t ∷ ts) f y
    from None is e = cc
    from (Some x) is e = record { token = t; rest = ts; value = x; is = refl; reads = is; goes_on = e }

-- a name, and what is read after it
pub led_only : {A : Type 0} (name : List ℕ) (read : List (List ℕ) → Option A) (tokens : A → List (List ℕ)) (ts : List (List ℕ)) (y : A) → ((rest : List (List ℕ)) → read rest ≡ Some y → tokens y ≡ rest)
    → (next_by Some ts >>= λ first. cond (bytes_eq first.0 name) (read first.1) None) ≡ Some y → name ∷ tokens y ≡ ts
led_only name read tokens ts y only e =
    let t = next_some Some ts (λ first. cond (bytes_eq first.0 name) (read first.1) None) y e in
    let named = guard_some (bytes_eq t.value name) (read t.rest) y t.goes_on in
    let is : name ≡ t.token = sym ((bytes_eq-Decides t.value name).0 named.0) ∙ sym (same_Some t.token t.value t.reads) in
    ap (λ rest. name ∷ rest) (only t.rest named.1) ∙ ap (λ first. first ∷ t.rest) is ∙ sym t.is

pub end_some : {A : Type 0} (ts : List (List ℕ)) (x y : A) → at_end ts x ≡ Some y → (ts ≡ []) × (x ≡ y)
end_some [] x y e = (refl, same_Some x y e)
end_some (t ∷ ts) x y e = cc

pub named_takes : {X : Type 0} (name : X → List ℕ) (xs : List X) (t : List ℕ) (x : X) → named name xs t ≡ Some x → name x ≡ t
named_takes name [] t x e = cc
named_takes name (y ∷ ys) t x e = from (bytes_eq t (name y)) refl e (named_takes name ys t x)
  where
    from : (b : Bool) → bytes_eq t (name y) ≡ b → cond b (Some y) (named name ys t) ≡ Some x → (named name ys t ≡ Some x → name x ≡ t) → name x ≡ t
    from true is e later = sym ((bytes_eq-Decides t (name y)).0 is ∙ ap name (same_Some y x e))
    from false is e later = later e
