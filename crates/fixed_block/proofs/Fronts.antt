-- A block that is written from the front on.
use Rattle.std.proofs.Common.{◌≡◌, ◌+◌, ◌<◌, ◌≤◌, ◌==◌, ◌++◌, ℕ, ℤ, zero, suc, Bool, true, false, List, [], ◌∷◌, map, take, drop, length, get_or, set, refl, sym, ap, ◌∙◌, Some, None, if◌then◌else◌, cond, arith}
use Rattle.std.proofs.lemmas.Bool.Decides.{nat_tests}
use Rattle.std.specs.List.{prefix_len}
use Rattle.std.proofs.lemmas.List.Sums.{prefix_len-le-length}
use Rattle.std.proofs.lemmas.List.{get_or-map, length-map, map-set}
use Rattle.std.proofs.lemmas.Option.{same_Some}
use Rattle.fixed_word.specs.Format.{fits}
use Rattle.fixed_word.specs.Policies.{checked}
use Rattle.fixed_block.specs.Blocks.{checked_block, fitting, misfit, of_pairs}

-- so many elements are written, and the others are as they were
abbrev pub IsFront : List ℤ → List ℤ → ℕ → List ℤ → Type 0
IsFront new old i now = now ≡ take i new ++ drop i old

pub length_pairs : (row : ℤ → ℤ → ℤ) (xs ys : List ℤ) → length xs ≡ length ys → length (of_pairs row xs ys) ≡ length xs
length_pairs row [] ys e = refl
length_pairs row (x ∷ xs) [] e = absurd (omega arith)
length_pairs row (x ∷ xs) (y ∷ ys) e = ap suc (length_pairs row xs ys (omega arith))

pub pairs_at : (row : ℤ → ℤ → ℤ) (xs ys : List ℤ) (i : ℕ) (d : ℤ) → i < length xs → length xs ≡ length ys → get_or (of_pairs row xs ys) i d ≡ row (get_or xs i d) (get_or ys i d)
pairs_at row [] ys i d lt e = absurd (omega arith)
pairs_at row (x ∷ xs) [] i d lt e = absurd (omega arith)
pairs_at row (x ∷ xs) (y ∷ ys) zero d lt e = refl
pairs_at row (x ∷ xs) (y ∷ ys) (suc i) d lt e = pairs_at row xs ys i d (omega arith) (omega arith)

-- the element that is next is as it was
pub front_next : (new old : List ℤ) (i : ℕ) (d : ℤ) → length new ≡ length old → i < length old → get_or (take i new ++ drop i old) i d ≡ get_or old i d
front_next [] old i d e lt = absurd (omega arith)
front_next (p ∷ new) [] i d e lt = absurd (omega arith)
front_next (p ∷ new) (x ∷ old) zero d e lt = refl
front_next (p ∷ new) (x ∷ old) (suc i) d e lt = front_next new old i d (omega arith) (omega arith)

-- and is written
set_next : (new old : List ℤ) (i : ℕ) (v d : ℤ) → length new ≡ length old → i < length old → v ≡ get_or new i d → set (take i new ++ drop i old) i v ≡ take (suc i) new ++ drop (suc i) old
set_next [] old i v d e lt is = absurd (omega arith)
set_next (p ∷ new) [] i v d e lt is = absurd (omega arith)
set_next (p ∷ new) (x ∷ old) zero v d e lt is = ap (λ w. w ∷ old) is
set_next (p ∷ new) (x ∷ old) (suc i) v d e lt is = ap (λ l. p ∷ l) (set_next new old i v d (omega arith) (omega arith) is)

pub front_set : (new old now : List ℤ) (i : ℕ) (v d : ℤ) → IsFront new old i now → length new ≡ length old → i < length old → v ≡ get_or new i d → IsFront new old (i + 1) (set now i v)
front_set new old now i v d front e lt is =
    let more : suc i ≡ i + 1 = omega arith in
    ap (λ l. set l i v) front ∙ set_next new old i v d e lt is ∙ ap (λ k. take k new ++ drop k old) more

front_length : (new old : List ℤ) (i : ℕ) → length new ≡ length old → length (take i new ++ drop i old) ≡ length old
front_length [] [] zero e = refl
front_length [] [] (suc i) e = refl
front_length [] (x ∷ old) i e = absurd (omega arith)
front_length (p ∷ new) [] i e = absurd (omega arith)
front_length (p ∷ new) (x ∷ old) zero e = refl
front_length (p ∷ new) (x ∷ old) (suc i) e = ap suc (front_length new old i (omega arith))

-- what the block has next, by its number
next_is : {A : Type 0} (value : A → ℤ) (new : List ℤ) (old now : List A) (i : ℕ) (d : A) → IsFront new (map value old) i (map value now) → length new ≡ length (map value old) → i < length now
    → (i < length (map value old)) × (get_or (map value old) i (value d) ≡ value (get_or now i d))
next_is value new old now i d front e lt =
    let xs = map value old in
    let long : length now ≡ length xs = sym (length-map now value) ∙ ap length front ∙ front_length new xs i e in
    let within : i < length xs = omega (arith, long, lt) in
    (within, sym (front_next new xs i (value d) e within) ∙ sym (ap (λ l. get_or l i (value d)) front) ∙ get_or-map value now i d (value d) lt)

-- the element at i becomes y
pub written : {A : Type 0} (value : A → ℤ) (new : List ℤ) (old now : List A) (i : ℕ) (d y : A) → IsFront new (map value old) i (map value now) → length new ≡ length (map value old) → i < length now → value y ≡ get_or new i (value d)
    → IsFront new (map value old) (i + 1) (map value (set now i y))
written value new old now i d y front e lt made =
    map-set value now i y ∙ front_set new (map value old) (map value now) i (value y) (value d) front e (next_is value new old now i d front e lt).0 made

-- a policy's number of a result
policy_at : (f : ℤ → ℤ) (rows : List ℤ) (i : ℕ) (v z : ℤ) → i < length rows → get_or rows i v ≡ z → get_or (map f rows) i v ≡ f z
policy_at f rows i v z lt is = get_or-map f rows i v v lt ∙ ap f is

-- ---- one block
pub each_long : {A : Type 0} (value : A → ℤ) (r : ℤ → ℤ) (old : List A) → length (map r (map value old)) ≡ length (map value old)
each_long value r old = length-map (map value old) r

each_row : {A : Type 0} (value : A → ℤ) (r : ℤ → ℤ) (new : List ℤ) (old now : List A) (i : ℕ) (d : A) → IsFront new (map value old) i (map value now) → length new ≡ length (map value old) → i < length now
    → (i < length (map r (map value old))) × (get_or (map r (map value old)) i (value d) ≡ r (value (get_or now i d)))
each_row value r new old now i d front e lt =
    let next = next_is value new old now i d front e lt in
    let long = each_long value r old in
    (omega (arith, next.0, long), get_or-map r (map value old) i (value d) (value d) next.0 ∙ ap r next.1)

-- likewise by the element
pub each_here : {A : Type 0} (value : A → ℤ) (r : ℤ → ℤ) (new : List ℤ) (old now : List A) (i : ℕ) (x : A) → x ≡ get_or now i x → IsFront new (map value old) i (map value now) → length new ≡ length (map value old) → i < length now
    → (i < length (map r (map value old))) × (get_or (map r (map value old)) i (value x) ≡ r (value x))
each_here value r new old now i x is front long lt =
    let row = each_row value r new old now i x front long lt in
    (row.0, row.1 ∙ ap (λ z. r (value z)) (sym is))

pub each_step : {A : Type 0} (value : A → ℤ) (f r : ℤ → ℤ) (old now : List A) (i : ℕ) (d y : A)
    → IsFront (map f (map r (map value old))) (map value old) i (map value now) → i < length now → value y ≡ f (r (value (get_or now i d)))
    → IsFront (map f (map r (map value old))) (map value old) (i + 1) (map value (set now i y))
each_step value f r old now i d y front lt made =
    let rows = map r (map value old) in
    let e : length (map f rows) ≡ length (map value old) = length-map rows f ∙ each_long value r old in
    let row = each_row value r (map f rows) old now i d front e lt in
    written value (map f rows) old now i d y front e lt (made ∙ sym (policy_at f rows i (value d) _ row.0 row.1))

-- ---- two blocks
pair_row : {A : Type 0} (value : A → ℤ) (r : ℤ → ℤ → ℤ) (new : List ℤ) (old others now : List A) (i : ℕ) (d e : A) → length old ≡ length others → IsFront new (map value old) i (map value now) → length new ≡ length (map value old) → i < length now
    → (i < length (of_pairs r (map value old) (map value others))) × (get_or (of_pairs r (map value old) (map value others)) i (value d) ≡ r (value (get_or now i d)) (value (get_or others i e)))
pair_row value r new old others now i d e same front long lt =
    let xs = map value old in
    let ys = map value others in
    let next = next_is value new old now i d front long lt in
    let both : length xs ≡ length ys = length-map old value ∙ same ∙ sym (length-map others value) in
    let other : get_or ys i (value d) ≡ value (get_or others i e) = get_or-map value others i e (value d) (omega (arith, next.0, length-map old value, same)) in
    (omega (arith, next.0, length_pairs r xs ys both), pairs_at r xs ys i (value d) next.0 both ∙ ap (λ z. r z (get_or ys i (value d))) next.1 ∙ ap (r (value (get_or now i d))) other)

-- likewise by the elements
pub pair_here : {A : Type 0} (value : A → ℤ) (r : ℤ → ℤ → ℤ) (new : List ℤ) (old others now : List A) (i : ℕ) (x o : A) → length old ≡ length others → x ≡ get_or now i x → o ≡ get_or others i o
    → IsFront new (map value old) i (map value now) → length new ≡ length (map value old) → i < length now
    → (i < length (of_pairs r (map value old) (map value others))) × (get_or (of_pairs r (map value old) (map value others)) i (value x) ≡ r (value x) (value o))
pair_here value r new old others now i x o same first second front long lt =
    let row = pair_row value r new old others now i x o same front long lt in
    (row.0, row.1 ∙ ap (λ z. r (value z) (value (get_or others i o))) (sym first) ∙ ap (λ z. r (value x) (value z)) (sym second))

pub pairs_long : {A : Type 0} (value : A → ℤ) (r : ℤ → ℤ → ℤ) (old others : List A) → length old ≡ length others → length (of_pairs r (map value old) (map value others)) ≡ length (map value old)
pairs_long value r old others same = length_pairs r (map value old) (map value others) (length-map old value ∙ same ∙ sym (length-map others value))

pub pair_step : {A : Type 0} (value : A → ℤ) (f : ℤ → ℤ) (r : ℤ → ℤ → ℤ) (old others now : List A) (i : ℕ) (x o y : A) → length old ≡ length others → x ≡ get_or now i x → o ≡ get_or others i o
    → IsFront (map f (of_pairs r (map value old) (map value others))) (map value old) i (map value now) → i < length now → value y ≡ f (r (value x) (value o))
    → IsFront (map f (of_pairs r (map value old) (map value others))) (map value old) (i + 1) (map value (set now i y))
pair_step value f r old others now i x o y same first second front lt made =
    let rows = of_pairs r (map value old) (map value others) in
    let long : length (map f rows) ≡ length (map value old) = length-map rows f ∙ pairs_long value r old others same in
    let row = pair_here value r (map f rows) old others now i x o same first second front long lt in
    written value (map f rows) old now i x y front long lt (made ∙ sym (policy_at f rows i (value x) _ row.0 row.1))

-- all are written
front_ends : (new old : List ℤ) (i : ℕ) → length new ≡ length old → length old ≤ i → take i new ++ drop i old ≡ new
front_ends [] [] zero e le = refl
front_ends [] [] (suc i) e le = refl
front_ends [] (x ∷ old) i e le = absurd (omega arith)
front_ends (p ∷ new) [] i e le = absurd (omega arith)
front_ends (p ∷ new) (x ∷ old) zero e le = absurd (omega arith)
front_ends (p ∷ new) (x ∷ old) (suc i) e le = ap (λ l. p ∷ l) (front_ends new old i (omega arith) (omega arith))

pub all_written : (new old now : List ℤ) (i : ℕ) → IsFront new old i now → length new ≡ length old → length old ≤ i → now ≡ new
all_written new old now i front e le = front ∙ front_ends new old i e le

-- ---- how many fit
more_step : (b : Bool) (n i : ℕ) → suc i ≤ cond b (1 + n) 0 → (i ≤ n → i + 1 ≤ n) → suc i + 1 ≤ cond b (1 + n) 0
more_step true n i le more = let m = more (omega (arith, le)) in omega (arith, m)
more_step false n i le more = absurd (omega (arith, le))

pub one_more : (test : ℤ → Bool) (rows : List ℤ) (i : ℕ) (d : ℤ) → i ≤ prefix_len test rows → i < length rows → test (get_or rows i d) ≡ true → i + 1 ≤ prefix_len test rows
one_more test [] i d le lt hit = absurd (omega arith)
one_more test (x ∷ rows) zero d le lt hit = rw hit (omega arith)
one_more test (x ∷ rows) (suc i) d le lt hit = more_step (test x) (prefix_len test rows) i le (λ l. one_more test rows i d l (omega arith) hit)

stop_step : (b : Bool) (n i : ℕ) → suc i ≤ cond b (1 + n) 0 → (i ≤ n → n ≡ i) → cond b (1 + n) 0 ≡ suc i
stop_step true n i le stop = let e = stop (omega (arith, le)) in omega (arith, e)
stop_step false n i le stop = absurd (omega (arith, le))

pub no_more : (test : ℤ → Bool) (rows : List ℤ) (i : ℕ) (d : ℤ) → i ≤ prefix_len test rows → i < length rows → test (get_or rows i d) ≡ false → prefix_len test rows ≡ i
no_more test [] i d le lt miss = absurd (omega arith)
no_more test (x ∷ rows) zero d le lt miss = rw miss refl
no_more test (x ∷ rows) (suc i) d le lt miss = stop_step (test x) (prefix_len test rows) i le (λ l. no_more test rows i d l (omega arith) miss)

pub all_fit : (test : ℤ → Bool) (rows : List ℤ) (i : ℕ) → i ≤ prefix_len test rows → length rows ≤ i → prefix_len test rows ≡ length rows
all_fit test rows i le long = let most = prefix_len-le-length test rows in omega (arith, most)

-- ---- the checked policy
-- the number fits, or there is none
fits_of : (s : Bool) (n : ℕ) (x v : ℤ) → Some v ≡ checked s n (Some x) → (fits s n x ≡ true) × (v ≡ x)
fits_of s n x v e = by_test (fits s n x) refl (e)
  where
    by_test : (b : Bool) → fits s n x ≡ b → Some v ≡ (if b then Some x else None) → (fits s n x ≡ true) × (v ≡ x)
    by_test true is e = (is, same_Some v x e)
    by_test false is e = absurd (cc)

misfit_of : (s : Bool) (n : ℕ) (x : ℤ) → None ≡ checked s n (Some x) → fits s n x ≡ false
misfit_of s n x e = by_test (fits s n x) refl e
  where
    by_test : (b : Bool) → fits s n x ≡ b → None ≡ (if b then Some x else None) → fits s n x ≡ false
    by_test true is e = absurd (cc)
    by_test false is e = is

-- the loop stops at the first one that does not fit
pub stops : (s : Bool) (n : ℕ) (rows xs now : List ℤ) (i : ℕ) (d x : ℤ) → IsFront rows xs i now → i ≤ fitting s n rows → i < length rows → get_or rows i d ≡ x → None ≡ checked s n (Some x)
    → (Some i ≡ misfit s n rows) × (now ≡ checked_block s n rows xs)
stops s n rows xs now i d x front le lt is none =
    let found = no_more (fits s n) rows i d le lt (ap (fits s n) is ∙ misfit_of s n x none) in
    let less : (fitting s n rows == length rows) ≡ false = grind (arith, nat_tests, found, lt) in
    (sym (ap (λ b. if b then None else Some (fitting s n rows)) less ∙ ap Some found), front ∙ ap (λ k. take k rows ++ drop k xs) (sym found))

-- or goes on
pub goes_on : (s : Bool) (n : ℕ) (rows : List ℤ) (i : ℕ) (d x v : ℤ) → i ≤ fitting s n rows → i < length rows → get_or rows i d ≡ x → Some v ≡ checked s n (Some x) → (i + 1 ≤ fitting s n rows) × (v ≡ get_or rows i d)
goes_on s n rows i d x v le lt is some =
    let h = fits_of s n x v some in
    (one_more (fits s n) rows i d le lt (ap (fits s n) is ∙ h.0), h.1 ∙ sym is)

-- to the end
pub ends : (s : Bool) (n : ℕ) (rows xs now : List ℤ) (i : ℕ) → IsFront rows xs i now → i ≤ fitting s n rows → length rows ≤ i → (None ≡ misfit s n rows) × (now ≡ checked_block s n rows xs)
ends s n rows xs now i front le long =
    let all = all_fit (fits s n) rows i le long in
    let most = prefix_len-le-length (fits s n) rows in
    let is : i ≡ fitting s n rows = omega (arith, le, long, most) in
    let same : (fitting s n rows == length rows) ≡ true = grind (arith, nat_tests, all) in
    (sym (ap (λ b. if b then None else Some (fitting s n rows)) same), front ∙ ap (λ k. take k rows ++ drop k xs) is)
