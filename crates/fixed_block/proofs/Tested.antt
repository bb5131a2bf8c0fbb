-- Blocks whose results are tested before they are written.
use Rattle.std.proofs.Common.{rules, ◌≡◌, ◌+◌, ◌<◌, ◌≤◌, ◌&&◌, ◌++◌, ℕ, ℤ, zero, suc, Bool, true, false, List, [], ◌∷◌, map, take, drop, length, get_or, refl, sym, ap, ◌∙◌, cond, arith}
use Rattle.std.specs.List.{list_all, prefix_len, slice_range}
use Rattle.std.proofs.lemmas.List.{drop-map, length-map, map-append, take-append-drop, take-map}
use Rattle.std.proofs.lemmas.List.Folds.{drop_split, list_all_more}
use Rattle.fixed_word.specs.Format.{fits, wrap}
use Rattle.fixed_word.proofs.Nearest.{fits_is}
use Rattle.fixed_word.proofs.Wraps.{wrap_same}
use Rattle.fixed_block.specs.Blocks.{checked_block, fitting, of_pairs, wrapping_block}
use Rattle.fixed_block.proofs.Fronts.{each_here, no_more, one_more, pair_here}

-- where a front passes, what passes after it counts on
passed : (p : ℤ → Bool) (front rest : List ℤ) → list_all p front ≡ true → prefix_len p (front ++ rest) ≡ length front + prefix_len p rest
passed p [] rest e = omega arith
passed p (x ∷ front) rest e = by_test (p x) e (passed p front rest)
  where
    by_test : (b : Bool) → (b && list_all p front) ≡ true → (list_all p front ≡ true → prefix_len p (front ++ rest) ≡ length front + prefix_len p rest) → cond b (1 + prefix_len p (front ++ rest)) 0 ≡ suc (length front) + prefix_len p rest
    by_test true e more = let m = more e in omega (arith, m)
    by_test false e more = absurd (cc)

pub more_passed : (p : ℤ → Bool) (all part front rest : List ℤ) (i k : ℕ) → prefix_len p all ≡ i + prefix_len p part → part ≡ front ++ rest → length front ≡ k → list_all p front ≡ true → prefix_len p all ≡ i + k + prefix_len p rest
more_passed p all part front rest i k so split long all_pass =
    let e = ap (prefix_len p) split ∙ passed p front rest all_pass in
    omega (arith, so, e, long)

-- the results of a block that is split
pub each_split : {A : Type 0} (value : A → ℤ) (r : ℤ → ℤ) (xs : List A) (i j : ℕ) → i ≤ j → map r (map value (drop i xs)) ≡ map r (map value (slice_range xs i j)) ++ map r (map value (drop j xs))
each_split value r xs i j le =
    ap (λ l. map r (map value l)) (drop_split xs i j le) ∙ ap (map r) (map-append value (slice_range xs i j) (drop j xs)) ∙ map-append r (map value (slice_range xs i j)) (map value (drop j xs))

pairs_append : (r : ℤ → ℤ → ℤ) (a b c d : List ℤ) → length a ≡ length b → of_pairs r (a ++ c) (b ++ d) ≡ of_pairs r a b ++ of_pairs r c d
pairs_append r [] [] c d e = refl
pairs_append r [] (y ∷ b) c d e = absurd (omega arith)
pairs_append r (x ∷ a) [] c d e = absurd (omega arith)
pairs_append r (x ∷ a) (y ∷ b) c d e = ap (λ l. r x y ∷ l) (pairs_append r a b c d (omega arith))

pub pairs_split : {A : Type 0} (value : A → ℤ) (r : ℤ → ℤ → ℤ) (xs ys : List A) (i j : ℕ) → i ≤ j → length (slice_range xs i j) ≡ length (slice_range ys i j)
    → of_pairs r (map value (drop i xs)) (map value (drop i ys)) ≡ of_pairs r (map value (slice_range xs i j)) (map value (slice_range ys i j)) ++ of_pairs r (map value (drop j xs)) (map value (drop j ys))
pairs_split value r xs ys i j le same =
    let first : map value (drop i xs) ≡ map value (slice_range xs i j) ++ map value (drop j xs) = ap (map value) (drop_split xs i j le) ∙ map-append value (slice_range xs i j) (drop j xs) in
    let second : map value (drop i ys) ≡ map value (slice_range ys i j) ++ map value (drop j ys) = ap (map value) (drop_split ys i j le) ∙ map-append value (slice_range ys i j) (drop j ys) in
    rw (first, second) (pairs_append r _ _ _ _ (length-map (slice_range xs i j) value ∙ same ∙ sym (length-map (slice_range ys i j) value)))

-- what fits does not change when it is wrapped
pub kept_front : (s : Bool) (n : ℕ) (rows : List ℤ) → 0 < n → map (wrap s n) (take (fitting s n rows) rows) ≡ take (fitting s n rows) rows
kept_front s n [] h = refl
kept_front s n (x ∷ rows) h = by_test (fits s n x) refl (kept_front s n rows h)
  where
    by_test : (b : Bool) → fits s n x ≡ b → map (wrap s n) (take (fitting s n rows) rows) ≡ take (fitting s n rows) rows → map (wrap s n) (take (cond b (1 + fitting s n rows) 0) (x ∷ rows)) ≡ take (cond b (1 + fitting s n rows) 0) (x ∷ rows)
    by_test true is more =
        let in_range = (fits_is s n x).0 (rw is (search rules)) in
        let next : 1 + fitting s n rows ≡ suc (fitting s n rows) = omega arith in
        rw next (ap (λ z. z ∷ map (wrap s n) (take (fitting s n rows) rows)) (wrap_same s n x h in_range) ∙ ap (λ l. x ∷ l) more)
    by_test false is more = refl

kept_block : (s : Bool) (n : ℕ) (rows xs part : List ℤ) (k : ℕ) → 0 < n → k ≡ fitting s n rows → part ≡ map (wrap s n) (take k rows) → part ++ drop k xs ≡ checked_block s n rows xs
kept_block s n rows xs part k h e made =
    let kept : map (wrap s n) (take k rows) ≡ take k rows = ap (λ j. map (wrap s n) (take j rows)) e ∙ kept_front s n rows h ∙ ap (λ j. take j rows) (sym e) in
    ap (λ l. l ++ drop k xs) (made ∙ kept) ∙ ap (λ j. take j rows ++ drop j xs) e

-- the block after its front is wrapped
values_apart : {A : Type 0} (value : A → ℤ) (front xs : List A) (k : ℕ) → map value (front ++ drop k xs) ≡ map value front ++ drop k (map value xs)
values_apart value front xs k = map-append value front (drop k xs) ∙ ap (λ l. map value front ++ l) (sym (drop-map value k xs))

pub each_kept : {A : Type 0} (value : A → ℤ) (r : ℤ → ℤ) (s : Bool) (n : ℕ) (xs front : List A) (k : ℕ) → 0 < n → k ≡ fitting s n (map r (map value xs)) → map value front ≡ wrapping_block s n (map r (map value (take k xs)))
    → map value (front ++ drop k xs) ≡ checked_block s n (map r (map value xs)) (map value xs)
each_kept value r s n xs front k h e made =
    let part : map r (map value (take k xs)) ≡ take k (map r (map value xs)) = ap (map r) (sym (take-map value k xs)) ∙ sym (take-map r k (map value xs)) in
    values_apart value front xs k ∙ kept_block s n (map r (map value xs)) (map value xs) (map value front) k h e (made ∙ ap (map (wrap s n)) part)

pub pairs_take : (r : ℤ → ℤ → ℤ) (k : ℕ) (a b : List ℤ) → of_pairs r (take k a) (take k b) ≡ take k (of_pairs r a b)
pairs_take r zero a b = refl
pairs_take r (suc k) [] b = refl
pairs_take r (suc k) (x ∷ a) [] = refl
pairs_take r (suc k) (x ∷ a) (y ∷ b) = ap (λ l. r x y ∷ l) (pairs_take r k a b)

pub pairs_kept : {A : Type 0} (value : A → ℤ) (r : ℤ → ℤ → ℤ) (s : Bool) (n : ℕ) (xs ys front : List A) (k : ℕ) → 0 < n → k ≡ fitting s n (of_pairs r (map value xs) (map value ys)) → map value front ≡ wrapping_block s n (of_pairs r (map value (take k xs)) (map value (take k ys)))
    → map value (front ++ drop k xs) ≡ checked_block s n (of_pairs r (map value xs) (map value ys)) (map value xs)
pairs_kept value r s n xs ys front k h e made =
    let first = take-map value k xs in
    let second = take-map value k ys in
    let part : of_pairs r (map value (take k xs)) (map value (take k ys)) ≡ take k (of_pairs r (map value xs) (map value ys)) = rw (sym first, sym second) (pairs_take r k (map value xs) (map value ys)) in
    values_apart value front xs k ∙ kept_block s n (of_pairs r (map value xs) (map value ys)) (map value xs) (map value front) k h e (made ∙ ap (map (wrap s n)) part)

-- ---- number by number
pub each_at : {A : Type 0} (value : A → ℤ) (r : ℤ → ℤ) (xs : List A) (i : ℕ) (x : A) → x ≡ get_or xs i x → i < length xs → (i < length (map r (map value xs))) × (get_or (map r (map value xs)) i (value x) ≡ r (value x))
each_at value r xs i x is lt = each_here value r (map value xs) xs xs i x is (sym (take-append-drop i (map value xs))) refl lt

pub pair_at : {A : Type 0} (value : A → ℤ) (r : ℤ → ℤ → ℤ) (xs ys : List A) (i : ℕ) (x y : A) → length xs ≡ length ys → x ≡ get_or xs i x → y ≡ get_or ys i y → i < length xs
    → (i < length (of_pairs r (map value xs) (map value ys))) × (get_or (of_pairs r (map value xs) (map value ys)) i (value x) ≡ r (value x) (value y))
pair_at value r xs ys i x y same first second lt = pair_here value r (map value xs) xs ys xs i x y same first second (sym (take-append-drop i (map value xs))) refl lt

pub stopped : (test : ℤ → Bool) (rows : List ℤ) (i : ℕ) (d x : ℤ) (b : Bool) → i ≤ prefix_len test rows → (i < length rows) × (get_or rows i d ≡ x) → b ≡ test x → b ≡ false → i ≡ prefix_len test rows
stopped test rows i d x b le row is miss = sym (no_more test rows i d le row.0 (ap test row.1 ∙ sym is ∙ miss))

pub passed_on : (test : ℤ → Bool) (rows : List ℤ) (i : ℕ) (d x : ℤ) (b : Bool) → i ≤ prefix_len test rows → (i < length rows) × (get_or rows i d ≡ x) → b ≡ test x → b ≡ true → i + 1 ≤ prefix_len test rows
passed_on test rows i d x b le row is hit = one_more test rows i d le row.0 (ap test row.1 ∙ sym is ∙ hit)

pub one_passed : (test : ℤ → Bool) (rows : List ℤ) (i : ℕ) (d x : ℤ) (before b : Bool) → before ≡ list_all test (take i rows) → (i < length rows) × (get_or rows i d ≡ x) → b ≡ test x → (before && b) ≡ list_all test (take (i + 1) rows)
one_passed test rows i d x before b so row is = rw (so, is, sym row.1) (sym (list_all_more test rows i d row.0))
