-- A block of which a part is written at once.
use Rattle.std.proofs.Common.{◌≡◌, ◌+◌, ◌≤◌, ◌++◌, ℕ, ℤ, zero, suc, List, [], ◌∷◌, map, take, drop, length, refl, sym, ap, ◌∙◌, arith}
use borrow.Rule.Slice.PartMut.{put_mid}
use Rattle.std.proofs.lemmas.List.{drop-map, length-map, map-append, take-map}
use Rattle.fixed_block.specs.Blocks.{of_pairs}
use Rattle.fixed_block.proofs.Fronts.{IsFront, all_written, each_long, pairs_long}
use Rattle.fixed_block.proofs.Tested.{pairs_take}

-- ---- lists of numbers
drop_front : (new old : List ℤ) (i : ℕ) → length new ≡ length old → drop i (take i new ++ drop i old) ≡ drop i old
drop_front new old zero e = refl
drop_front [] [] (suc i) e = refl
drop_front [] (x ∷ old) (suc i) e = absurd (omega arith)
drop_front (p ∷ new) [] (suc i) e = absurd (omega arith)
drop_front (p ∷ new) (x ∷ old) (suc i) e = drop_front new old i (omega arith)

nothing_more : (k : ℕ) → ◌≡◌ {A = List ℤ} [] (take k [] ++ drop k [])
nothing_more zero = refl
nothing_more (suc k) = refl

more_front : (new old : List ℤ) (i k : ℕ) → length new ≡ length old → take i (take i new ++ drop i old) ++ (take k (drop i new) ++ drop k (drop i (take i new ++ drop i old))) ≡ take (i + k) new ++ drop (i + k) old
more_front new old zero k e = let none : 0 + k ≡ k = omega arith in rw none refl
more_front [] [] (suc i) k e = sym (nothing_more k) ∙ nothing_more (suc i + k)
more_front [] (x ∷ old) (suc i) k e = absurd (omega arith)
more_front (p ∷ new) [] (suc i) k e = absurd (omega arith)
more_front (p ∷ new) (x ∷ old) (suc i) k e = let next : suc i + k ≡ suc (i + k) = omega arith in rw next (ap (λ l. p ∷ l) (more_front new old i k (omega arith)))

-- ---- blocks
pub part_written : {A : Type 0} (value : A → ℤ) (new : List ℤ) (old now part : List A) (i k j : ℕ) → length new ≡ length (map value old) → IsFront new (map value old) i (map value now) → map value part ≡ take k (drop i new) → i + k ≡ j
    → IsFront new (map value old) j (map value (put_mid i k now part))
part_written value new old now part i k j e front made to =
    let parts : map value (put_mid i k now part) ≡ take i (map value now) ++ (map value part ++ drop k (drop i (map value now)))
    = map-append value (take i now) (part ++ drop k (drop i now))
    ∙ ap (λ l. map value (take i now) ++ l) (map-append value part (drop k (drop i now)))
    ∙ ap (λ l. l ++ (map value part ++ map value (drop k (drop i now)))) (sym (take-map value i now))
    ∙ ap (λ l. take i (map value now) ++ (map value part ++ l)) (sym (drop-map value k (drop i now)) ∙ ap (drop k) (sym (drop-map value i now))) in
    parts ∙ ap (λ l. take i (map value now) ++ (l ++ drop k (drop i (map value now)))) made
    ∙ ap (λ l. take i l ++ (take k (drop i new) ++ drop k (drop i l))) front
    ∙ more_front new (map value old) i k e ∙ ap (λ m. take m new ++ drop m (map value old)) to

pub rest_written : {A : Type 0} (value : A → ℤ) (new : List ℤ) (old now part : List A) (i k : ℕ) → length new ≡ length (map value old) → IsFront new (map value old) i (map value now) → map value part ≡ take k (drop i new) → length old ≤ i + k
    → map value (put_mid i k now part) ≡ new
rest_written value new old now part i k e front made long =
    all_written new (map value old) (map value (put_mid i k now part)) (i + k) (part_written value new old now part i k (i + k) e front made refl) e (omega (arith, length-map old value, long))

-- ---- the results of a part
-- what follows the front is as it was
same_rest : {A : Type 0} (value : A → ℤ) (new : List ℤ) (old now : List A) (i : ℕ) → length new ≡ length (map value old) → IsFront new (map value old) i (map value now) → map value (drop i now) ≡ drop i (map value old)
same_rest value new old now i e front = sym (drop-map value i now) ∙ ap (drop i) front ∙ drop_front new (map value old) i e

pub each_part : {A : Type 0} (value : A → ℤ) (f r : ℤ → ℤ) (old now : List A) (i k : ℕ) → IsFront (map f (map r (map value old))) (map value old) i (map value now)
    → map f (map r (map value (take k (drop i now)))) ≡ take k (drop i (map f (map r (map value old))))
each_part value f r old now i k front =
    let xs = map value old in
    let rest = same_rest value (map f (map r xs)) old now i (length-map (map r xs) f ∙ each_long value r old) front in
    ap (λ l. map f (map r l)) (sym (take-map value k (drop i now)) ∙ ap (take k) rest)
    ∙ ap (map f) (sym (take-map r k (drop i xs)) ∙ ap (take k) (sym (drop-map r i xs)))
    ∙ sym (take-map f k (drop i (map r xs))) ∙ ap (take k) (sym (drop-map f i (map r xs)))

pairs_drop : (r : ℤ → ℤ → ℤ) (i : ℕ) (a b : List ℤ) → length a ≡ length b → of_pairs r (drop i a) (drop i b) ≡ drop i (of_pairs r a b)
pairs_drop r zero a b e = refl
pairs_drop r (suc i) [] [] e = refl
pairs_drop r (suc i) [] (y ∷ b) e = absurd (omega arith)
pairs_drop r (suc i) (x ∷ a) [] e = absurd (omega arith)
pairs_drop r (suc i) (x ∷ a) (y ∷ b) e = pairs_drop r i a b (omega arith)

pub pairs_part : {A : Type 0} (value : A → ℤ) (f : ℤ → ℤ) (r : ℤ → ℤ → ℤ) (old others now : List A) (i k j : ℕ) → length old ≡ length others → j ≡ k → IsFront (map f (of_pairs r (map value old) (map value others))) (map value old) i (map value now)
    → map f (of_pairs r (map value (take k (drop i now))) (map value (take j (drop i others)))) ≡ take k (drop i (map f (of_pairs r (map value old) (map value others))))
pairs_part value f r old others now i k j same as_many front =
    let xs = map value old in
    let ys = map value others in
    let rows = of_pairs r xs ys in
    let both : length xs ≡ length ys = length-map old value ∙ same ∙ sym (length-map others value) in
    let first : map value (take k (drop i now)) ≡ take k (drop i xs) = sym (take-map value k (drop i now)) ∙ ap (take k) (same_rest value (map f rows) old now i (length-map rows f ∙ pairs_long value r old others same) front) in
    let second : map value (take j (drop i others)) ≡ take k (drop i ys) = ap (λ m. map value (take m (drop i others))) as_many ∙ sym (take-map value k (drop i others)) ∙ ap (take k) (sym (drop-map value i others)) in
    rw (first, second) (ap (map f) (pairs_take r k (drop i xs) (drop i ys) ∙ ap (take k) (pairs_drop r i xs ys both))
    ∙ sym (take-map f k (drop i rows)) ∙ ap (take k) (sym (drop-map f i rows)))
