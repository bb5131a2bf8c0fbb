-- The first piece of a script ends at the first newline.
use Rattle.std.proofs.Common.{◌≡◌, ℕ, suc, ◌+◌, ◌<◌, ◌≤◌, List, [], ◌∷◌, take, drop, length, eqb, not, Bool, true, false, cond, sym, refl, ap, ◌∙◌, arith, Some, None}
use Rattle.std.specs.List.{position, position_or_len, onto_first, concat}
use Rattle.std.proofs.lemmas.Bool.{eqb-true}
use Rattle.std.proofs.Math.Seq.{take-length, drop-length}
use Rattle.fixed_word.specs.Pieces.{pieces}
use Rattle.fixed_text.proofs.Cuts.{position_place, no_position}

abbrev newline : ℕ → Bool
newline b = eqb b 10

first_by : (xs : List ℕ) → position_or_len newline xs < length xs → pieces xs ≡ take (suc (position_or_len newline xs)) xs ∷ pieces (drop (suc (position_or_len newline xs)) xs)
first_by [] lt = absurd (omega arith)
first_by (x ∷ xs) lt = from (newline x) refl lt (first_by xs)
  where
    from : (b : Bool) → newline x ≡ b → cond (not b) (1 + position_or_len newline xs) 0 < suc (length xs)
        → (position_or_len newline xs < length xs → pieces xs ≡ take (suc (position_or_len newline xs)) xs ∷ pieces (drop (suc (position_or_len newline xs)) xs))
        → cond b ((10 ∷ []) ∷ pieces xs) (onto_first x (pieces xs))
        ≡ take (suc (cond (not b) (1 + position_or_len newline xs) 0)) (x ∷ xs) ∷ pieces (drop (suc (cond (not b) (1 + position_or_len newline xs) 0)) (x ∷ xs))
    from true is lt later = ap (λ c. (c ∷ []) ∷ pieces xs) (sym (eqb-true x 10 is))
    from false is lt later =
        let e = later (omega arith) in
        let one : 1 + position_or_len newline xs ≡ suc (position_or_len newline xs) = omega arith in
        ap (onto_first x) e ∙ ap (λ n. (x ∷ take n xs) ∷ pieces (drop n xs)) (sym one)

rest_by : (x : ℕ) (xs : List ℕ) → suc (length xs) ≤ position_or_len newline (x ∷ xs) → pieces (x ∷ xs) ≡ (x ∷ xs) ∷ []
rest_by x [] le = from (newline x) refl le
  where
    from : (b : Bool) → newline x ≡ b → 1 ≤ cond (not b) (1 + 0) 0 → cond b ((10 ∷ []) ∷ []) ((x ∷ []) ∷ []) ≡ (x ∷ []) ∷ []
    from true is le = absurd (omega arith)
    from false is le = refl
rest_by x (y ∷ ys) le = from (newline x) refl le (rest_by y ys)
  where
    from : (b : Bool) → newline x ≡ b → suc (suc (length ys)) ≤ cond (not b) (1 + position_or_len newline (y ∷ ys)) 0
        → (suc (length ys) ≤ position_or_len newline (y ∷ ys) → pieces (y ∷ ys) ≡ (y ∷ ys) ∷ [])
        → cond b ((10 ∷ []) ∷ pieces (y ∷ ys)) (onto_first x (pieces (y ∷ ys))) ≡ (x ∷ y ∷ ys) ∷ []
    from true is le later = absurd (omega arith)
    from false is le later = ap (onto_first x) (later (omega arith))

pub first_some : (xs a b : List ℕ) (i : ℕ) → position newline xs ≡ Some i → a ≡ take (i + 1) xs → b ≡ drop (i + 1) xs → pieces xs ≡ a ∷ pieces b
first_some xs a b i e front back =
    let at = position_place newline xs i e in
    let lt : position_or_len newline xs < length xs = omega arith in
    let one : suc (position_or_len newline xs) ≡ i + 1 = omega arith in
    first_by xs lt ∙ ap (λ n. take n xs ∷ pieces (drop n xs)) one ∙ ap (λ a. a ∷ pieces (drop (i + 1) xs)) (sym front) ∙ ap (λ b. a ∷ pieces b) (sym back)

pub first_none : (xs a b : List ℕ) → position newline xs ≡ None → 0 < length xs → a ≡ take (length xs) xs → b ≡ drop (length xs) xs → pieces xs ≡ a ∷ pieces b
first_none [] a b e lt front back = absurd (omega arith)
first_none (x ∷ xs) a b e lt front back =
    let whole = take-length (x ∷ xs) in
    let none = drop-length (x ∷ xs) in
    rest_by x xs (no_position newline (x ∷ xs) e) ∙ ap (λ a. a ∷ pieces []) (sym (front ∙ whole)) ∙ ap (λ b. a ∷ pieces b) (sym (back ∙ none))

-- the pieces, one after another, are the script
join_onto : (x : ℕ) (ps : List (List ℕ)) → concat (onto_first x ps) ≡ x ∷ concat ps
join_onto x [] = refl
join_onto x (p ∷ ps) = refl

pub pieces_joined : (xs : List ℕ) → concat (pieces xs) ≡ xs
pieces_joined [] = refl
pieces_joined (x ∷ xs) = from (newline x) refl (pieces_joined xs)
  where
    from : (b : Bool) → newline x ≡ b → concat (pieces xs) ≡ xs → concat (cond b ((10 ∷ []) ∷ pieces xs) (onto_first x (pieces xs))) ≡ x ∷ xs
    from true is later = ap (λ ys. 10 ∷ ys) later ∙ ap (λ c. c ∷ xs) (sym (eqb-true x 10 is))
    from false is later = join_onto x (pieces xs) ∙ ap (λ ys. x ∷ ys) later
