-- There are at most as many pieces as bytes.
use Rattle.std.proofs.Common.{◌≤◌, ℕ, suc, List, [], ◌∷◌, length, Bool, true, false, cond, eqb, arith}
use Rattle.std.specs.List.{onto_first}
use Rattle.fixed_word.specs.Pieces.{pieces}

length_onto_first : (x : ℕ) (ps : List (List ℕ)) → length (onto_first x ps) ≤ suc (length ps)
length_onto_first x [] = omega arith
length_onto_first x (p ∷ ps) = omega arith

pub length_pieces : (xs : List ℕ) → length (pieces xs) ≤ length xs
length_pieces [] = omega arith
length_pieces (x ∷ xs) = by_test (eqb x 10) (length_pieces xs)
  where
    by_test : (b : Bool) → length (pieces xs) ≤ length xs → length (cond b ((10 ∷ []) ∷ pieces xs) (onto_first x (pieces xs))) ≤ suc (length xs)
    by_test true few = omega arith
    by_test false few = let more = length_onto_first x (pieces xs) in omega arith
