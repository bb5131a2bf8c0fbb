-- Lemmas on the parts of a list between its separators.
use Rattle.std.proofs.Common.{◌≡◌, ℕ, ◌+◌, ◌-◌, ◌<◌, ◌≤◌, List, [], ◌∷◌, take, drop, length, arith, true, false, Bool, eqb, sym, ◌∙◌, ap, refl, Option, Some, None, is_some, not}
use Rattle.std.specs.List.{slice_split, position, position_or_len}
use Rattle.std.proofs.lemmas.List.Splits.{slice_split_none, slice_split_first, length-slice_split}
use Rattle.std.proofs.lemmas.List.Sums.{fails_before_first}
use Rattle.std.proofs.lemmas.Grind.{common_steps}
use denote.Ref.{Bor}
use Rattle.fixed_text.specs.Tokens.{tokens_of, tokens_left}

pub position_place : (p : ℕ → Bool) (xs : List ℕ) (i : ℕ) → position p xs ≡ Some i → (position_or_len p xs ≡ i) × (i < length xs)
position_place p xs i e = grind (arith, common_steps)

pub cut_some : (p : ℕ → Bool) (xs : List ℕ) (i : ℕ) → position p xs ≡ Some i → slice_split p xs ≡ take i xs ∷ slice_split p (take (length xs - (i + 1)) (drop (i + 1) xs))
cut_some p xs i e =
    let at = position_place p xs i e in
    let lt : position_or_len p xs < length xs = omega arith in
    let whole : take (length xs - (i + 1)) (drop (i + 1) xs) ≡ drop (i + 1) xs = grind (arith, common_steps) in
    slice_split_first p xs 0 lt ∙ ap (λ k. take k xs ∷ slice_split p (drop (k + 1) xs)) at.0 ∙ ap (λ ys. take i xs ∷ slice_split p ys) (sym whole)

pub no_position : (p : ℕ → Bool) (xs : List ℕ) → position p xs ≡ None → length xs ≤ position_or_len p xs
no_position p xs e = grind (arith, common_steps)

pub cut_none : (p : ℕ → Bool) (xs : List ℕ) → position p xs ≡ None → slice_split p xs ≡ xs ∷ []
cut_none p xs e =
    let past = no_position p xs e in
    slice_split_none p xs (λ k d lt. fails_before_first p xs k d (omega arith))

pub none_left : (b : Bool) (r : Option (Bor (List ℕ))) → is_some r ≡ not b → b ≡ eqb (length (tokens_left r)) 0
none_left true None e = refl
none_left false None e = cc
none_left true (Some rest) e = cc
none_left false (Some rest) e = rw length-slice_split (grind arith)

-- there is at least one token, maybe empty
pub tokens_some : (bytes : List ℕ) → 0 < length (tokens_of bytes)
tokens_some bytes = rw length-slice_split (omega arith)
