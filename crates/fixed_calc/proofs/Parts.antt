-- A byte counted part by part.
use Rattle.std.proofs.Common.{◌≡◌, ◌+◌, ℕ, Bool, List, take, drop, ap, arith}
use Rattle.std.proofs.lemmas.Grind.{common_steps}
use Rattle.std.specs.List.{count_by}
use Rattle.std.proofs.lemmas.List.Sums.{sum_by-take-drop}

-- what was counted, and what stands from a place on, is the whole; so it is with the next part
pub part_counted : (p : ℕ → Bool) (text : List ℕ) (at n count all : ℕ) → count + count_by p (drop at text) ≡ all → count + count_by p (take n (drop at text)) + count_by p (drop (at + n) text) ≡ all
part_counted p text at n count all is =
    let on : drop n (drop at text) ≡ drop (at + n) text = grind (arith, common_steps) in
    let parts : count_by p (take n (drop at text)) + count_by p (drop n (drop at text)) ≡ count_by p (drop at text) = sum_by-take-drop _ (drop at text) n in
    let same : count_by p (drop n (drop at text)) ≡ count_by p (drop (at + n) text) = ap (count_by p) on in
    omega (arith, is, parts, same)
